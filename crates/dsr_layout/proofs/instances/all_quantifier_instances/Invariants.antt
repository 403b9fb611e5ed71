use Rattle.std.proofs.Common.{◌≡◌, take, map, sum}
use Rattle.dsr_layout.specs.Tables.{clip}
use Rattle.dsr_meaning.specs.Refusals.{quantifier_instances}
use Rattle.dsr_layout.proofs.instances.all_quantifier_instances.Given as goal

abbrev pub invariant-loop-constraint : goal.invariant-loop-constraint
invariant-loop-constraint l = l.total ≡ clip (sum (map (λ c. quantifier_instances l.spec l.layout c.quant) (take l.constraint-index l.constraints)))
