use Rattle.std.proofs.Common.{◌≡◌, take, map}
use Rattle.dsr_goal.specs.Raws.{with_trim}
use Rattle.dsr_goal.proofs.literals.with_each_trim.Given as goal

abbrev pub invariant-loop-trim : goal.invariant-loop-trim
invariant-loop-trim l = l.templates.items ≡ map (with_trim l.supply) (take l.trim-index l.trims)
