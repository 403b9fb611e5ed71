use Rattle.std.proofs.Common.{◌≡◌, take}
use Rattle.dsr_layout.specs.Tables.{clip}
use Rattle.dsr_ir.specs.Rules.{gives}
use Rattle.dsr_meaning.specs.Refusals.{instances_where}
use Rattle.dsr_layout.proofs.instances.symbol_instances.Given as goal

abbrev pub invariant-loop-rule : goal.invariant-loop-rule
invariant-loop-rule l = l.total ≡ clip (instances_where l.spec l.layout (gives l.symbol) (take l.rule-index l.spec.rules))
