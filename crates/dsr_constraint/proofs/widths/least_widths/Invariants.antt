use Rattle.std.proofs.Common.{take}
use Rattle.dsr_names.specs.Tables.{known_of}
use Rattle.dsr_constraint.proofs.Narrowest.{IsLowered}
use Rattle.dsr_constraint.proofs.widths.least_widths.Given as goal

abbrev pub invariant-loop-rule : goal.invariant-loop-rule
invariant-loop-rule l = IsLowered (known_of l.known) (take l.rule-index l.rules) l.least.items
