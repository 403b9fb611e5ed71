use Rattle.std.proofs.Common.{take}
use Rattle.std.specs.Str.{bytes_eq}
use Rattle.indexmap.specs.IndexMap.{get}
use Rattle.dsr_names.specs.Tables.{known_of}
use Rattle.dsr_constraint.proofs.Pass.{IsPassed}
use Rattle.dsr_constraint.proofs.checks.Checker.typed_constraints.Given as goal

abbrev pub invariant-loop-number : goal.invariant-loop-number
invariant-loop-number l = IsPassed (known_of l.self.known) l.self.constants.rules.now (get bytes_eq l.self.numbers.now) (take l.number l.constraints) l.fn.told.fault l.told.fault l.typed.items
