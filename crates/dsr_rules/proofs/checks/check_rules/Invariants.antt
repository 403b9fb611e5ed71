use Rattle.std.proofs.Common.{take}
use Rattle.dsr_meaning.specs.Lists.{each_at}
use Rattle.dsr_names.specs.Tables.{known_of}
use Rattle.dsr_language_theory.specs.RuleFaults.{rule_faults}
use Rattle.dsr_names.specs.Telling.{Finds}
use Rattle.dsr_rules.proofs.checks.check_rules.Given as goal

abbrev pub invariant-loop-number : goal.invariant-loop-number
invariant-loop-number l = Finds (each_at (rule_faults (known_of l.fn.known)) 0 (take l.number l.rules)) l.fn.told.fault l.told.fault
