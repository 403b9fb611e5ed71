use Rattle.std.proofs.Common.{take}
use Rattle.dsr_language_theory.specs.Declarations.{supply_faults}
use Rattle.dsr_meaning.specs.Lists.{each_at}
use Rattle.dsr_struct.specs.Known.{known_of}
use Rattle.dsr_names.specs.Telling.{Finds}
use Rattle.dsr_struct.proofs.lookups.Names.check_supplies.Given as goal

abbrev pub invariant-loop-number : goal.invariant-loop-number
invariant-loop-number l = Finds (each_at (supply_faults (known_of l.fn.self)) 0 (take l.number l.supplies)) l.fn.told.fault l.told.fault
