use Rattle.std.proofs.Common.{take}
use Rattle.dsr_language_theory.specs.Declarations.{unknown_name}
use Rattle.dsr_meaning.specs.Lists.{each_at}
use Rattle.dsr_language_theory.specs.Names.{plain_set}
use Rattle.dsr_struct.specs.Known.{known_of}
use Rattle.dsr_names.specs.Telling.{Finds}
use Rattle.dsr_struct.proofs.lookups.Names.check_plain_sets.Given as goal

abbrev pub invariant-loop-name : goal.invariant-loop-name
invariant-loop-name l = Finds (each_at (λ _ q. unknown_name (plain_set (known_of l.fn.self)) q) 1 (take l.name-index l.names)) l.fn.told.fault l.told.fault
