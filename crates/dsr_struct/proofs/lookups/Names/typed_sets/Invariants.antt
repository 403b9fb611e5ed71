use Rattle.std.proofs.Common.{◌≡◌, map, take}
use Rattle.dsr_language_theory.specs.Tables.{typed_set}
use Rattle.dsr_struct.specs.Known.{known_of}
use Rattle.dsr_struct.proofs.lookups.Names.typed_sets.Given as goal

abbrev pub invariant-loop-set : goal.invariant-loop-set
invariant-loop-set l = l.typed.items ≡ map (typed_set (known_of l.fn.self)) (take l.set-index l.set-items)
