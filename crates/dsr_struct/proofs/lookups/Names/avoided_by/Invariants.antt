use Rattle.std.proofs.Common.{◌≡◌, ◌∷◌, map, take}
use Rattle.dsr_language_theory.specs.Tables.{number_in}
use Rattle.dsr_struct.specs.Known.{known_of}
use Rattle.dsr_struct.proofs.lookups.Names.avoided_by.Given as goal

abbrev pub invariant-loop-set : goal.invariant-loop-set
invariant-loop-set l = l.numbers.items ≡ map (number_in (known_of l.fn.self).set) (l.fn.supply.first ∷ take l.set-index l.set-items)
