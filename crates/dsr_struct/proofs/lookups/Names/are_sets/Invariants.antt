use Rattle.std.proofs.Common.{◌≡◌, drop}
use Rattle.dsr_language_theory.specs.Declarations.{all_sets}
use Rattle.dsr_struct.specs.Known.{known_of}
use Rattle.dsr_struct.proofs.lookups.Names.are_sets.Given as goal

abbrev pub invariant-loop-name : goal.invariant-loop-name
invariant-loop-name l = all_sets (known_of l.fn.self) (drop l.name-index l.names) ≡ all_sets (known_of l.fn.self) l.names
