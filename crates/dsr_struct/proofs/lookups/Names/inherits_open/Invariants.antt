use Rattle.std.proofs.Common.{◌≡◌, drop}
use Rattle.dsr_language_theory.specs.Declarations.{is_open_structure, inherits_open}
use Rattle.dsr_meaning.specs.Lists.{any_of}
use Rattle.dsr_struct.specs.Known.{known_of}
use Rattle.dsr_struct.proofs.lookups.Names.inherits_open.Given as goal

abbrev pub invariant-loop-ancestor : goal.invariant-loop-ancestor
invariant-loop-ancestor l = any_of (is_open_structure (known_of l.fn.self)) (drop l.ancestor-index l.ancestor-items) ≡ inherits_open (known_of l.fn.self) l.fn.structure
