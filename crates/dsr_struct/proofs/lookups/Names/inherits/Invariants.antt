use Rattle.std.proofs.Common.{◌≡◌, drop, is_some}
use Rattle.dsr_language_theory.specs.Names.{inherits, own_field}
use Rattle.dsr_meaning.specs.Lists.{any_of}
use Rattle.dsr_struct.specs.Known.{known_of}
use Rattle.dsr_struct.proofs.lookups.Names.inherits.Given as goal

abbrev pub invariant-loop-ancestor : goal.invariant-loop-ancestor
invariant-loop-ancestor l = any_of (λ a. is_some (own_field (known_of l.fn.self) a l.fn.name)) (drop l.ancestor-index l.ancestor-items) ≡ inherits (known_of l.fn.self) l.fn.structure l.fn.name
