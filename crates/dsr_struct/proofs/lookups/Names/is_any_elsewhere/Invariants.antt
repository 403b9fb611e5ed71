use Rattle.std.proofs.Common.{◌≡◌, drop}
use Rattle.dsr_language_theory.specs.Declarations.{is_elsewhere}
use Rattle.dsr_meaning.specs.Lists.{any_of}
use Rattle.dsr_struct.specs.Known.{known_of}
use Rattle.dsr_struct.proofs.lookups.Names.is_any_elsewhere.Given as goal

abbrev pub invariant-loop-set : goal.invariant-loop-set
invariant-loop-set l = any_of (is_elsewhere (known_of l.fn.self) l.fn.pool) (drop l.set-index l.sets) ≡ any_of (is_elsewhere (known_of l.fn.self) l.fn.pool) l.sets
