use Rattle.std.proofs.Common.{◌≡◌, ◌<◌, ℕ, false, get_or, length}
use Rattle.dsr_effect.specs.Told.{is_foreign_structure}
use Rattle.dsr_effect.proofs.fields.foreign_structures.Given as goal

-- the structures so far are marked as they are
abbrev pub invariant-loop-structure : goal.invariant-loop-structure
invariant-loop-structure l =
    (length l.marks ≡ 64) × ((structure : ℕ) → structure < l.structure → get_or l.marks structure false ≡ is_foreign_structure l.structures l.writes structure)
