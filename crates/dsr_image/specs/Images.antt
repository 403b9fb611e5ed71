-- What is claimed of an image.
use Rattle.std.specs.Prelude.{◌≡◌, ◌≤◌, ◌<◌, ◌+◌, ◌/◌, ℕ, Bool, true}
use Rattle.dsr_ir.specs.declared.layouts.Cell.{Cell}

-- each byte of the range is claimed
abbrev pub AreClaimed : (ℕ → Bool) → ℕ → ℕ → Type 0
AreClaimed claimed at count = (i : ℕ) → at ≤ i → i < at + count → claimed i ≡ true

-- each byte in which the cell has a bit is claimed
abbrev pub IsCellClaimed : (ℕ → Bool) → Cell → Type 0
IsCellClaimed claimed cell =
    (j : ℕ) → cell.bit ≤ j → j < cell.bit + cell.width → claimed (j / 8) ≡ true

-- what was claimed stays so
abbrev pub StayClaimed : (ℕ → Bool) → (ℕ → Bool) → Type 0
StayClaimed old new = (i : ℕ) → old i ≡ true → new i ≡ true
