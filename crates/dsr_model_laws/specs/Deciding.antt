-- What is decided.
use Rattle.std.specs.Prelude.{◌⊎◌}

-- it holds, or it doesn't
abbrev pub IsDecided : Type 0 → Type 0
IsDecided A = A ⊎ (A → ⊥)
