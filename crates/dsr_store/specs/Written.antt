-- What an output holds after a write, where it is told.
use Rattle.std.specs.Prelude.{◌≡◌, ℕ, List, ◌++◌, Option, take}
use Rattle.std.specs.Option.{option_map}

-- what was written before, and then the piece
abbrev pub appended : Option (List ℕ) → List ℕ → Option (List ℕ)
appended written piece = option_map (λ before. before ++ piece) written

-- some front of the piece was written
abbrev pub AppendsFront : Option (List ℕ) → Option (List ℕ) → List ℕ → Type 0
AppendsFront old new piece = (n : ℕ) × (new ≡ appended old (take n piece))
