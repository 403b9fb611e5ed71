-- Words that are too few or too many for a command.
use Rattle.std.proofs.Common.{arith, ◌≡◌, ◌≤◌, ◌<◌, ℕ, List, [], ◌∷◌, length, map, None, refl}
use Rattle.dsr_words.specs.Words.{command_of}

module _ {A : Type 0} (bytes : A → List ℕ) where
  pub too_few : (words : List A) → length words < 2 → None ≡ command_of (map bytes words)
  too_few [] few = refl
  too_few (a ∷ []) few = refl
  too_few (a ∷ b ∷ more) few = absurd (omega arith)

  pub too_many : (words : List A) → 6 ≤ length words → None ≡ command_of (map bytes words)
  too_many [] many = absurd (omega arith)
  too_many (a ∷ []) many = absurd (omega arith)
  too_many (a ∷ b ∷ []) many = absurd (omega arith)
  too_many (a ∷ b ∷ c ∷ []) many = absurd (omega arith)
  too_many (a ∷ b ∷ c ∷ d ∷ []) many = absurd (omega arith)
  too_many (a ∷ b ∷ c ∷ d ∷ e ∷ []) many = absurd (omega arith)
  too_many (a ∷ b ∷ c ∷ d ∷ e ∷ f ∷ more) many = refl
