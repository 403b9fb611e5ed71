-- What stands in a list stands in a longer one.
use Rattle.std.proofs.Common.{◌≡◌, ◌⊎◌, ◌++◌, List, [], ◌∷◌, refl, inl, inr}
use Rattle.dsr_meaning.specs.Counting.{IsIn}

pub last_in : {A : Type 0} (x : A) (xs : List A) → IsIn x (xs ++ x ∷ [])
last_in x [] = inl refl
last_in x (y ∷ xs) = inr (last_in x xs)

pub in_front_or_last : {A : Type 0} (x y : A) (xs : List A) → IsIn y (xs ++ x ∷ []) → IsIn y xs ⊎ (y ≡ x)
in_front_or_last x y [] (inl same) = inr same
in_front_or_last x y [] (inr h) = absurd h
in_front_or_last x y (z ∷ xs) (inl same) = inl (inl same)
in_front_or_last x y (z ∷ xs) (inr h) = elim (in_front_or_last x y xs h) [
  | inl front ↦ inl (inr front)
  | inr last ↦ inr last
]
