-- Items of lists, by their places.
use Rattle.std.proofs.Common.{◌≡◌, ℕ, zero, suc, List, [], ◌∷◌, None, length, map, slice_get, refl}

pub past_end : {T : Type 0} (xs : List T) → slice_get xs (length xs) ≡ None
past_end [] = refl
past_end (x ∷ xs) = past_end xs

pub no_item : {T : Type 0} (xs : List T) → slice_get xs 0 ≡ None → xs ≡ []
no_item [] none = refl
no_item (x ∷ xs) none = absurd cc

pub made_none : {A B : Type 0} (f : A → B) (xs : List A) (k : ℕ) → slice_get xs k ≡ None → slice_get (map f xs) k ≡ None
made_none f [] k none = refl
made_none f (y ∷ xs) zero none = absurd cc
made_none f (y ∷ xs) (suc k) none = made_none f xs k none
