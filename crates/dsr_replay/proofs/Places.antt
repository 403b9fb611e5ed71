-- Places of lists.
use Rattle.std.proofs.Common.{◌≡◌, ◌<◌, ◌⊎◌, ◌∙◌, ℕ, zero, suc, List, [], ◌∷◌, ◌++◌, None, Some, drop, length, length-drop, slice_get, inl, inr, refl, ap, arith}
use Rattle.std.proofs.lemmas.Option.{same_Some}

module _ {A : Type 0} where
  -- an item of a list with one more at its end is of the list, or that one
  pub pushed : (xs : List A) (x : A) (k : ℕ) (y : A) → slice_get (xs ++ x ∷ []) k ≡ Some y → (slice_get xs k ≡ Some y) ⊎ ((k ≡ length xs) × (x ≡ y))
  pushed [] x zero y is = inr (refl, same_Some x y is)
  pushed [] x (suc k) y is = absurd (let both : None ≡ Some y = is in cc)
  pushed (z ∷ xs) x zero y is = inl is
  pushed (z ∷ xs) x (suc k) y is = elim (pushed xs x k y is) [
    | inl front ↦ inl front
    | inr last ↦ inr (ap suc last.0, last.1)
  ]

  -- the item behind a front
  pub at_seam : (xs ys : List A) (y : A) → slice_get (xs ++ y ∷ ys) (length xs) ≡ Some y
  at_seam [] ys y = refl
  at_seam (x ∷ xs) ys y = at_seam xs ys y

  -- the first of what is left is the next item
  pub next_is : (xs : List A) (k : ℕ) (x : A) (rest : List A) → drop k xs ≡ x ∷ rest → slice_get xs k ≡ Some x
  next_is xs zero x rest is = ap (λ ys. slice_get ys 0) is
  next_is [] (suc k) x rest is = absurd (let none : [] ≡ x ∷ rest = is in cc)
  next_is (y ∷ xs) (suc k) x rest is = next_is xs k x rest is

  pub left_behind : (xs : List A) (k : ℕ) (x : A) (rest : List A) → drop k xs ≡ x ∷ rest → drop (suc k) xs ≡ rest
  left_behind xs zero x rest is = ap (drop 1) is
  left_behind [] (suc k) x rest is = absurd (let none : [] ≡ x ∷ rest = is in cc)
  left_behind (y ∷ xs) (suc k) x rest is = left_behind xs k x rest is

  -- something is left before the end
  pub some_left : (xs : List A) (k : ℕ) → k < length xs → drop k xs ≡ [] → ⊥
  some_left xs k before none =
      let count : length (drop k xs) ≡ 0 = ap length none in
      absurd (omega (arith, before, count, length-drop k xs))
