-- Items of lists: of two that are joined, and the one at which a loop is.
use Rattle.std.proofs.Common.{◌≡◌, ◌<◌, ◌+◌, ◌++◌, ℕ, zero, suc, List, [], ◌∷◌, All, length, take, get_or, inl, inr, refl, sym, ap, subst, ◌∙◌, arith}
use Rattle.std.proofs.lemmas.List.Elements.{All-cons, All-head, All-nil, All-tail}
use Rattle.std.proofs.lemmas.List.{take_more}
use Rattle.dsr_meaning.specs.Counting.{IsIn}

-- ---- the item at which a loop is

pub at_in : {A : Type 0} (xs : List A) (i : ℕ) (d : A) → i < length xs → IsIn (get_or xs i d) xs
at_in [] i d lt = absurd (omega (arith, lt))
at_in (x ∷ xs) zero d lt = inl refl
at_in (x ∷ xs) (suc i) d lt = inr (at_in xs i d (omega (arith, lt)))

module _ {A : Type 0} (items xs : List A) (all : items ≡ xs) (i : ℕ) (lt : i < length items) (x : A) (is : x ≡ get_or items i x) where
  pub next_in : IsIn x xs
  next_in = subst (IsIn x) all (subst (λ y. IsIn y items) (sym is) (at_in items i x lt))

  pub take_next : take (i + 1) xs ≡ take i xs ++ x ∷ []
  take_next = subst (λ ys. take (i + 1) ys ≡ take i ys ++ x ∷ []) all (take_more items i x lt ∙ ap (λ y. take i items ++ y ∷ []) (sym is))
