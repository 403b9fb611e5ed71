-- Items of a list that were gone over so far, each or none of which is of a kind.
use Rattle.std.proofs.Common.{◌≡◌, ◌<◌, ◌≤◌, ◌+◌, ◌++◌, ◌∙◌, ℕ, zero, suc, List, [], ◌∷◌, take, length, get_or, inl, inr, refl, sym, ap, subst, add-one, arith}
use Rattle.std.proofs.Math.Seq.{take-suc}
use Rattle.dsr_meaning.specs.Counting.{IsIn}
use Rattle.dsr_meaning.proofs.Lists.{in_front_or_last}

-- each item of the list is of the kind
abbrev pub EachIn : {A : Type 0} → (A → Type 0) → List A → Type 0
EachIn {A} P xs = (x : A) → IsIn x xs → P x

-- none is
abbrev pub NoneIn : {A : Type 0} → (A → Type 0) → List A → Type 0
NoneIn P xs = EachIn (λ x. P x → ⊥) xs

-- some item of it is
abbrev pub SomeIn : {A : Type 0} → (A → Type 0) → List A → Type 0
SomeIn {A} P xs = (x : A) × IsIn x xs × P x

get_or_same : {A : Type 0} (xs : List A) (i : ℕ) (d e : A) → i < length xs → get_or xs i d ≡ get_or xs i e
get_or_same [] i d e lt = absurd (omega (arith, lt))
get_or_same (x ∷ xs) zero d e lt = refl
get_or_same (x ∷ xs) (suc i) d e lt = get_or_same xs i d e (omega (arith, lt))

stands_in : {A : Type 0} (xs : List A) (i : ℕ) (d : A) → i < length xs → IsIn (get_or xs i d) xs
stands_in [] i d lt = absurd (omega (arith, lt))
stands_in (y ∷ ys) zero d lt = inl refl
stands_in (y ∷ ys) (suc i) d lt = inr (stands_in ys i d (omega (arith, lt)))

module _ {A : Type 0} (P : A → Type 0) (xs : List A) (i : ℕ) (d : A) (lt : i < length xs) where
  -- the next item is, too
  pub each_more : P (get_or xs i d) → EachIn P (take i xs) → EachIn P (take (i + 1) xs)
  each_more holds each =
      let x = get_or xs i d in
      let more : take (i + 1) xs ≡ take i xs ++ x ∷ [] = rw add-one (take-suc xs i x lt ∙ ap (λ y. take i xs ++ y ∷ []) (get_or_same xs i x d lt)) in
      subst (EachIn P) (sym more) (λ y h. elim (in_front_or_last x y (take i xs) h) [
        | inl front ↦ each y front
        | inr last ↦ subst P (sym last) holds
      ])

  -- some item is
  pub some_found : (ys : List A) → xs ≡ ys → P (get_or xs i d) → SomeIn P ys
  some_found ys same p = (get_or xs i d, subst (IsIn (get_or xs i d)) same (stands_in xs i d lt), p)

  -- where each is, this one is
  pub each_is : (ys : List A) → xs ≡ ys → EachIn P ys → P (get_or xs i d)
  each_is ys same each = each (get_or xs i d) (subst (IsIn (get_or xs i d)) same (stands_in xs i d lt))

pub take_past : {A : Type 0} (xs : List A) (i : ℕ) → length xs ≤ i → take i xs ≡ xs
take_past [] zero le = refl
take_past [] (suc i) le = refl
take_past (x ∷ xs) zero le = absurd (omega (arith, le))
take_past (x ∷ xs) (suc i) le = ap (λ ys. x ∷ ys) (take_past xs i (omega (arith, le)))

-- all were gone over
pub each_at_all : {A : Type 0} (P : A → Type 0) (xs ys : List A) (i : ℕ) → length xs ≤ i → xs ≡ ys → EachIn P (take i xs) → EachIn P ys
each_at_all P xs ys i le same each = subst (EachIn P) (take_past xs i le ∙ same) each
