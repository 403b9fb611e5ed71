-- A count of different things is one number.
use Rattle.std.proofs.Common.{◌≡◌, ◌≤◌, ℕ, suc, List, [], ◌∷◌, length, ◌⊎◌, inl, inr, refl, sym, ap, subst, ◌∙◌, arith}
use Rattle.dsr_meaning.specs.Counting.{IsIn, IsDistinct, AreMany}

-- the list without one place at which the thing stands
pub record Without {A : Type 0} (x : A) (xs : List A) : Type 0 where
  pub rest : List A
  pub shorter : length xs ≡ suc (length rest)
  pub others : (y : A) → IsIn y xs → (y ≡ x) ⊎ IsIn y rest

without : {A : Type 0} (x : A) (xs : List A) → IsIn x xs → Without x xs
without x [] h = absurd h
without x (z ∷ xs) (inl e) = record { rest = xs; shorter = refl; others = λ y h. elim h as (λ _. (y ≡ x) ⊎ IsIn y xs) [ inl f ↦ inl (f ∙ sym e) | inr i ↦ inr i ] }
without x (z ∷ xs) (inr h) =
    let w = without x xs h in
    record {
      rest = z ∷ w.rest;
      shorter = ap suc w.shorter;
      others = λ y i. elim i as (λ _. (y ≡ x) ⊎ IsIn y (z ∷ w.rest)) [
        | inl f ↦ inr (inl f)
        | inr j ↦ elim (w.others y j) as (λ _. (y ≡ x) ⊎ IsIn y (z ∷ w.rest)) [ inl f ↦ inl f | inr k ↦ inr (inr k) ]
      ];
    }

-- different things that all stand in a list are no more than its places
pub no_more : {A : Type 0} (xs ys : List A) → IsDistinct xs → ((x : A) → IsIn x xs → IsIn x ys) → length xs ≤ length ys
no_more [] ys d h = omega arith
no_more (x ∷ xs) ys d h =
    let w = without x ys (h x (inl refl)) in
    let rest = no_more xs w.rest d.1 (λ y i. elim (w.others y (h y (inr i))) as (λ _. IsIn y w.rest) [ inl e ↦ absurd (d.0 (subst (λ z. IsIn z xs) e i)) | inr k ↦ k ]) in
    omega (arith, rest, w.shorter)

pub many_once : {A : Type 0} (P : A → Type 0) (n m : ℕ) → AreMany P n → AreMany P m → n ≡ m
many_once P n m a b =
    let one = no_more a.things b.things a.enumerated.distinct (λ x i. b.enumerated.all x (a.enumerated.only x i)) in
    let two = no_more b.things a.things b.enumerated.distinct (λ x i. a.enumerated.all x (b.enumerated.only x i)) in
    omega (arith, one, two, a.counted, b.counted)
