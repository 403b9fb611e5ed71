-- Lists of different things that all stand in other lists: their lengths and their sums.
use Rattle.std.proofs.Common.{◌≡◌, ◌≤◌, ◌<◌, ◌+◌, ◌*◌, ℕ, zero, suc, List, [], ◌∷◌, length, ◌⊎◌, inl, inr, refl, sym, ap, subst, ◌∙◌, arith}
use Rattle.std.proofs.Math.Nat.{suc-mul}
use Rattle.std.proofs.lemmas.Bool.{cases_lt}
use Rattle.dsr_meaning.proofs.Counts.{no_more}
use Rattle.dsr_meaning.specs.Counting.{AreMany, IsIn, IsDistinct}
use Rattle.dsr_bound_laws.specs.Bounds.{total}

-- the list without one place at which the thing stands
record Without {A : Type 0} (f : A → ℕ) (x : A) (xs : List A) : Type 0 where
  pub rest : List A
  pub shorter : length xs ≡ suc (length rest)
  pub total_is : total f xs ≡ f x + total f rest
  pub others : (y : A) → IsIn y xs → (y ≡ x) ⊎ IsIn y rest

without : {A : Type 0} (f : A → ℕ) (x : A) (xs : List A) → IsIn x xs → Without f x xs
without f x [] h = absurd h
without f x (z ∷ xs) (inl e) = record {
  rest = xs;
  shorter = refl;
  total_is = ap (λ y. f y + total f xs) (sym e);
  others = λ y h. elim h as (λ _. (y ≡ x) ⊎ IsIn y xs) [ inl g ↦ inl (g ∙ sym e) | inr i ↦ inr i ];
}
without f x (z ∷ xs) (inr h) =
    let w = without f x xs h in
    let sum = w.total_is in
    record {
      rest = z ∷ w.rest;
      shorter = ap suc w.shorter;
      total_is = omega (arith, sum);
      others = λ y i. elim i as (λ _. (y ≡ x) ⊎ IsIn y (z ∷ w.rest)) [
        | inl g ↦ inr (inl g)
        | inr j ↦ elim (w.others y j) as (λ _. (y ≡ x) ⊎ IsIn y (z ∷ w.rest)) [ inl g ↦ inl g | inr k ↦ inr (inr k) ]
      ];
    }

-- what stands in the one, stands in the other
abbrev pub AreAmong : {A : Type 0} → List A → List A → Type 0
AreAmong {A} xs ys = (x : A) → IsIn x xs → IsIn x ys

rest_among : {A : Type 0} (f : A → ℕ) (x : A) (xs ys : List A) → IsDistinct (x ∷ xs) → AreAmong (x ∷ xs) ys → (w : Without f x ys) → AreAmong xs w.rest
rest_among f x xs ys d h w y i = elim (w.others y (h y (inr i))) as (λ _. IsIn y w.rest) [ inl e ↦ absurd (d.0 (subst (λ z. IsIn z xs) e i)) | inr k ↦ k ]

pub sum_no_more : {A : Type 0} (f : A → ℕ) (xs ys : List A) → IsDistinct xs → AreAmong xs ys → total f xs ≤ total f ys
sum_no_more f [] ys d h = omega arith
sum_no_more f (x ∷ xs) ys d h =
    let w = without f x ys (h x (inl refl)) in
    let rest = sum_no_more f xs w.rest d.1 (rest_among f x xs ys d h w) in
    let sum = w.total_is in
    omega (arith, rest, sum)

-- things that are told apart by what each has in a list are no more than its places
pub no_more_by :
    {A B : Type 0} (R : A → B → Type 0) (xs : List A) (ys : List B) → IsDistinct xs
    → ((x : A) → IsIn x xs → (y : B) × IsIn y ys × R x y)
    → ((x z : A) (y : B) → R x y → R z y → x ≡ z) → length xs ≤ length ys
no_more_by R [] ys d has once = omega arith
no_more_by R (x ∷ xs) ys d has once =
    let y = has x (inl refl) in
    let w = without (λ _. 0) y.0 ys y.1 in
    let rest = no_more_by R xs w.rest d.1 (λ z i.
    let other = has z (inr i) in
    elim (w.others other.0 other.1) as (λ _. (u : _) × IsIn u w.rest × R z u) [
      | inl same ↦ absurd (d.0 (subst (λ u. IsIn u xs) (once z x y.0 (subst (R z) same other.2) y.2) i))
      | inr k ↦ (other.0, k, other.2)
    ]) once in
    let shorter = w.shorter in
    omega (arith, rest, shorter)

-- of a kind that has no other things there are no more
pub many_no_more : {A : Type 0} (P Q : A → Type 0) (n m : ℕ) → ((y : A) → Q y → P y) → AreMany P n → AreMany Q m → m ≤ n
many_no_more P Q n m fewer a b =
    let less = no_more b.things a.things b.enumerated.distinct (λ y i. a.enumerated.all y (fewer y (b.enumerated.only y i))) in
    let n_is = a.counted in
    let m_is = b.counted in
    omega (arith, less, n_is, m_is)

-- where there is one, the number isn't 0
pub many_some : {A : Type 0} (P : A → Type 0) (n : ℕ) (x : A) → P x → AreMany P n → 1 ≤ n
many_some P n x has a =
    let less = no_more (x ∷ []) a.things (λ i. i, tt) (λ y i. elim i as (λ _. IsIn y a.things) [ inl e ↦ a.enumerated.all y (subst P (sym e) has) | inr j ↦ absurd j ]) in
    let n_is = a.counted in
    omega (arith, less, n_is)

-- the numbers below another one
pub numbers_below : (n : ℕ) → (ns : List ℕ) × ((length ns ≡ n) × ((k : ℕ) → k < n → IsIn k ns))
numbers_below zero = ([], (refl, λ k lt. absurd (omega (arith, lt))))
numbers_below (suc n) =
    let rest = numbers_below n in
    (n ∷ rest.0, (ap suc rest.1.0, λ k lt. elim (cases_lt k n) as (λ _. IsIn k (n ∷ rest.0)) [ inl less ↦ inr (rest.1.1 k less) | inr ge ↦ inl (omega (arith, lt, ge)) ]))

-- of a kind of numbers below n there are at most n
pub many_below : (P : ℕ → Type 0) (n k : ℕ) → ((x : ℕ) → P x → x < k) → AreMany P n → n ≤ k
many_below P n k below a =
    let all = numbers_below k in
    let less = no_more a.things all.0 a.enumerated.distinct (λ x i. all.1.1 x (below x (a.enumerated.only x i))) in
    let n_is = a.counted in
    let long = all.1.0 in
    omega (arith, less, n_is, long)

-- a sum of what is the same for all
pub sum_same : {A : Type 0} (f : A → ℕ) (x : ℕ) (xs : List A) → ((y : A) → f y ≡ x) → total f xs ≡ length xs * x
sum_same f x [] same = omega arith
sum_same f x (y ∷ xs) same =
    let rest = sum_same f x xs same in
    let here = same y in
    let more = suc-mul (length xs) x in
    omega (arith, rest, here, more)
