-- What holds of each item of a list that was gone over.
use Rattle.std.proofs.Common.{◌≡◌, ◌<◌, ◌≤◌, ◌+◌, ℕ, List, length, Some, inl, inr, sym, ap, subst, ◌∙◌, slice_get, get_or, arith}
use Rattle.std.proofs.lemmas.Bool.{cases_lt}
use Rattle.std.proofs.lemmas.Option.{slice_get-get_or, slice_get_within}

-- it holds of each item before the place
abbrev pub EachBefore : {X : Type 0} → (ℕ → X → Type 0) → List X → ℕ → Type 0
EachBefore {X} P xs i = (n : ℕ) (y : X) → n < i → slice_get xs n ≡ Some y → P n y

pub each_begins : {X : Type 0} (P : ℕ → X → Type 0) (xs : List X) → EachBefore P xs 0
each_begins P xs n y below at = absurd (omega (arith, below))

pub each_next :
    {X : Type 0} (P : ℕ → X → Type 0) (xs : List X) (i : ℕ) (x : X) → i < length xs → x ≡ get_or xs i x
    → EachBefore P xs i → P i x → EachBefore P xs (i + 1)
each_next P xs i x within is before here n y below at = elim (cases_lt n i) [
  | inl earlier ↦ before n y earlier at
  | inr later ↦
      let same : n ≡ i = omega (arith, below, later) in
      let item : Some x ≡ Some y = (ap Some is ∙ sym (slice_get-get_or xs i x within)) ∙ (ap (slice_get xs) (sym same) ∙ at) in
      let one : x ≡ y = cc in
      subst (λ z. P n z) one (subst (λ k. P k x) (sym same) here)
]

pub each_all : {X : Type 0} (P : ℕ → X → Type 0) (xs : List X) → EachBefore P xs (length xs) → (n : ℕ) (y : X) → slice_get xs n ≡ Some y → P n y
each_all P xs before n y at = before n y (slice_get_within xs n y at) at

-- an item by its place, whatever stands for none
pub got : {X : Type 0} (xs : List X) (i : ℕ) (x : X) → i < length xs → x ≡ get_or xs i x → slice_get xs i ≡ Some x
got xs i x within is = slice_get-get_or xs i x within ∙ ap Some (sym is)

-- of a list that is another one
pub got_of : {X : Type 0} (xs ys : List X) (i : ℕ) (d : X) → ys ≡ xs → i < length ys → slice_get xs i ≡ Some (get_or ys i d)
got_of xs ys i d same within = ap (λ l. slice_get l i) (sym same) ∙ slice_get-get_or ys i d within

pub within_of : {X : Type 0} (xs ys : List X) (i : ℕ) → ys ≡ xs → length ys ≤ i → length xs ≤ i
within_of xs ys i same past = subst (λ l. length l ≤ i) same past

pub each_done : {X : Type 0} (P : ℕ → X → Type 0) (xs : List X) (i : ℕ) → length xs ≤ i → EachBefore P xs i → (n : ℕ) (y : X) → slice_get xs n ≡ Some y → P n y
each_done P xs i past before n y at =
    let within = slice_get_within xs n y at in before n y (omega (arith, past, within)) at

pub each_more :
    {X : Type 0} (P : ℕ → X → Type 0) (xs : List X) (i : ℕ) (x : X) → slice_get xs i ≡ Some x
    → EachBefore P xs i → P i x → EachBefore P xs (i + 1)
each_more P xs i x here_is before here n y below at = elim (cases_lt n i) [
  | inl earlier ↦ before n y earlier at
  | inr later ↦
      let same : n ≡ i = omega (arith, below, later) in
      let item : Some x ≡ Some y = sym here_is ∙ (ap (slice_get xs) (sym same) ∙ at) in
      let one : x ≡ y = cc in
      subst (λ z. P n z) one (subst (λ k. P k x) (sym same) here)
]
