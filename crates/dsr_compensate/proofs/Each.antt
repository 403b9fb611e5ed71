-- What holds of each item of a list, by its place, one after the other.
use Rattle.std.proofs.Common.{◌≡◌, ◌<◌, ◌≤◌, ◌+◌, ◌++◌, ℕ, zero, suc, true, false, nat_eq, List, [], ◌∷◌, Some, length, take, get_or, slice_get, refl, sym, ap, subst, ◌∙◌, arith}
use Rattle.std.proofs.lemmas.Bool.Decides.{nat_tests}
use Rattle.std.proofs.lemmas.Option.{slice_get_within, slice_get-get_or}

-- the item with a place is there
pub item_at : {T : Type 0} (xs : List T) (n : ℕ) (x : T) → n < length xs → x ≡ get_or xs n x → slice_get xs n ≡ Some x
item_at xs n x less is = slice_get-get_or xs n x less ∙ ap Some (sym is)

-- items of two lists that are joined
pub got_front : {T : Type 0} (xs ys : List T) (m : ℕ) → m < length xs → slice_get (xs ++ ys) m ≡ slice_get xs m
got_front [] ys m less = absurd (omega (arith, less))
got_front (x ∷ xs) ys zero less = refl
got_front (x ∷ xs) ys (suc m) less = got_front xs ys m (omega (arith, less))

pub got_last : {T : Type 0} (xs : List T) (x : T) → slice_get (xs ++ x ∷ []) (length xs) ≡ Some x
got_last [] x = refl
got_last (y ∷ xs) x = got_last xs x

pub length_more : {T : Type 0} (xs : List T) (x : T) → length (xs ++ x ∷ []) ≡ length xs + 1
length_more [] x = refl
length_more (y ∷ xs) x = let rest = length_more xs x in omega (arith, rest)

pub take_length : {T : Type 0} (n : ℕ) (xs : List T) → n ≤ length xs → length (take n xs) ≡ n
take_length zero xs within = omega arith
take_length (suc n) [] within = absurd (omega (arith, within))
take_length (suc n) (x ∷ xs) within = let rest = take_length n xs (omega (arith, within)) in omega (arith, rest)

module _ {T : Type 0} (P : ℕ → T → Type 0) (xs : List T) where
  abbrev pub EachBefore : ℕ → Type 0
  EachBefore n = (m : ℕ) (x : T) → m < n → slice_get xs m ≡ Some x → P m x

  pub each_more : (n : ℕ) (x : T) → slice_get xs n ≡ Some x → P n x → EachBefore n → EachBefore (n + 1)
  each_more n x here its before m y below there =
      elim (nat_eq m n) as (λ t. nat_eq m n ≡ t → P m y) [
        | true ↦ λ e.
            let same : m ≡ n = grind (arith, nat_tests) in
            let is : Some x ≡ Some y = sym here ∙ (ap (slice_get xs) (sym same) ∙ there) in
            let item : x ≡ y = cc in
            subst (λ k. P k y) (sym same) (subst (P n) item its)
        | false ↦ λ e. before m y (grind (arith, nat_tests)) there
      ] refl

  pub each_ends : (n : ℕ) → length xs ≤ n → EachBefore n → (m : ℕ) (x : T) → slice_get xs m ≡ Some x → P m x
  each_ends n past before m x there =
      let less = slice_get_within xs m x there in
      before m x (omega (arith, past, less)) there
