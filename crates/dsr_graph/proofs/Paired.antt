-- Items that belong together, one pair after the other, and each by itself.
use Rattle.std.proofs.Common.{◌≡◌, ◌<◌, ◌≤◌, ◌+◌, ◌++◌, ℕ, zero, suc, true, false, nat_eq, List, [], ◌∷◌, None, Some, length, map, take, get_or, slice_get, refl, sym, ap, subst, ◌∙◌, arith}
use Rattle.std.proofs.lemmas.Bool.Decides.{nat_tests}
use Rattle.std.proofs.lemmas.List.{take_more}
use Rattle.std.proofs.lemmas.Option.{slice_get_within, slice_get-get_or, same_Some}
use Rattle.dsr_compensate.proofs.Each.{got_front, got_last, item_at, length_more, take_length}
use Rattle.dsr_compensate.proofs.Later.{take_whole}
use Rattle.dsr_graph.specs.Paired.{ArePaired}
use Rattle.dsr_compensate.proofs.Standing.{item_in_front}
use Rattle.dsr_meaning.proofs.Items.{item_there}

pub item_beyond : {T : Type 0} (xs : List T) (n : ℕ) → length xs ≤ n → slice_get xs n ≡ None
item_beyond [] n past = refl
item_beyond (x ∷ xs) zero past = absurd (omega (arith, past))
item_beyond (x ∷ xs) (suc n) past = item_beyond xs n (omega (arith, past))

pub beyond_item : {T : Type 0} (xs : List T) (n : ℕ) → slice_get xs n ≡ None → length xs ≤ n
beyond_item [] n none = omega arith
beyond_item (x ∷ xs) zero none = absurd cc
beyond_item (x ∷ xs) (suc n) none = let rest = beyond_item xs n none in omega (arith, rest)

take_item : {T : Type 0} (xs : List T) (i : ℕ) (x : T) → slice_get xs i ≡ Some x → take (i + 1) xs ≡ take i xs ++ x ∷ []
take_item xs i x here =
    let less = slice_get_within xs i x here in
    let is : get_or xs i x ≡ x = same_Some (get_or xs i x) x (sym (slice_get-get_or xs i x less) ∙ here) in
    take_more xs i x less ∙ ap (λ y. take i xs ++ y ∷ []) is

module _ {A B : Type 0} (R : ℕ → A → B → Type 0) where
  pub paired_none : ArePaired R [] []
  paired_none = record { as_many = refl; are = λ n x y here there. absurd cc }

  pub paired_more : (xs : List A) (ys : List B) (i : ℕ) (x : A) (y : B) → slice_get xs i ≡ Some x → R i x y → ArePaired R (take i xs) ys → ArePaired R (take (i + 1) xs) (ys ++ y ∷ [])
  paired_more xs ys i x y here its before =
      let less = slice_get_within xs i x here in
      let front = take_length i xs (omega (arith, less)) in
      let front_more = take_length (i + 1) xs (omega (arith, less)) in
      let longer = length_more ys y in
      let many = before.as_many in
      record {
        as_many = omega (arith, front, front_more, longer, many);
        are = λ n a b a_is b_is.
            let below = slice_get_within (take (i + 1) xs) n a a_is in
            let n_less : n < i + 1 = omega (arith, below, front_more) in
            let a_there : slice_get xs n ≡ Some a = sym (item_in_front xs (i + 1) n n_less) ∙ a_is in
            elim (nat_eq n i) as (λ t. nat_eq n i ≡ t → R n a b) [
              | true ↦ λ e.
                  let same : n ≡ i = grind (arith, nat_tests) in
                  let last : n ≡ length ys = omega (arith, same, many, front) in
                  let x_is : x ≡ a = same_Some x a (sym here ∙ (ap (slice_get xs) (sym same) ∙ a_there)) in
                  let y_is : y ≡ b = same_Some y b (sym (got_last ys y) ∙ (ap (slice_get (ys ++ y ∷ [])) (sym last) ∙ b_is)) in
                  subst (λ k. R k a b) (sym same) (subst (λ z. R i z b) x_is (subst (R i x) y_is its))
              | false ↦ λ e.
                  let lower : n < i = grind (arith, nat_tests) in
                  let in_ys : n < length ys = omega (arith, lower, many, front) in
                  before.are n a b (item_in_front xs i n lower ∙ a_there) (sym (got_front ys (y ∷ []) n in_ys) ∙ b_is)
            ] refl;
      }

  -- the items at which a loop is
  pub paired_push : (items xs : List A) → items ≡ xs → (i : ℕ) → i < length items → (x : A) → x ≡ get_or items i x → (ys zs : List B) (y : B) → zs ≡ ys ++ y ∷ [] → R i x y → ArePaired R (take i xs) ys → ArePaired R (take (i + 1) xs) zs
  paired_push items xs all i less x is ys zs y zs_is its before =
      subst (λ more. ArePaired R (take (i + 1) xs) more) (sym zs_is)
      (paired_more xs ys i x y (subst (λ l. slice_get l i ≡ Some x) all (item_at items i x less is)) its before)

  -- where all were gone over
  pub paired_whole : (xs : List A) (ys : List B) (i : ℕ) → length xs ≤ i → ArePaired R (take i xs) ys → ArePaired R xs ys
  paired_whole xs ys i past its = subst (λ zs. ArePaired R zs ys) (take_whole i xs past) its

  pub paired_all : (items xs : List A) → items ≡ xs → (ys : List B) (i : ℕ) → length items ≤ i → ArePaired R (take i xs) ys → ArePaired R xs ys
  paired_all items xs all ys i past its = let many = ap length all in paired_whole xs ys i (omega (arith, past, many)) its

  pub paired_step : (xs : List A) (ys zs : List B) (i : ℕ) (x : A) (y : B) → slice_get xs i ≡ Some x → zs ≡ ys ++ y ∷ [] → R i x y → ArePaired R (take i xs) ys → ArePaired R (take (i + 1) xs) zs
  paired_step xs ys zs i x y here zs_is its before =
      subst (λ more. ArePaired R (take (i + 1) xs) more) (sym zs_is) (paired_more xs ys i x y here its before)

  pub paired_got : (xs : List A) (ys : List B) (n : ℕ) (x : A) → ArePaired R xs ys → slice_get xs n ≡ Some x → (y : B) × (slice_get ys n ≡ Some y) × R n x y
  paired_got xs ys n x its here =
      let less = slice_get_within xs n x here in
      let many = its.as_many in
      let found = item_there ys n (omega (arith, less, many)) in
      (found.0, found.1, its.are n x found.0 here found.1)

  pub paired_back : (xs : List A) (ys : List B) (n : ℕ) (y : B) → ArePaired R xs ys → slice_get ys n ≡ Some y → (x : A) × (slice_get xs n ≡ Some x) × R n x y
  paired_back xs ys n y its there =
      let less = slice_get_within ys n y there in
      let many = its.as_many in
      let found = item_there xs n (omega (arith, less, many)) in
      (found.0, found.1, its.are n found.0 y found.1 there)

  pub paired_beyond : (xs : List A) (ys : List B) (n : ℕ) → ArePaired R xs ys → slice_get xs n ≡ None → slice_get ys n ≡ None
  paired_beyond xs ys n its none =
      let past = beyond_item xs n none in
      let many = its.as_many in
      item_beyond ys n (omega (arith, past, many))

-- what holds of pairs holds of what follows from it
pub paired_weaker : {A B : Type 0} (R S : ℕ → A → B → Type 0) (xs : List A) (ys : List B) → ((n : ℕ) (x : A) (y : B) → R n x y → S n x y) → ArePaired R xs ys → ArePaired S xs ys
paired_weaker R S xs ys to its = record { as_many = its.as_many; are = λ n x y here there. to n x y (its.are n x y here there) }

-- what is made of an item has its place
pub made_item : {A B : Type 0} (f : A → B) (xs : List A) (n : ℕ) (x : A) → slice_get xs n ≡ Some x → slice_get (map f xs) n ≡ Some (f x)
made_item f [] n x here = absurd cc
made_item f (y ∷ xs) zero x here = cc
made_item f (y ∷ xs) (suc n) x here = made_item f xs n x here

pub made_length : {A B : Type 0} (f : A → B) (xs : List A) → length (map f xs) ≡ length xs
made_length f [] = refl
made_length f (x ∷ xs) = ap suc (made_length f xs)
