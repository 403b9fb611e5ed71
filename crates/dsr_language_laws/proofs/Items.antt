-- Items of lists: by their numbers, among those of two lists, and among what is made of others.
use Rattle.std.proofs.Common.{◌≡◌, ◌+◌, ℕ, zero, suc, List, [], ◌∷◌, map, Option, None, Some, slice_get, option_map, inl, inr, refl, sym, ◌∙◌, subst, arith}
use Rattle.std.proofs.lemmas.Option.{slice_get-map}
use Rattle.dsr_meaning.specs.Counting.{IsIn}
use Rattle.dsr_meaning.specs.Lists.{each_at}
use Rattle.dsr_meaning.specs.Typed.{AreDifferent}
use Rattle.dsr_meaning.proofs.Empty.{both_empty}

-- ---- items that are made of others

-- what holds of what each item is made to, by its number
pub mapped_is : {S T : Type 0} (g : S → T) (P : ℕ → T → Type 0) (xs : List S) → ((i : ℕ) (x : S) → slice_get xs i ≡ Some x → P i (g x)) → (i : ℕ) (y : T) → slice_get (map g xs) i ≡ Some y → P i y
mapped_is g P xs h i y e =
    elim (slice_get xs i) as (λ o. slice_get xs i ≡ o → option_map g o ≡ Some y → P i y) [
      | None ↦ λ _ q. absurd cc
      | Some x ↦ λ at q. let same : g x ≡ y = cc in subst (P i) same (h i x at)
    ] refl (sym (slice_get-map g xs i) ∙ e)

-- ---- tests of all items

-- where no item gives anything, that of a number doesn't
pub each_is : {S T : Type 0} (f : ℕ → S → List T) (n : ℕ) (xs : List S) → each_at f n xs ≡ [] → (i k : ℕ) (x : S) → k ≡ n + i → slice_get xs i ≡ Some x → f k x ≡ []
each_is f n [] e i k x at is = absurd cc
each_is f n (y ∷ ys) e zero k x at is =
    let same : y ≡ x = cc in
    let first : n ≡ k = omega arith in
    subst (λ z. f k z ≡ []) same (subst (λ m. f m y ≡ []) first (both_empty (f n y) (each_at f (suc n) ys) e).0)
each_is f n (y ∷ ys) e (suc i) k x at is = each_is f (suc n) ys (both_empty (f n y) (each_at f (suc n) ys) e).1 i k x (omega arith) is

-- an item that gives nothing at its number
pub record EmptyAt {S T : Type 0} (f : ℕ → S → List T) (x : S) : Type 0 where
  pub at : ℕ
  pub empty : f at x ≡ []

pub each_in : {S T : Type 0} (f : ℕ → S → List T) (n : ℕ) (xs : List S) → each_at f n xs ≡ [] → (x : S) → IsIn x xs → EmptyAt f x
each_in f n [] e x is = absurd is
each_in f n (y ∷ ys) e x (inl same) = record { at = n; empty = subst (λ z. f n z ≡ []) (sym same) (both_empty (f n y) (each_at f (suc n) ys) e).0 }
each_in f n (y ∷ ys) e x (inr later) = each_in f (suc n) ys (both_empty (f n y) (each_at f (suc n) ys) e).1 x later

-- ---- names that stand for their numbers

pub different_names : (number : List ℕ → Option ℕ) (names : List (List ℕ)) → ((i : ℕ) (q : List ℕ) → slice_get names i ≡ Some q → number q ≡ Some i) → AreDifferent names
different_names number names h i j q at_i at_j =
    let one = h i q at_i in
    let other = h j q at_j in
    let same : Some i ≡ Some j = sym one ∙ other in
    cc

-- ---- different things that all stand in a list are no more than its places
