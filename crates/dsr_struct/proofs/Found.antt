-- What follows where a name is found, and of the items of a list by their numbers.
use Rattle.std.proofs.Common.{◌≡◌, ◌<◌, ◌+◌, ℕ, zero, suc, Bool, true, false, List, [], ◌∷◌, map, length, Option, None, Some, IfSome, is_none, unwrap_or, cond, slice_get, option_map, All, refl, sym, ap, ◌∙◌, add-one, subst, arith}
use Rattle.std.specs.Prelude.{IsSomeAnd, IsTrue}
use Rattle.std.specs.List.{position_from}
use Rattle.std.proofs.lemmas.Option.{get_or_from_slice_get, slice_get_within, slice_get-map, IfSome_then}
use Rattle.dsr_meaning.specs.Lists.{each_at}
use Rattle.dsr_meaning.proofs.Empty.{both_empty}

-- what holds of a value that may be there holds of the one that is
pub known_has : (o : Option ℕ) (P : ℕ → Type 0) → is_none o ≡ false → IfSome o P → P (unwrap_or o 0)
known_has None P known if_some = absurd cc
known_has (Some n) P known if_some = if_some

-- what holds of what a value is made to
pub map_has : {A B : Type 0} (g : A → B) (o : Option A) (P : B → Type 0) → IfSome o (λ x. P (g x)) → IfSome (option_map g o) P
map_has g None P h = tt
map_has g (Some x) P h = h

-- what holds of all items holds of the one of a number
pub item_is : {T : Type 0} (P : T → Type 0) (xs : List T) (k : ℕ) (x : T) → All P xs → slice_get xs k ≡ Some x → P x
item_is P xs k x all e = subst P (get_or_from_slice_get xs k x x e) (all k x (slice_get_within xs k x e))

-- what holds of what each item is made to, by its number
pub mapped_is : {S T : Type 0} (g : S → T) (P : ℕ → T → Type 0) (xs : List S) → ((i : ℕ) (x : S) → slice_get xs i ≡ Some x → P i (g x)) → (i : ℕ) (y : T) → slice_get (map g xs) i ≡ Some y → P i y
mapped_is g P xs h i y e =
    elim (slice_get xs i) as (λ o. slice_get xs i ≡ o → option_map g o ≡ Some y → P i y) [
      | None ↦ λ _ q. absurd cc
      | Some x ↦ λ at q. let same : g x ≡ y = cc in subst (P i) same (h i x at)
    ] refl (sym (slice_get-map g xs i) ∙ e)

-- where no item gives anything, that of a number doesn't
pub each_is : {S T : Type 0} (f : ℕ → S → List T) (n : ℕ) (xs : List S) → each_at f n xs ≡ [] → (i k : ℕ) (x : S) → k ≡ n + i → slice_get xs i ≡ Some x → f k x ≡ []
each_is f n [] e i k x at is = absurd cc
each_is f n (y ∷ ys) e zero k x at is =
    let same : y ≡ x = cc in
    let first : n ≡ k = omega arith in
    subst (λ z. f k z ≡ []) same (subst (λ m. f m y ≡ []) first (both_empty (f n y) (each_at f (suc n) ys) e).0)
each_is f n (y ∷ ys) e (suc i) k x at is = each_is f (suc n) ys (both_empty (f n y) (each_at f (suc n) ys) e).1 i k x (omega arith) is

module _ {T : Type 0} (test : T → Bool) where
  -- counting from one more
  position_shift : (i : ℕ) (xs : List T) → position_from test (i + 1) xs ≡ option_map suc (position_from test i xs)
  position_shift i [] = refl
  position_shift i (x ∷ xs) = elim (test x) as (λ b. cond b (Some (i + 1)) (position_from test (i + 1 + 1) xs) ≡ option_map suc (cond b (Some i) (position_from test (i + 1) xs))) [
    | true ↦ ap Some (add-one i)
    | false ↦ position_shift (i + 1) xs
  ]

  -- the item of the number passes the test
  abbrev pub IsFound : List T → ℕ → Type 0
  IsFound xs k = IsSomeAnd (slice_get xs k) (λ x. IsTrue (test x))

  -- that of the number that is found does
  pub found_passes : (xs : List T) → IfSome (position_from test 0 xs) (IsFound xs)
  found_passes [] = tt
  found_passes (x ∷ xs) = elim (test x) as (λ b. test x ≡ b → IfSome (cond b (Some 0) (position_from test 1 xs)) (IsFound (x ∷ xs))) [
    | true ↦ λ e. e
    | false ↦ λ _. subst (λ o. IfSome o (IsFound (x ∷ xs))) (sym (position_shift 0 xs)) (map_has suc (position_from test 0 xs) (IsFound (x ∷ xs)) (found_passes xs))
  ] refl

  -- the number is one of the list's
  pub found_within : (xs : List T) (k : ℕ) → IsFound xs k → k < length xs
  found_within xs k found = elim (slice_get xs k) as (λ o. slice_get xs k ≡ o → IsSomeAnd o (λ x. IsTrue (test x)) → k < length xs) [
    | None ↦ λ _ h. absurd h
    | Some x ↦ λ at _. slice_get_within xs k x at
  ] refl found

  pub found_below : (xs : List T) → IfSome (position_from test 0 xs) (λ k. k < length xs)
  found_below xs = IfSome_then (position_from test 0 xs) (found_passes xs) (found_within xs)
