-- What tests that fail say, and items of lists that pass none or were found.
use Rattle.std.proofs.Common.{◌≡◌, inl, inr, ℕ, zero, suc, ◌+◌, Bool, true, false, not, ◌&&◌, ◌||◌, nat_eq, List, [], ◌∷◌, ◌++◌, map, length, Option, None, Some, IfSome, is_some, is_none, unwrap_or, cond, slice_get, option_map, All, refl, sym, ap, ◌∙◌, subst, arith}
use Rattle.std.specs.Prelude.{IsSomeAnd, IsTrue}
use Rattle.std.specs.List.{position_from}
use Rattle.std.proofs.lemmas.Bool.{eqb-true, or_parts}
use Rattle.std.proofs.lemmas.Option.{slice_get-map}
use Rattle.dsr_meaning.specs.Counting.{IsIn}
use Rattle.dsr_meaning.specs.Lists.{any_of}
use Rattle.dsr_meaning.specs.Typed.{AreDifferent}
use Rattle.dsr_language_theory.specs.Names.{is_at}
use Rattle.dsr_struct.proofs.Found.{IsFound, found_passes}

pub second_fails : (a b : Bool) → a ≡ true → (a && b) ≡ false → b ≡ false
second_fails true b p e = e
second_fails false b p e = absurd cc

pub not_true : false ≡ true → ⊥
not_true e = absurd cc

pub not_false : (b : Bool) → not b ≡ false → b ≡ true
not_false true e = refl
not_false false e = absurd cc

-- a number that is found, and that is this one
pub at_is : (n : ℕ) (o : Option ℕ) → not (is_at n o) ≡ false → o ≡ Some n
at_is n None e = absurd cc
at_is n (Some m) e = ap Some (eqb-true m n (not_false (nat_eq m n) e))

pub known_some : {T : Type 0} (o : Option T) → is_none o ≡ false → is_some o ≡ true
known_some None e = absurd cc
known_some (Some x) e = refl

pub known_is : (o : Option ℕ) → is_none o ≡ false → o ≡ Some (unwrap_or o 0)
known_is None e = absurd cc
known_is (Some n) e = refl

pub is_some_and : {T : Type 0} (P : T → Type 0) (o : Option T) (x : T) → o ≡ Some x → P x → IsSomeAnd o P
is_some_and P o x e p = subst (λ y. IsSomeAnd y P) (sym e) p

-- the item of a number that is found
pub record FoundAt {T : Type 0} (test : T → Bool) (xs : List T) (k : ℕ) : Type 0 where
  pub item : T
  pub is : slice_get xs k ≡ Some item
  pub passes : test item ≡ true

found_at : {T : Type 0} (test : T → Bool) (xs : List T) (k : ℕ) → IsFound test xs k → FoundAt test xs k
found_at test xs k found =
    elim (slice_get xs k) as (λ o. slice_get xs k ≡ o → IsSomeAnd o (λ x. IsTrue (test x)) → FoundAt test xs k) [
      | None ↦ λ _ h. absurd h
      | Some x ↦ λ at h. record { item = x; is = at; passes = h }
    ] refl found

pub found_item : {T : Type 0} (test : T → Bool) (xs : List T) (k : ℕ) → position_from test 0 xs ≡ Some k → FoundAt test xs k
found_item test xs k e = found_at test xs k (subst (λ o. IfSome o (IsFound test xs)) e (found_passes test xs))

-- where none is found, none passes
pub none_found : {T : Type 0} (test : T → Bool) (n : ℕ) (xs : List T) → is_some (position_from test n xs) ≡ false → (x : T) → IsIn x xs → test x ≡ false
none_found test n [] e x is_in = absurd is_in
none_found test n (y ∷ ys) e x (inl same) =
    elim (test y) as (λ b. test y ≡ b → is_some (cond b (Some n) (position_from test (n + 1) ys)) ≡ false → test x ≡ false) [
      | true ↦ λ _ h. absurd cc
      | false ↦ λ fails _. ap test same ∙ fails
    ] refl e
none_found test n (y ∷ ys) e x (inr later) =
    elim (test y) as (λ b. is_some (cond b (Some n) (position_from test (n + 1) ys)) ≡ false → test x ≡ false) [
      | true ↦ λ h. absurd cc
      | false ↦ λ h. none_found test (n + 1) ys h x later
    ] e

-- where some number passes as equal, it is in the list
pub some_is : (n : ℕ) (ns : List ℕ) → any_of (nat_eq n) ns ≡ true → IsIn n ns
some_is n [] e = absurd cc
some_is n (m ∷ ms) e =
    elim (nat_eq n m) as (λ b. nat_eq n m ≡ b → (b || any_of (nat_eq n) ms) ≡ true → IsIn n (m ∷ ms)) [
      | true ↦ λ is _. inl (eqb-true n m is)
      | false ↦ λ _ h. inr (some_is n ms h)
    ] refl e

-- ---- items that are made of others

pub made_at : {S T : Type 0} (g : S → T) (xs : List S) (k : ℕ) (x : S) → slice_get xs k ≡ Some x → slice_get (map g xs) k ≡ Some (g x)
made_at g xs k x at = slice_get-map g xs k ∙ ap (option_map g) at

-- the item that one was made of
pub record MadeAt {S T : Type 0} (g : S → T) (xs : List S) (k : ℕ) (y : T) : Type 0 where
  pub item : S
  pub is : slice_get xs k ≡ Some item
  pub made : y ≡ g item

pub made_of : {S T : Type 0} (g : S → T) (xs : List S) (k : ℕ) (y : T) → slice_get (map g xs) k ≡ Some y → MadeAt g xs k y
made_of g xs k y e =
    elim (slice_get xs k) as (λ o. slice_get xs k ≡ o → option_map g o ≡ Some y → MadeAt g xs k y) [
      | None ↦ λ _ h. absurd cc
      | Some x ↦ λ at h. let same : y ≡ g x = cc in record { item = x; is = at; made = same }
    ] refl (sym (slice_get-map g xs k) ∙ e)

pub record MadeIn {S T : Type 0} (g : S → T) (xs : List S) (y : T) : Type 0 where
  pub item : S
  pub is : IsIn item xs
  pub made : y ≡ g item

pub made_in : {S T : Type 0} (g : S → T) (xs : List S) (y : T) → IsIn y (map g xs) → MadeIn g xs y
made_in g [] y is_in = absurd is_in
made_in g (x ∷ xs) y (inl same) = record { item = x; is = inl refl; made = same }
made_in g (x ∷ xs) y (inr later) = let m = made_in g xs y later in record { item = m.item; is = inr m.is; made = m.made }

-- what holds of one and of those behind it holds of all
pub all_with : {T : Type 0} (P : T → Type 0) (x : T) (xs : List T) → P x → All P xs → All P (x ∷ xs)
all_with P x xs p all zero d lt = p
all_with P x xs p all (suc k) d lt = all k d (omega arith)

-- what holds of what is made of each item that fails a test
pub all_made : {S T : Type 0} (test : S → Bool) (g : S → T) (P : T → Type 0) → ((x : S) → test x ≡ false → P (g x)) → (xs : List S) → any_of test xs ≡ false → All P (map g xs)
all_made test g P h [] e = λ i d lt. absurd (omega arith)
all_made test g P h (x ∷ xs) e =
    let both = or_parts (test x) (any_of test xs) e in
    all_with P (g x) (map g xs) (h x both.0) (all_made test g P h xs both.1)

-- ---- names that stand for their numbers

pub different : (number : List ℕ → Option ℕ) (names : List (List ℕ)) → ((i : ℕ) (q : List ℕ) → slice_get names i ≡ Some q → number q ≡ Some i) → AreDifferent names
different number names h i j q at_i at_j =
    let one = h i q at_i in
    let other = h j q at_j in
    let same : Some i ≡ Some j = sym one ∙ other in
    cc

-- what holds of the items of two lists by their numbers holds of those of both
pub in_both : {T : Type 0} (P : ℕ → T → Type 0) (xs ys : List T) → ((i : ℕ) (x : T) → slice_get xs i ≡ Some x → P i x) → ((i : ℕ) (x : T) → slice_get ys i ≡ Some x → P (length xs + i) x) → (i : ℕ) (x : T) → slice_get (xs ++ ys) i ≡ Some x → P i x
in_both P [] ys h g i x at =
    let none : 0 + i ≡ i = omega arith in
    subst (λ k. P k x) none (g i x at)
in_both P (y ∷ xs) ys h g zero x at = h zero x at
in_both P (y ∷ xs) ys h g (suc i) x at =
    in_both (λ k. P (suc k)) xs ys (λ k z is. h (suc k) z is) (λ k z is.
    let more : length (y ∷ xs) + k ≡ suc (length xs + k) = omega arith in
    subst (λ m. P m z) more (g k z is)) i x at
