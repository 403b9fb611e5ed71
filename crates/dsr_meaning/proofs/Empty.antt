-- What follows where lists are empty together.
use Rattle.std.proofs.Common.{◌≡◌, ◌≤◌, ◌+◌, ℕ, zero, suc, List, [], ◌∷◌, ◌++◌, length, All, refl, subst, arith}
use Rattle.dsr_meaning.specs.Lists.{each_at}

-- each of two is empty
pub both_empty : {T : Type 0} (xs ys : List T) → xs ++ ys ≡ [] → (xs ≡ []) × (ys ≡ [])
both_empty [] ys e = (refl, e)
both_empty (x ∷ xs) ys e = absurd cc

-- the second of three is
pub second_empty : {T : Type 0} (a b rest : List T) → a ++ (b ++ rest) ≡ [] → b ≡ []
second_empty a b rest e = (both_empty b rest (both_empty a (b ++ rest) e).1).0

-- the third of four is
pub third_empty : {T : Type 0} (a b c rest : List T) → a ++ (b ++ (c ++ rest)) ≡ [] → c ≡ []
third_empty a b c rest e = second_empty b c rest (both_empty a (b ++ (c ++ rest)) e).1

-- the last of four is
pub fourth_empty : {T : Type 0} (a b c d : List T) → a ++ (b ++ (c ++ d)) ≡ [] → d ≡ []
fourth_empty a b c d e = (both_empty c d (both_empty b (c ++ d) (both_empty a (b ++ (c ++ d)) e).1).1).1

-- the one behind four is
pub fifth_empty : {T : Type 0} (a b c d e rest : List T) → a ++ (b ++ (c ++ (d ++ (e ++ rest)))) ≡ [] → e ≡ []
fifth_empty a b c d e rest is = (both_empty e rest (fourth_empty b c d (e ++ rest) (both_empty a (b ++ (c ++ (d ++ (e ++ rest)))) is).1)).0

-- the second of two has no item
pub no_second : {T : Type 0} (xs : List T) (y : T) (ys : List T) → xs ++ (y ∷ ys) ≡ [] → ⊥
no_second [] y ys e = absurd cc
no_second (x ∷ xs) y ys e = absurd cc

-- what holds of one and of each behind it holds of each
all_with : {S : Type 0} (P : S → Type 0) (x : S) (xs : List S) → P x → All P xs → All P (x ∷ xs)
all_with P x xs p all zero d lt = p
all_with P x xs p all (suc k) d lt = all k d (omega arith)

module _ {S T : Type 0} (f : ℕ → S → List T) where
  -- where no item gives anything, each has what follows from that
  pub each_has : (P : S → Type 0) → ((n : ℕ) (x : S) → f n x ≡ [] → P x) → (n : ℕ) (xs : List S) → each_at f n xs ≡ [] → All P xs
  each_has P h n [] e = λ i d lt. absurd (omega arith)
  each_has P h n (x ∷ xs) e =
      let both = both_empty (f n x) (each_at f (suc n) xs) e in
      all_with P x xs (h n x both.0) (each_has P h (suc n) xs both.1)

  -- where no item gives anything, there are at most m, if one would behind m
  pub few : (m n at : ℕ) → at ≡ n + m → ((x : S) → f at x ≡ [] → ⊥) → (xs : List S) → each_at f n xs ≡ [] → length xs ≤ m
  few m n at is limit [] e = omega arith
  few zero n at is limit (x ∷ xs) e =
      let same : n ≡ at = omega arith in
      absurd (limit x (subst (λ k. f k x ≡ []) same (both_empty (f n x) (each_at f (suc n) xs) e).0))
  few (suc m) n at is limit (x ∷ xs) e =
      let rest = few m (suc n) at (omega arith) limit xs (both_empty (f n x) (each_at f (suc n) xs) e).1 in
      omega (arith, rest)
