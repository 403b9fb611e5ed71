-- The size of a list of conjunctions, by the sizes of the lists that it is made of.
use Rattle.std.proofs.Common.{◌≡◌, ◌≤◌, ◌+◌, ◌*◌, ℕ, zero, suc, Bool, true, false, eqb, List, [], ◌∷◌, ◌++◌, map, length, length-append, inl, inr, refl, ap, sym, ◌∙◌, arith}
use Rattle.std.specs.Prelude.{if◌then◌else◌, min, max}
use Rattle.std.proofs.lemmas.Bool.{cases_lt}
use Rattle.std.proofs.lemmas.Bool.Decides.{nat_tests}
use Rattle.std.proofs.lemmas.List.{length-map}
use Rattle.dsr_ir.specs.declared.constraints.Literal.{Literal}
use Rattle.dsr_normal.specs.declared.sizes.Size.{Size}
use Rattle.dsr_language_theory.specs.NormalForms.{joined, longest}
use Rattle.dsr_normal.specs.Sizes.{size_of, added, multiplied}
use Rattle.dsr_normal.proofs.Joining.{joined_nothing}

length_joined : (l r : List (List Literal)) → length (joined l r) ≡ length l * length r
length_joined [] r = omega arith
length_joined (x ∷ l) r =
    let e = length-append (map (λ d. x ++ d) r) (joined l r) in
    let f = length-map r (λ d. x ++ d) in
    let h = length_joined l r in
    omega (arith, e, f, h)

longest_append : (l m : List (List Literal)) → longest (l ++ m) ≡ max (longest l) (longest m)
longest_append [] m = omega arith
longest_append (x ∷ l) m = let h = longest_append l m in omega (arith, h)

longest_prefixed : (x y : List Literal) (ys : List (List Literal)) → longest (map (λ d. x ++ d) (y ∷ ys)) ≡ length x + longest (y ∷ ys)
longest_prefixed x y [] = let e = length-append x y in omega (arith, e)
longest_prefixed x y (z ∷ ys) = let e = length-append x y in let h = longest_prefixed x z ys in omega (arith, e, h)

longest_joined : (x : List Literal) (l : List (List Literal)) (y : List Literal) (r : List (List Literal)) → longest (joined (x ∷ l) (y ∷ r)) ≡ longest (x ∷ l) + longest (y ∷ r)
longest_joined x [] y r =
    let e = longest_append (map (λ d. x ++ d) (y ∷ r)) [] in
    let f = longest_prefixed x y r in
    omega (arith, e, f)
longest_joined x (z ∷ l) y r =
    let e = longest_append (map (λ d. x ++ d) (y ∷ r)) (joined (z ∷ l) (y ∷ r)) in
    let f = longest_prefixed x y r in
    let h = longest_joined z l y r in
    omega (arith, e, f, h)

clipped_product : (a b : ℕ) → min (a * b) 17 ≡ min (min a 17 * min b 17) 17
clipped_product a b = elim (cases_lt a 17) [
  | inl h ↦ elim (cases_lt b 17) [
    | inl k ↦ (let e : min a 17 ≡ a = omega (arith, h) in let f : min b 17 ≡ b = omega (arith, k) in λ i. min (sym e i * sym f i) 17)
    | inr k ↦ (let f : min b 17 ≡ 17 = omega (arith, k) in let e : min a 17 ≡ a = omega (arith, h) in few a b k ∙ (λ i. min (sym e i * sym f i) 17))
  ]
  | inr h ↦ (let e : min a 17 ≡ 17 = omega (arith, h) in many b h ∙ (λ i. min (sym e i * min b 17) 17))
]
  where
    few : (n m : ℕ) → 17 ≤ m → min (n * m) 17 ≡ min (n * 17) 17
    few zero m k = omega arith
    few (suc n) m k = omega (arith, k)

    many : (m : ℕ) → 17 ≤ a → min (a * m) 17 ≡ min (17 * min m 17) 17
    many zero k = omega arith
    many (suc m) k = omega (arith, k)

pub size_added : (l m : List (List Literal)) → size_of (l ++ m) ≡ added (size_of l) (size_of m)
size_added l m =
    let e : min (length (l ++ m)) 17 ≡ min (min (length l) 17 + min (length m) 17) 17 = omega (arith, length-append l m) in
    let f : min (longest (l ++ m)) 9 ≡ max (min (longest l) 9) (min (longest m) 9) = omega (arith, longest_append l m) in
    λ i. record { conjunctions = e i; longest = f i }

skipped : (b : Bool) (z w : Size) → w ≡ z → z ≡ (if b then z else w)
skipped true z w e = refl
skipped false z w e = sym e

taken : (b c : Bool) (z w : Size) → b ≡ false → c ≡ false → w ≡ (if b then z else if c then z else w)
taken b c z w e f = λ i. if sym e i then z else if sym f i then z else w

full : (n : ℕ) → eqb (min (suc n) 17) 0 ≡ false
full n = grind (arith, nat_tests)

pub size_multiplied : (l r : List (List Literal)) → size_of (joined l r) ≡ multiplied (size_of l) (size_of r)
size_multiplied [] r = refl
size_multiplied (x ∷ l) [] = ap size_of (joined_nothing (x ∷ l)) ∙ skipped (eqb (min (length (x ∷ l)) 17) 0) (record { conjunctions = 0; longest = 0 }) (record { conjunctions = 0; longest = 0 }) refl
size_multiplied (x ∷ l) (y ∷ r) =
    let e : min (length (joined (x ∷ l) (y ∷ r))) 17 ≡ min (min (length (x ∷ l)) 17 * min (length (y ∷ r)) 17) 17 = ap (λ n. min n 17) (length_joined (x ∷ l) (y ∷ r)) ∙ clipped_product (length (x ∷ l)) (length (y ∷ r)) in
    let f : min (longest (joined (x ∷ l) (y ∷ r))) 9 ≡ min (min (longest (x ∷ l)) 9 + min (longest (y ∷ r)) 9) 9 = omega (arith, longest_joined x l y r) in
    (λ i. record { conjunctions = e i; longest = f i })
    ∙ taken (eqb (min (length (x ∷ l)) 17) 0) (eqb (min (length (y ∷ r)) 17) 0) (record { conjunctions = 0; longest = 0 }) (record { conjunctions = min (min (length (x ∷ l)) 17 * min (length (y ∷ r)) 17) 17; longest = min (min (longest (x ∷ l)) 9 + min (longest (y ∷ r)) 9) 9 }) (full (length l)) (full (length r))
