-- Numbers of the items that pass a test, in a list that grows at its end.
use Rattle.std.proofs.Common.{◌≡◌, ◌<◌, ◌+◌, ℕ, Bool, true, false, cond, not, ◌&&◌, List, [], ◌∷◌, ◌++◌, map, take, length, get_or, Option, None, Some, IfSome, is_some, if◌then◌else◌, refl, sym, ap, ◌∙◌, add-one, arith}
use Rattle.std.proofs.Math.Seq.{take-suc}
use Rattle.std.proofs.lemmas.List.{length-take}
use Rattle.std.proofs.lemmas.Option.{IfSome_then}
use Rattle.std.proofs.lemmas.Slice.Eq.{bytes_eq-Decides}
use Rattle.std.specs.List.{position_from}
use Rattle.std.specs.Str.{bytes_eq}
use Rattle.dsr_ir.specs.declared.declarations.Field.{Field}
use Rattle.dsr_language_theory.specs.Known.{is_gap, has_field_name}
use Rattle.dsr_names.specs.Tables.{is_named, entered, field_name}

-- a number that is known, or else this one where the test passes
abbrev pub known_or : Option ℕ → ℕ → Bool → Option ℕ
known_or known n passes = if is_some known then known else (if passes then Some n else None)

-- the first item of a mapped list that passes
pub position_map : {X K : Type 0} (t : K → Bool) (g : X → K) (n : ℕ) (xs : List X) → position_from t n (map g xs) ≡ position_from (λ x. t (g x)) n xs
position_map t g n [] = refl
position_map t g n (x ∷ xs) = ap (cond (t (g x)) (Some n)) (position_map t g (n + 1) xs)

-- the number of an item that is found is one of the list's
pub position_below : {X : Type 0} (t : X → Bool) (n : ℕ) (xs : List X) → IfSome (position_from t n xs) (λ k. k < n + length xs)
position_below t n [] = tt
position_below t n (x ∷ xs) =
    elim (t x) as (λ b. IfSome (cond b (Some n) (position_from t (n + 1) xs)) (λ k. k < n + length (x ∷ xs))) [
      | true ↦ omega arith
      | false ↦ IfSome_then (position_from t (n + 1) xs) (position_below t (n + 1) xs) (λ k lt. omega (arith, lt))
    ]

module _ {X : Type 0} (t : X → Bool) where
  -- the first item that passes, where one more stands behind
  pub position_push : (n : ℕ) (xs : List X) (x : X) → position_from t n (xs ++ x ∷ []) ≡ known_or (position_from t n xs) (n + length xs) (t x)
  position_push n [] x =
      let at : n ≡ n + 0 = omega arith in
      ap (λ k. known_or None k (t x)) at
  position_push n (y ∷ ys) x =
      let at : n + 1 + length ys ≡ n + length (y ∷ ys) = omega arith in
      elim (t y) as (λ b. cond b (Some n) (position_from t (n + 1) (ys ++ x ∷ [])) ≡ known_or (cond b (Some n) (position_from t (n + 1) ys)) (n + length (y ∷ ys)) (t x)) [
        | true ↦ refl
        | false ↦ position_push (n + 1) ys x ∙ ap (λ k. known_or (position_from t (n + 1) ys) k (t x)) at
      ]

  -- what is known of the items up to one, and then of that one too
  pub position_next : (n : ℕ) (xs : List X) (i : ℕ) (x : X) → i < length xs → x ≡ get_or xs i x → {known : Option ℕ} {passes : Bool} → known ≡ position_from t n (take i xs) → passes ≡ t x → known_or known (n + i) passes ≡ position_from t n (take (i + 1) xs)
  position_next n xs i x lt is {known} {passes} k p =
      let more : take (i + 1) xs ≡ take i xs ++ x ∷ [] = rw add-one (take-suc xs i x lt ∙ ap (λ y. take i xs ++ y ∷ []) (sym is)) in
      let many : n + length (take i xs) ≡ n + i = ap (λ m. n + m) (length-take i xs) ∙ omega arith in
      ap (λ o. known_or o (n + i) passes) k
      ∙ ap (known_or (position_from t n (take i xs)) (n + i)) p
      ∙ sym (ap (position_from t n) more ∙ position_push n (take i xs) x ∙ ap (λ m. known_or (position_from t n (take i xs)) m (t x)) many)

  -- the same where that one doesn't pass
  pub position_stays : (n : ℕ) (xs : List X) (i : ℕ) (x : X) → i < length xs → x ≡ get_or xs i x → {known : Option ℕ} → known ≡ position_from t n (take i xs) → false ≡ t x → known ≡ position_from t n (take (i + 1) xs)
  position_stays n xs i x lt is {known} k p = elim known as (λ o. o ≡ known_or o (n + i) false) [ None ↦ refl | Some m ↦ refl ] ∙ position_next n xs i x lt is k p

-- the number of a field by its name, as tables of any items have it
pub field_numbers : (q : List ℕ) (fs : List Field) → position_from (λ f. is_named (field_name f) q) 0 fs ≡ position_from (has_field_name q) 0 fs
field_numbers q fs = ap (λ test. position_from test 0 fs) (λ i f. same f i)
  where
    same : (f : Field) → is_named (field_name f) q ≡ has_field_name q f
    same f = elim (is_gap f.kind) as (λ b. is_named (if b then None else Some f.name) q ≡ not b && bytes_eq f.name q) [
      | true ↦ refl
      | false ↦ refl
    ]

-- what is entered at a name, by what is known there and by whether it is the entered name
known_stays : (number : ℕ) (here : Option ℕ) (passes : Bool) → (passes ≡ true → true ≡ is_some here) → here ≡ cond (is_some here) here (cond passes (Some number) None)
known_stays number (Some n) passes is = refl
known_stays number None true is = let clash = is refl in cc
known_stays number None false is = refl

unknown_comes : (number : ℕ) (here : Option ℕ) (passes : Bool) → (passes ≡ true → false ≡ is_some here) → cond passes (Some number) here ≡ cond (is_some here) here (cond passes (Some number) None)
unknown_comes number (Some n) true is = let clash = is refl in cc
unknown_comes number (Some n) false is = refl
unknown_comes number None passes is = refl

module _ (old : List ℕ → Option ℕ) (name : List ℕ) (number : ℕ) where
  -- what is so at the name is so where the texts are the same
  at_same : {b : Bool} → b ≡ is_some (old name) → (q : List ℕ) → bytes_eq name q ≡ true → b ≡ is_some (old q)
  at_same is q same = is ∙ ap (λ n. is_some (old n)) ((bytes_eq-Decides name q).0 same)

  -- a name that is known already
  pub enter_known : true ≡ is_some (old name) → (q : List ℕ) → old q ≡ entered old name number q
  enter_known is q = known_stays number (old q) (bytes_eq name q) (at_same is q)

  -- a name that wasn't, entered under a copy of it
  pub enter_new : {new : List ℕ → Option ℕ} {key : List ℕ} → false ≡ is_some (old name) → key ≡ name → ((q : List ℕ) → new q ≡ cond (bytes_eq key q) (Some number) (old q)) → (q : List ℕ) → new q ≡ entered old name number q
  enter_new {new} {key} is copied now q = now q ∙ ap (λ k. cond (bytes_eq k q) (Some number) (old q)) copied ∙ unknown_comes number (old q) (bytes_eq name q) (at_same is q)
