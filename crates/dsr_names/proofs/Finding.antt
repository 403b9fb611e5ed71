-- Faults that are found one after another.
use Rattle.std.proofs.Common.{◌≡◌, ◌<◌, ◌+◌, ℕ, suc, Bool, List, [], ◌∷◌, ◌++◌, map, take, length, get_or, Option, refl, sym, ap, ◌∙◌, add-one, subst, arith}
use Rattle.std.proofs.Math.Seq.{take-suc}
use Rattle.std.proofs.lemmas.List.{append-nil, append_assoc, map-append, map-id, length-map, length-take}
use Rattle.dsr_tree.specs.declared.faults.Condition.{Condition}
use Rattle.dsr_tree.specs.declared.faults.Fault.{Fault}
use Rattle.dsr_language_theory.specs.Faults.{when}
use Rattle.dsr_meaning.specs.Lists.{each_at}
use Rattle.dsr_names.specs.Telling.{told_of, told_after, Finds}

told_after-append : (o : Option Fault) (xs ys : List Fault) → told_after o (xs ++ ys) ≡ told_after (told_after o xs) ys
told_after-append o [] ys = refl
told_after-append o (x ∷ xs) ys = told_after-append (told_of o x) xs ys

pub finds_nothing : {o : Option Fault} → Finds [] o o
finds_nothing = record { is = refl }

pub finds_then : {xs ys : List Fault} {a b c : Option Fault} → Finds xs a b → Finds ys b c → Finds (xs ++ ys) a c
finds_then {xs} {ys} {a} {b} {c} p q = record { is = q.is ∙ ap (λ o. told_after o ys) p.is ∙ sym (told_after-append a xs ys) }

-- a test that was computed in another way
pub finds_when : {b b' : Bool} (condition : Condition) (place : ℕ) {old new : Option Fault} → b ≡ b' → Finds (when b condition place) old new → Finds (when b' condition place) old new
finds_when condition place {old} {new} e p = subst (λ t. Finds (when t condition place) old new) e p

-- the same faults, written in another way
pub finds_same : {xs ys : List Fault} {old new : Option Fault} → xs ≡ ys → Finds xs old new → Finds ys old new
finds_same {old} {new} e p = subst (λ fs. Finds fs old new) e p

module _ {S : Type 0} (f : ℕ → S → List Fault) where
  each_at-append : (n : ℕ) (xs : List S) (x : S) → each_at f n (xs ++ x ∷ []) ≡ each_at f n xs ++ f (n + length xs) x
  each_at-append n [] x =
      let at : n ≡ n + 0 = omega arith in
      append-nil (f n x) ∙ ap (λ k. f k x) at
  each_at-append n (y ∷ ys) x =
      let at : suc n + length ys ≡ n + length (y ∷ ys) = omega arith in
      ap (λ zs. f n y ++ zs) (each_at-append (suc n) ys x ∙ ap (λ k. each_at f (suc n) ys ++ f k x) at) ∙ sym (append_assoc (f n y) (each_at f (suc n) ys) (f (n + length (y ∷ ys)) x))

  -- what the items up to one gave, and then what that one gave; items are seen by their shapes
  pub each_next : {X : Type 0} (g : X → S) (n : ℕ) (xs : List X) (i : ℕ) (x : X) → i < length xs → x ≡ get_or xs i x → each_at f n (map g (take (i + 1) xs)) ≡ each_at f n (map g (take i xs)) ++ f (n + i) (g x)
  each_next g n xs i x lt is =
      let e : take (i + 1) xs ≡ take i xs ++ x ∷ [] = rw add-one (take-suc xs i x lt ∙ ap (λ y. take i xs ++ y ∷ []) (sym is)) in
      let many : length (map g (take i xs)) ≡ i = length-map (take i xs) g ∙ length-take i xs ∙ omega arith in
      ap (λ ys. each_at f n (map g ys)) e
      ∙ ap (each_at f n) (map-append g (take i xs) (x ∷ []))
      ∙ each_at-append n (map g (take i xs)) (g x)
      ∙ ap (λ k. each_at f n (map g (take i xs)) ++ f (n + k) (g x)) many

  -- the same for faults that were found, of items that are counted from 0
  pub finds_next : {X : Type 0} (g : X → S) {a b c : Option Fault} (xs : List X) (i : ℕ) (x : X) → i < length xs → x ≡ get_or xs i x → Finds (each_at f 0 (map g (take i xs))) a b → Finds (f i (g x)) b c → Finds (each_at f 0 (map g (take (i + 1) xs))) a c
  finds_next g xs i x lt is p q =
      let at : i ≡ 0 + i = omega arith in
      finds_same (sym (each_next g 0 xs i x lt is)) (finds_then p (finds_same (ap (λ k. f k (g x)) at) q))

  -- of items that are seen as they are
  pub finds_next_of : {a b c : Option Fault} (xs : List S) (i : ℕ) (x : S) → i < length xs → x ≡ get_or xs i x → Finds (each_at f 0 (take i xs)) a b → Finds (f i x) b c → Finds (each_at f 0 (take (i + 1) xs)) a c
  finds_next_of {a} {b} {c} xs i x lt is p q =
      subst (λ ys. Finds (each_at f 0 ys) a c) (map-id (take (i + 1) xs)) (finds_next (λ y. y) xs i x lt is (subst (λ ys. Finds (each_at f 0 ys) a b) (sym (map-id (take i xs))) p) q)

-- what was found in the items up to one, and then in that one, where they are counted from any number
pub finds_next_from : {S : Type 0} (f : ℕ → S → List Fault) (n : ℕ) {a b c : Option Fault} (xs : List S) (i : ℕ) (x : S) → i < length xs → x ≡ get_or xs i x → Finds (each_at f n (take i xs)) a b → Finds (f (n + i) x) b c → Finds (each_at f n (take (i + 1) xs)) a c
finds_next_from f n xs i x lt is p q =
    let next : each_at f n (take (i + 1) xs) ≡ each_at f n (take i xs) ++ f (n + i) x =
    sym (ap (each_at f n) (map-id (take (i + 1) xs))) ∙ each_next f (λ y. y) n xs i x lt is ∙ ap (λ ys. each_at f n ys ++ f (n + i) x) (map-id (take i xs)) in
    finds_same (sym next) (finds_then p q)
