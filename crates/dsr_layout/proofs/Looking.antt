-- Refusals that are looked for one item after another: the first one is told.
use Rattle.std.proofs.Common.{◌≡◌, ◌<◌, ◌+◌, ℕ, zero, suc, Bool, true, false, List, [], ◌∷◌, ◌++◌, map, drop, length, get_or, Option, None, Some, is_some, slice_get, refl, sym, ap, ◌∙◌, add-one, arith}
use Rattle.std.specs.Option.{option_or}
use Rattle.dsr_layout.specs.Telling.{told_as, told_of}
use Rattle.dsr_layout.specs.declared.faults.LayoutFault.{LayoutFault}
use Rattle.dsr_meaning.proofs.Empty.{both_empty}
use Rattle.dsr_meaning.specs.Lists.{each_at}
use Rattle.dsr_meaning.specs.Refusals.{Refusal, refused_when}
use Rattle.dsr_layout.proofs.Items.{drop_item}

-- of two lists the first one tells, where it tells anything
pub told_first : (a b : List Refusal) {o : Option LayoutFault} → true ≡ is_some o → o ≡ told_of a → o ≡ told_of (a ++ b)
told_first [] b {o = None} some e = absurd cc
told_first [] b {o = Some f} some e = absurd cc
told_first (r ∷ rs) b some e = e

-- and the second one where the first tells nothing
pub told_second : (a b : List Refusal) → None ≡ told_of a → told_of (a ++ b) ≡ told_of b
told_second [] b e = refl
told_second (r ∷ rs) b e = absurd cc

-- both at once
pub told_either : (a b : List Refusal) {o p q : Option LayoutFault} → o ≡ option_or p q → p ≡ told_of a → q ≡ told_of b → o ≡ told_of (a ++ b)
told_either [] b {o} {p} {q} either first second = either ∙ ap (λ x. option_or x q) first ∙ second
told_either (r ∷ rs) b {o} {p} {q} either first second = either ∙ ap (λ x. option_or x q) first

-- only of an empty list nothing is told
pub told_none : (rs : List Refusal) → None ≡ told_of rs → rs ≡ []
told_none [] e = refl
told_none (r ∷ rs) e = absurd cc

-- a refusal whose test holds, and one whose test doesn't
pub told_where : {b : Bool} (r : Refusal) → true ≡ b → Some (told_as r) ≡ told_of (refused_when b r)
told_where r e = rw (← e) refl

pub none_where : {b : Bool} (r : Refusal) → false ≡ b → None ≡ told_of (refused_when b r)
none_where r e = rw (← e) refl

-- a test that refuses nothing fails
pub quiet : (b : Bool) (r : Refusal) → refused_when b r ≡ [] → b ≡ false
quiet true r e = absurd cc
quiet false r e = refl

-- what isn't some is none
pub is_none : {T : Type 0} {o : Option T} → false ≡ is_some o → None ≡ o
is_none {o = None} e = refl
is_none {o = Some x} e = absurd cc

-- where no item gives anything, one that is found gives nothing
pub each_item : {S T : Type 0} (f : ℕ → S → List T) (n : ℕ) (xs : List S) → each_at f n xs ≡ [] → (k m : ℕ) (x : S) → m ≡ n + k → slice_get xs k ≡ Some x → f m x ≡ []
each_item f n [] e k m x at is = absurd cc
each_item f n (y ∷ ys) e zero m x at is =
    let here : m ≡ n = omega arith in
    let same : y ≡ x = cc in
    ap (λ j. f j x) here ∙ ap (f n) (sym same) ∙ (both_empty (f n y) (each_at f (suc n) ys) e).0
each_item f n (y ∷ ys) e (suc k) m x at is = each_item f (suc n) ys (both_empty (f n y) (each_at f (suc n) ys) e).1 k m x (omega arith) is

-- items that are seen by their shapes
pub each_at_map : {X S : Type 0} (f : ℕ → S → List Refusal) (g : X → S) (n : ℕ) (xs : List X) → each_at (λ k x. f k (g x)) n xs ≡ each_at f n (map g xs)
each_at_map f g n [] = refl
each_at_map f g n (x ∷ xs) = ap (λ rs. f n (g x) ++ rs) (each_at_map f g (suc n) xs)

module _ {X : Type 0} (f : ℕ → X → List Refusal) where
  -- an item of which nothing is told
  pub goes_on : (xs : List X) (i : ℕ) (x : X) (n m : ℕ) → i < length xs → x ≡ get_or xs i x → m ≡ n + 1 → None ≡ told_of (f n x) → told_of (each_at f m (drop (i + 1) xs)) ≡ told_of (each_at f n (drop i xs))
  goes_on xs i x n m lt is next none =
      ap (λ k. told_of (each_at f k (drop (i + 1) xs))) (next ∙ add-one n)
      ∙ sym (told_second (f n x) (each_at f (suc n) (drop (i + 1) xs)) none)
      ∙ sym (ap (λ ys. told_of (each_at f n ys)) (drop_item xs i x lt is))

  -- the first item of which something is told
  pub is_told : (xs : List X) (i : ℕ) (x : X) (n : ℕ) {o : Option LayoutFault} → i < length xs → x ≡ get_or xs i x → true ≡ is_some o → o ≡ told_of (f n x) → o ≡ told_of (each_at f n (drop i xs))
  is_told xs i x n lt is some e =
      told_first (f n x) (each_at f (suc n) (drop (i + 1) xs)) some e
      ∙ sym (ap (λ ys. told_of (each_at f n ys)) (drop_item xs i x lt is))
