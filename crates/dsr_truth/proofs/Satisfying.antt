-- Conjunctions that are true, and constraints that are satisfied.
use Rattle.std.proofs.Common.{◌≡◌, ◌<◌, ◌≤◌, ◌↔◌, ℕ, zero, suc, ◌+◌, ◌-◌, Bool, true, false, not, List, [], ◌∷◌, length, get_or, take, drop, length-drop, slice_get, Option, None, Some, All, IsTrue, refl, sym, ap, subst, ◌∙◌, arith, inl, inr}
use Rattle.std.specs.Prelude.{IsFalse, IsSome, MatchBool}
use Rattle.std.proofs.lemmas.Bool.{cases_lt}
use Rattle.std.proofs.lemmas.List.{take_all}
use Rattle.std.proofs.lemmas.List.Elements.{All-head, All-tail}
use Rattle.std.proofs.lemmas.Option.{slice_get-get_or, slice_get_past}
use Rattle.dsr_meaning.specs.Counting.{IsIn}

pub item_in : {A : Type 0} (xs : List A) (i : ℕ) (d : A) → i < length xs → IsIn (get_or xs i d) xs
item_in [] i d less = absurd (omega (arith, less))
item_in (x ∷ xs) zero d less = inl refl
item_in (x ∷ xs) (suc i) d less = inr (item_in xs i d (omega (arith, less)))

in_all : {A : Type 0} (P : A → Type 0) (x : A) (xs : List A) → IsIn x xs → All P xs → P x
in_all P x [] here all = absurd here
in_all P x (y ∷ ys) (inl same) all = subst P (sym same) (All-head P y ys all)
in_all P x (y ∷ ys) (inr later) all = in_all P x ys later (All-tail P y ys all)

-- no item has the property where each lacks it
pub some_or_none : {A : Type 0} (P : A → Type 0) (xs : List A) → (x : A) × IsIn x xs × P x
    → All (λ x. P x → ⊥) xs → ⊥
some_or_none P xs some none = in_all (λ x. P x → ⊥) some.0 xs some.1 none some.2

not_none : {A : Type 0} (o : Option A) → o ≡ None → IsSome o → ⊥
not_none None is some = absurd cc
not_none (Some x) is some = absurd cc

pub declared_at : {A : Type 0} (xs : List A) (i : ℕ) (x : A) → IsSome (slice_get xs i) → x ≡ get_or xs i x
    → slice_get xs i ≡ Some x
declared_at xs i x some is = elim (cases_lt i (length xs)) [
  | inl less ↦ slice_get-get_or xs i x less ∙ ap Some (sym is)
  | inr past ↦ absurd (not_none (slice_get xs i) (slice_get_past xs i past) some)
]

pub found_at : {A : Type 0} (xs ys : List A) (i : ℕ) (x : A) → ys ≡ xs → i < length ys → x ≡ get_or ys i x
    → slice_get xs i ≡ Some x
found_at xs ys i x same less is =
    subst (λ zs. slice_get zs i ≡ Some x) same (slice_get-get_or ys i x less ∙ ap Some (sym is))

-- what stands behind a place
get_behind : {A : Type 0} (xs : List A) (n k : ℕ) → slice_get xs (n + k) ≡ slice_get (drop n xs) k
get_behind xs zero k = ap (slice_get xs) (omega arith)
get_behind [] (suc n) k = refl
get_behind (x ∷ xs) (suc n) k =
    let place : suc n + k ≡ suc (n + k) = omega arith in
    ap (slice_get (x ∷ xs)) place ∙ get_behind xs n k

pub rest_behind : {A : Type 0} (xs : List A) (n k : ℕ)
    → slice_get xs (n + k) ≡ slice_get (take (length xs - n) (drop n xs)) k
rest_behind xs n k =
    let few : length (drop n xs) ≤ length xs - n = omega (arith, length-drop n xs) in
    get_behind xs n k ∙ ap (λ ys. slice_get ys k) (sym (take_all (length xs - n) (drop n xs) few))

-- an answer that tells which of two things holds, of which only one can
module _ (P Q : Type 0) (apart : P → Q → ⊥) where
  pub tells_first : (answer : Bool) → MatchBool answer P Q → IsTrue answer ↔ P
  tells_first true p = (λ _. p, λ _. refl)
  tells_first false q = (λ yes. absurd cc, λ p. absurd (apart p q))

  pub tells_second : (answer : Bool) → MatchBool answer P Q → IsFalse answer ↔ Q
  tells_second true p = (λ no. absurd cc, λ q. absurd (apart p q))
  tells_second false q = (λ _. q, λ _. refl)

  pub tells_second_of : (B : Type 0) (answer : Bool) → B → MatchBool answer P Q → IsTrue (not answer) ↔ (B × Q)
  tells_second_of B true b p = (λ no. absurd cc, λ bq. absurd (apart p bq.1))
  tells_second_of B false b q = (λ _. (b, q), λ _. refl)
