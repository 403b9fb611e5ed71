-- The first reason is that of the first cause, also where each cause stands once; and causes one after the other.
use Rattle.std.proofs.Common.{◌≡◌, ◌<◌, ◌≤◌, ◌+◌, ◌++◌, ℕ, zero, suc, List, [], ◌∷◌, Option, None, Some, Result, Ok, Err, IfOk, Vec, Global, All, length, drop, take, get_or, inl, inr, refl, sym, ap, subst, ◌∙◌, arith}
use Rattle.std.proofs.lemmas.List.Elements.{All-cons, All-head, All-nil, All-tail}
use Rattle.dsr_graph_theory.specs.Breaks.{IsFirstReason, first, later, none}
use Rattle.dsr_graph_theory.specs.declared.causes.Cause.{Cause}
use Rattle.dsr_graph_theory.specs.declared.causes.Reason.{Reason}
use Rattle.std.proofs.lemmas.List.{take_more}
use Rattle.dsr_goal.proofs.Once.{once_again, once_first}
use Rattle.dsr_ir.specs.declared.memory.NoMemory.{NoMemory}
use Rattle.dsr_meaning.specs.Counting.{IsIn}
use Rattle.dsr_update_theory.specs.Templates.{AreOnce}

module _ (Such : Cause → Type 0) where
  first_once : {seen xs ys : List Cause} (reason : Option Reason) → AreOnce seen xs ys → ((s : Cause) → IsIn s seen → Such s → ⊥) → IsFirstReason Such ys reason → IsFirstReason Such xs reason
  first_once reason AreOnce.done out its = its
  first_once reason (AreOnce.again x before rest) out its = later x (out x before) (first_once reason rest out its)
  first_once reason (AreOnce.first x new rest) out (first cause such) = first cause such
  first_once reason (AreOnce.first x new rest) out (later cause not_such its) =
      later cause not_such (first_once reason rest (λ s seen. elim seen as (λ _. Such s → ⊥) [
        | inl same ↦ λ such. not_such (subst Such same such)
        | inr before ↦ out s before
      ]) its)

  -- of causes that stand once it is the same
  pub of_once : {xs ys : List Cause} (reason : Option Reason) → AreOnce [] xs ys → IsFirstReason Such ys reason → IsFirstReason Such xs reason
  of_once reason once its = first_once reason once (λ s seen. absurd seen) its

  -- what is found behind the place holds of all, where none before it is such a one
  abbrev pub IsFoundBehind : List Cause → ℕ → Type 0
  IsFoundBehind xs i = (reason : Option Reason) → IsFirstReason Such (drop i xs) reason → IsFirstReason Such xs reason

  drop_suc : (xs : List Cause) (i : ℕ) (x : Cause) → drop (i + 1) xs ≡ drop (suc i + 1) (x ∷ xs)
  drop_suc xs i x = let e : suc i + 1 ≡ suc (i + 1) = omega arith in sym (ap (λ n. drop n (x ∷ xs)) e)

  drop_next : (xs : List Cause) (i : ℕ) (d : Cause) → i < length xs → drop i xs ≡ get_or xs i d ∷ drop (i + 1) xs
  drop_next [] i d less = absurd (omega (arith, less))
  drop_next (x ∷ xs) zero d less = refl
  drop_next (x ∷ xs) (suc i) d less = drop_next xs i d (omega (arith, less)) ∙ ap (λ ys. get_or xs i d ∷ ys) (drop_suc xs i x)

  drop_past : (xs : List Cause) (i : ℕ) → length xs ≤ i → drop i xs ≡ []
  drop_past [] zero past = refl
  drop_past [] (suc i) past = refl
  drop_past (x ∷ xs) zero past = absurd (omega (arith, past))
  drop_past (x ∷ xs) (suc i) past = drop_past xs i (omega (arith, past))

  pub behind_next : (xs : List Cause) (i : ℕ) (d : Cause) → i < length xs → (Such (get_or xs i d) → ⊥) → IsFoundBehind xs i → IsFoundBehind xs (i + 1)
  behind_next xs i d less not_such found reason its =
      found reason (subst (λ ys. IsFirstReason Such ys reason) (sym (drop_next xs i d less)) (later (get_or xs i d) not_such its))

  pub found_here : (xs : List Cause) (i : ℕ) (d : Cause) → i < length xs → Such (get_or xs i d) → IsFoundBehind xs i → IsFirstReason Such xs (Some (get_or xs i d).reason)
  found_here xs i d less such found =
      found (Some (get_or xs i d).reason) (subst (λ ys. IsFirstReason Such ys (Some (get_or xs i d).reason)) (sym (drop_next xs i d less)) (first (get_or xs i d) such))

  pub found_none : (xs : List Cause) (i : ℕ) → length xs ≤ i → IsFoundBehind xs i → IsFirstReason Such xs None
  found_none xs i past found = found None (subst (λ ys. IsFirstReason Such ys None) (sym (drop_past xs i past)) none)

-- all causes that stand once hold what all do
pub once_all : (P : Cause → Type 0) (seen xs ys : List Cause) → AreOnce seen xs ys → All P xs → All P ys
once_all P seen [] [] AreOnce.done all = All-nil P
once_all P seen [] (y ∷ ys) once all = elim once [ ]
once_all P seen (x ∷ xs) ys (AreOnce.again y before rest) all = once_all P seen xs ys rest (All-tail P x xs all)
once_all P seen (x ∷ xs) (y ∷ ys) (AreOnce.first z new rest) all = All-cons P x ys (All-head P x xs all) (once_all P (x ∷ seen) xs ys rest (All-tail P x xs all))

-- the item at which a loop is, where it is new, and where it isn't
pub once_pushed : (xs : List Cause) (i : ℕ) (d : Cause) → i < length xs → (ys seen zs : List Cause) → zs ≡ ys ++ get_or xs i d ∷ [] → seen ≡ ys → (IsIn (get_or xs i d) seen → ⊥) → AreOnce [] (take i xs) ys → AreOnce [] (take (i + 1) xs) zs
once_pushed xs i d less ys seen zs zs_are seen_are new once =
    subst (λ all. AreOnce [] all zs) (sym (take_more xs i d less))
    (subst (AreOnce [] (take i xs ++ get_or xs i d ∷ [])) (sym zs_are)
    (once_first (get_or xs i d) once (subst (λ s. IsIn (get_or xs i d) s → ⊥) seen_are new) (λ h. h)))

pub once_passed : (xs : List Cause) (i : ℕ) (d : Cause) → i < length xs → (ys seen zs : List Cause) → zs ≡ ys → seen ≡ ys → IsIn (get_or xs i d) seen → AreOnce [] (take i xs) ys → AreOnce [] (take (i + 1) xs) zs
once_passed xs i d less ys seen zs zs_are seen_are is_in once =
    subst (λ all. AreOnce [] all zs) (sym (take_more xs i d less))
    (subst (AreOnce [] (take i xs ++ get_or xs i d ∷ [])) (sym zs_are)
    (once_again (get_or xs i d) once (inl (subst (IsIn (get_or xs i d)) seen_are is_in))))

-- where all causes are of a kind, so are those that stand once
pub if_once : (P : Cause → Type 0) (all : List Cause) (result : Result (Vec Cause Global) NoMemory) → All P all → IfOk result (λ once. AreOnce [] all once.items) → IfOk result (λ once. All P once.items)
if_once P all (Ok once) each is = once_all P [] all once.items is each
if_once P all (Err fault) each is = is
