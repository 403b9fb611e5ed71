-- The line of a typed structure, one step after the other.
use Rattle.std.proofs.Common.{◌≡◌, ◌<◌, ◌∙◌, ◌⊎◌, ℕ, suc, Bool, true, false, nat_eq, List, [], ◌∷◌, Option, None, Some, IfSome, inl, inr, refl, sym, ap, subst, arith}
use Rattle.std.specs.Prelude.{Decides, slice_get, ◌||◌}
use Rattle.std.specs.Option.{option_and_then, option_map_or}
use Rattle.std.proofs.lemmas.Bool.Decides.{nat_tests}
use Rattle.std.proofs.lemmas.Option.{slice_get_cases}
use Rattle.dsr_schema.proofs.Descending.{ancestors_step, line, no_ancestors}
use Rattle.dsr_ir.specs.declared.declarations.Structure.{Structure}
use Rattle.dsr_ir.specs.declared.declarations.Structures.{Structures}
use Rattle.dsr_meaning.proofs.Items.{number_found}
use Rattle.dsr_meaning.specs.Counting.{IsIn}
use Rattle.dsr_meaning.specs.Lists.{any_of}
use Rattle.dsr_meaning.specs.Typed.{AreTyped, ancestors}

-- a parent stands before its structure, and goes on with the line
abbrev pub GoesOn : List Structure → ℕ → Option ℕ → Type 0
GoesOn structures i next = (ancestors structures i ≡ line structures next) × IfSome next (λ p. p < i)

pub parent_line : (base : Structures) (i : ℕ) (next : Option ℕ) → AreTyped base → next ≡ option_and_then (λ s. s.parent) (slice_get base.structures i) → GoesOn base.structures i next
parent_line base i next typed e =
    subst (GoesOn base.structures i) (sym e)
    (elim (slice_get_cases base.structures i).1 [
      | inl w ↦
          let before = (typed.structures i w.0 w.2).parent_before in
          subst (λ o. GoesOn base.structures i (option_and_then (λ s. s.parent) o)) (sym w.2)
          (ancestors_step base.structures i w.0 w.2 before, before)
      | inr w ↦
          subst (λ o. GoesOn base.structures i (option_and_then (λ s. s.parent) o)) (sym w.1)
          (no_ancestors base.structures i w.0, tt)
    ])

-- what is left of the line tells the same
pub line_goes_on : (structures : List Structure) (i other : ℕ) (next : Option ℕ) → (i ≡ other → ⊥) → GoesOn structures i next → any_of (nat_eq other) (line structures next) ≡ any_of (nat_eq other) (line structures (Some i))
line_goes_on structures i other next differ on =
    let apart : nat_eq other i ≡ false = grind (arith, nat_tests, differ) in
    sym (ap (λ b. b || any_of (nat_eq other) (ancestors structures i)) apart ∙ ap (any_of (nat_eq other)) on.0)

pub goes_down : (structures : List Structure) (i : ℕ) (next : Option ℕ) → GoesOn structures i next → option_map_or suc next 0 < suc i
goes_down structures i next on =
    elim next as (λ o. IfSome o (λ p. p < i) → option_map_or suc o 0 < suc i) [
      | None ↦ λ _. omega arith
      | Some p ↦ λ lt. omega (arith, lt)
    ] on.1

-- ---- whether a number is in a line

any_in : (a : ℕ) (xs : List ℕ) → any_of (nat_eq a) xs ≡ true → IsIn a xs
any_in a [] e = absurd cc
any_in a (x ∷ xs) e =
    elim (nat_eq a x) as (λ b. nat_eq a x ≡ b → (b || any_of (nat_eq a) xs) ≡ true → (a ≡ x) ⊎ IsIn a xs) [
      | true ↦ λ same e. inl (grind (arith, nat_tests))
      | false ↦ λ other e. inr (any_in a xs e)
    ] refl e

pub in_line : (a : ℕ) (xs : List ℕ) (b : Bool) → b ≡ any_of (nat_eq a) xs → Decides b (IsIn a xs)
in_line a xs b is = (λ t. any_in a xs (sym is ∙ t), λ there. is ∙ number_found a xs there)
