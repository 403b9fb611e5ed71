-- A write that makes a guard false leaves a number of which the guard's test doesn't hold.
use Rattle.std.proofs.Common.{◌≡◌, ◌+◌, ◌-◌, ◌∙◌, ℕ, nat_eq, true, false, IsSomeAnd, Option, None, Some, refl, sym, ap, subst, arith}
use Rattle.std.specs.Prelude.{◌^◌, nat_lt, option_map, if◌then◌else◌}
use Rattle.std.specs.Option.{option_and_then}
use Rattle.std.proofs.lemmas.Bool.Decides.{nat_tests}
use Rattle.std.proofs.lemmas.Option.{same_Some}
use Rattle.dsr_ir.specs.Layouts.{pool_numbers}
use Rattle.dsr_ir.specs.declared.declarations.Field.{Field}
use Rattle.dsr_ir.specs.declared.declarations.FieldRef.{FieldRef}
use Rattle.dsr_ir.specs.declared.declarations.Spec.{Spec}
use Rattle.dsr_ir.specs.declared.layouts.Layout.{Layout}
use Rattle.dsr_ir.specs.declared.rules.Op.{Op}
use Rattle.dsr_ir.specs.declared.rules.Op.TheVariants.{Eq, Ne, Lt, Le, Gt, Ge}
use Rattle.dsr_ir.specs.declared.rules.Test.{Test}
use Rattle.dsr_ir.specs.declared.rules.Test.TheVariants as tests
use Rattle.dsr_ir.specs.declared.updates.Pick.{Pick}
use Rattle.dsr_ir.specs.declared.updates.Pick.TheVariants.{Num, NoneCode}
use Rattle.dsr_layout.proofs.Meanings.{legal_pool}
use Rattle.dsr_meaning.specs.Cells.{width_bits}
use Rattle.dsr_meaning.specs.Instances.{Compares, Meets, referred_pool}
use Rattle.dsr_meaning.specs.Legal.{IsLegalLayout}
use Rattle.dsr_meaning.specs.References.{IsLegal}
use Rattle.dsr_step_theory.specs.Steps.{none_of, picked_number}
use Rattle.dsr_step_theory.specs.declared.steps.Step.{Step}
use Rattle.dsr_update_theory.specs.Guards.{fitting, least_other, number_false, pick_false}

-- the least other number is another one
pub other_than : (k : ℕ) → least_other k ≡ k → ⊥
other_than k e =
    elim (nat_eq k 0) as (λ b. nat_eq k 0 ≡ b → (if b then 1 else 0) ≡ k → ⊥) [
      | true ↦ λ is one. grind (arith, nat_tests, is, one)
      | false ↦ λ other none. grind (arith, nat_tests, other, none)
    ] refl e

-- the number by which a comparison becomes false doesn't meet it
pub comparison_fails : (op : Op) (k n : ℕ) → number_false op k ≡ Some n → Compares op n k → ⊥
comparison_fails Eq k n e holds = other_than k (same_Some _ _ e ∙ holds)
comparison_fails Ne k n e differs = differs (sym (same_Some _ _ e))
comparison_fails Lt k n e less = let same : k ≡ n = same_Some _ _ e in omega (arith, same, less)
comparison_fails Le k n e less = let same : k + 1 ≡ n = same_Some _ _ e in omega (arith, same, less)
comparison_fails Gt k n e less = let same : k ≡ n = same_Some _ _ e in omega (arith, same, less)
comparison_fails Ge k n e less =
    elim (nat_eq k 0) as (λ b. nat_eq k 0 ≡ b → (if b then None else Some (k - 1)) ≡ Some n → ⊥) [
      | true ↦ λ is q. absurd cc
      | false ↦ λ other q. let same : k - 1 ≡ n = same_Some (k - 1) n q in grind (arith, nat_tests, other, same, less)
    ] refl e

-- a number that fits is the number
fitting_same : (f : Field) (m n : ℕ) → fitting f m ≡ Some n → m ≡ n
fitting_same f m n e =
    elim (nat_lt m (2 ^ width_bits f.width)) as (λ b. (if b then Some m else None) ≡ Some n → m ≡ n) [
      | true ↦ λ q. same_Some m n q
      | false ↦ λ q. absurd cc
    ] e

pub none_same : (o : Option ℕ) (f : Field) (n : ℕ) → option_and_then (fitting f) o ≡ Some n → o ≡ Some n
none_same None f n e = absurd cc
none_same (Some m) f n e = ap Some (fitting_same f m n e)

pub picked_same : (o : Option ℕ) (pick : Pick) → option_map Num o ≡ Some pick → (n : ℕ) × (o ≡ Some n) × (pick ≡ Num n)
picked_same None pick e = absurd cc
picked_same (Some n) pick e = (n, refl, sym (same_Some (Num n) pick e))

module _ (spec : Spec) (layout : Layout) (legal : IsLegalLayout layout) (step : Step) (field : FieldRef) (f : Field) where
  -- none of the pool is no code of it
  pub none_is_none : (pool : ℕ) (number : ℕ) → IsSomeAnd (pool_numbers layout pool) (λ n. number ≡ n.none) → IsLegal layout pool number → ⊥
  none_is_none pool number none (slot, code) =
      let n = code.numbers in
      let is_none : number ≡ n.none = subst (λ o. IsSomeAnd o (λ m. number ≡ m.none)) code.declared none in
      (legal_pool layout pool n legal code.declared).none_apart slot code.below (sym is_none ∙ code.code)

  pub none_number : (number : ℕ) → none_of spec layout field ≡ Some number → IsSomeAnd (referred_pool spec field) (λ pool. IsSomeAnd (pool_numbers layout pool) (λ n. number ≡ n.none))
  none_number number e =
      elim (referred_pool spec field) as (λ o. option_and_then (λ pool. option_map (λ n. n.none) (pool_numbers layout pool)) o ≡ Some number → IsSomeAnd o (λ pool. IsSomeAnd (pool_numbers layout pool) (λ n. number ≡ n.none))) [
        | None ↦ λ q. absurd cc
        | Some pool ↦ λ q. elim (pool_numbers layout pool) as (λ o. option_map (λ n. n.none) o ≡ Some number → IsSomeAnd o (λ n. number ≡ n.none)) [
          | None ↦ λ r. absurd cc
          | Some n ↦ λ r. sym (same_Some n.none number r)
        ] q
      ] e

  -- none meets no test that it is written for
  none_fails : (test : Test) (number : ℕ) → pick_false f test ≡ Some NoneCode → none_of spec layout field ≡ Some number → Meets layout (referred_pool spec field) test number → ⊥
  none_fails test number e at meets = fails (referred_pool spec field) test e (none_number number at) meets where
    fails : (pool : Option ℕ) (t : Test) → pick_false f t ≡ Some NoneCode → IsSomeAnd pool (λ p. IsSomeAnd (pool_numbers layout p) (λ n. number ≡ n.none)) → Meets layout pool t number → ⊥
    fails None t q none m = none
    fails (Some p) (tests.Cmp op k) q none m = (let w = picked_same (option_and_then (fitting f) (number_false op k)) NoneCode q in let bad = w.2 in absurd cc)
    fails (Some p) tests.Legal q none m = none_is_none p number none m
    fails (Some p) tests.Illegal q none m = m.not_none none
    fails (Some p) tests.IsNone q none m = absurd cc
    fails (Some p) tests.IsSome q none m = m none

  -- what is picked to make a test false doesn't meet it
  pub picked_fails : (test : Test) (pick : Pick) (number : ℕ) → pick_false f test ≡ Some pick → picked_number spec layout step field pick ≡ Some number → Meets layout (referred_pool spec field) test number → ⊥
  picked_fails (tests.Cmp op k) pick number e at meets =
      let w = picked_same (option_and_then (fitting f) (number_false op k)) pick e in
      let is_number : Some w.0 ≡ Some number = ap (picked_number spec layout step field) (sym w.2) ∙ at in
      comparison_fails op k number (none_same (number_false op k) f w.0 w.1 ∙ is_number) meets
  picked_fails tests.Legal pick number e at meets = none_fails tests.Legal number refl (ap (picked_number spec layout step field) (same_Some NoneCode pick e) ∙ at) meets
  picked_fails tests.Illegal pick number e at meets = none_fails tests.Illegal number refl (ap (picked_number spec layout step field) (same_Some NoneCode pick e) ∙ at) meets
  picked_fails tests.IsNone pick number e at meets = absurd cc
  picked_fails tests.IsSome pick number e at meets = none_fails tests.IsSome number refl (ap (picked_number spec layout step field) (same_Some NoneCode pick e) ∙ at) meets
