-- A write that makes a guard true leaves a number of which the guard's test holds.
use Rattle.std.proofs.Common.{◌≡◌, ◌<◌, ◌+◌, ◌-◌, ◌∙◌, ℕ, nat_eq, true, false, None, Some, refl, sym, ap, arith}
use Rattle.std.specs.Prelude.{if◌then◌else◌}
use Rattle.std.specs.Option.{option_and_then}
use Rattle.std.proofs.lemmas.Bool.Decides.{nat_tests}
use Rattle.std.proofs.lemmas.Option.{same_Some}
use Rattle.dsr_ir.specs.declared.declarations.Field.{Field}
use Rattle.dsr_ir.specs.declared.declarations.FieldRef.{FieldRef}
use Rattle.dsr_ir.specs.declared.declarations.Spec.{Spec}
use Rattle.dsr_ir.specs.declared.layouts.Layout.{Layout}
use Rattle.dsr_ir.specs.declared.rules.Op.{Op}
use Rattle.dsr_ir.specs.declared.rules.Op.TheVariants.{Eq, Ne, Lt, Le, Gt, Ge}
use Rattle.dsr_ir.specs.declared.rules.Test.{Test}
use Rattle.dsr_ir.specs.declared.rules.Test.TheVariants as tests
use Rattle.dsr_ir.specs.declared.updates.Pick.{Pick}
use Rattle.dsr_ir.specs.declared.updates.Pick.TheVariants.{NoneCode}
use Rattle.dsr_meaning.specs.Instances.{Compares, Meets, referred_pool}
use Rattle.dsr_meaning.specs.Legal.{IsLegalLayout}
use Rattle.dsr_step_theory.specs.Steps.{picked_number}
use Rattle.dsr_step_theory.specs.declared.steps.Step.{Step}
use Rattle.dsr_step_laws.proofs.Removed.{none_number, none_same, other_than, picked_same}
use Rattle.dsr_update_theory.specs.Guards.{fitting, number_true, pick_true}

-- the number by which a comparison becomes true meets it
comparison_holds : (op : Op) (k n : ℕ) → number_true op k ≡ Some n → Compares op n k
comparison_holds Eq k n e = sym (same_Some k n e)
comparison_holds Ne k n e = λ same. other_than k (same_Some _ _ e ∙ same)
comparison_holds Lt k n e =
    elim (nat_eq k 0) as (λ b. nat_eq k 0 ≡ b → (if b then None else Some (k - 1)) ≡ Some n → n < k) [
      | true ↦ λ is q. absurd cc
      | false ↦ λ other q. let same : k - 1 ≡ n = same_Some (k - 1) n q in grind (arith, nat_tests, other, same)
    ] refl e
comparison_holds Le k n e = let same : k ≡ n = same_Some k n e in omega (arith, same)
comparison_holds Gt k n e = let same : k + 1 ≡ n = same_Some (k + 1) n e in omega (arith, same)
comparison_holds Ge k n e = let same : k ≡ n = same_Some k n e in omega (arith, same)

module _ (spec : Spec) (layout : Layout) (legal : IsLegalLayout layout) (step : Step) (field : FieldRef) (f : Field) where
  -- what is picked to make a test true meets it
  pub picked_meets : (test : Test) (pick : Pick) (number : ℕ) → pick_true f test ≡ Some pick → picked_number spec layout step field pick ≡ Some number → Meets layout (referred_pool spec field) test number
  picked_meets (tests.Cmp op k) pick number e at =
      let w = picked_same (option_and_then (fitting f) (number_true op k)) pick e in
      let is_number : Some w.0 ≡ Some number = ap (picked_number spec layout step field) (sym w.2) ∙ at in
      comparison_holds op k number (none_same (number_true op k) f w.0 w.1 ∙ is_number)
  picked_meets tests.Legal pick number e at = absurd cc
  picked_meets tests.Illegal pick number e at = absurd cc
  picked_meets tests.IsNone pick number e at = none_number spec layout legal step field f number (ap (picked_number spec layout step field) (same_Some NoneCode pick e) ∙ at)
  picked_meets tests.IsSome pick number e at = absurd cc
