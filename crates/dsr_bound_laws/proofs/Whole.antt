-- What remains on an image: it is bounded, and falls.
use Rattle.std.proofs.Common.{◌≡◌, ◌≤◌, ◌<◌, ℕ, List, length, Some, slice_get, inl, inr, sym, ap, subst, ◌∙◌, arith}
use Rattle.std.proofs.lemmas.Bool.{cases_lt}
use Rattle.std.proofs.lemmas.Option.{same_Some}
use Rattle.dsr_ir.specs.declared.declarations.Spec.{Spec}
use Rattle.dsr_ir.specs.declared.layouts.Layout.{Layout}
use Rattle.dsr_layout.proofs.LegalLayout.{built}
use Rattle.dsr_meaning.specs.Consistency.{BoundConstraint, IsViolated}
use Rattle.dsr_meaning.specs.FixedFields.{fixed_value}
use Rattle.dsr_meaning.specs.Models.{IsFact}
use Rattle.dsr_plan_theory.specs.Plans.{IsPlan}
use Rattle.dsr_plan_theory.specs.declared.choices.Choice.{Choice}
use Rattle.dsr_plan_theory.specs.declared.choices.Row.{Row}
use Rattle.dsr_step_theory.specs.Images.{IsImageOf}
use Rattle.dsr_repair_theory.specs.Runs.{IsDueEntry}
use Rattle.dsr_repair_theory.specs.Turns.{bound_by}
use Rattle.dsr_repair_theory.specs.declared.entries.Entry.{Entry}
use Rattle.dsr_bound_laws.specs.Bounds.{bound, instances_and_one}
use Rattle.dsr_bound_laws.specs.Remaining.{IsLeft, IsRemaining}
use Rattle.dsr_bound_laws.specs.Remaining.IsRemaining.{left, nothing}
use Rattle.dsr_bound_laws.proofs.Bindings.{few_all, few_stops}
use Rattle.dsr_bound_laws.proofs.Falls.{left_falls}
use Rattle.dsr_bound_laws.proofs.Helped.{helped, spared}
use Rattle.dsr_bound_laws.proofs.Left.{FewAll, FewStops, left_bounded}
use Rattle.dsr_bound_laws.proofs.Levels.{within_all}
use Rattle.dsr_bound_laws.proofs.Same.{same_left}

-- images with one layout are as long
as_long : (spec : Spec) (layout : Layout) (old new : List ℕ) → IsImageOf spec layout old → IsImageOf spec layout new → length new ≡ length old
as_long spec layout old new a b =
    let one = (built (fixed_value spec.base old) spec.base (length old) layout a.layout_is.numbers).bytes_are in
    let two = (built (fixed_value spec.base new) spec.base (length new) layout b.layout_is.numbers).bytes_are in
    two ∙ sym one

pub remaining_bounded :
    (spec : Spec) (choice : Choice) (layout : Layout) (bytes : List ℕ) (n : ℕ) → IsImageOf spec layout bytes
    → IsRemaining spec choice layout bytes n → n ≤ bound spec (length bytes)
remaining_bounded spec choice layout bytes _ image (nothing consistent) = omega arith
remaining_bounded spec choice layout bytes _ image (left v c r conj literal its template n is) =
    let m = instances_and_one spec (length bytes) in
    let most = left_bounded spec choice layout bytes m v c r conj literal its template n is (few_stops spec layout bytes image choice) (few_all spec layout bytes image choice) in
    let all = within_all m r.level choice.rows spec.constraints in
    omega (arith, most, all)

module _ (spec : Spec) (choice : Choice) (layout : Layout) (old new : List ℕ) (entry : Entry)
    (plan : IsPlan spec choice) (image : IsImageOf spec layout old)
    (step_is : IsDueEntry spec choice layout old entry new) where
  pub remaining_falls : (n k : ℕ) → IsImageOf spec layout new → IsRemaining spec choice layout old n → IsRemaining spec choice layout new k → k < n
  remaining_falls _ k after (nothing consistent) now = absurd (consistent (bound_by step_is.step) step_is.due.due.binding_is.violated)
  remaining_falls _ _ after (left v c r conj literal its template n was) (nothing consistent) = let number = was.number in omega (arith, number)
  remaining_falls _ _ after (left v c r conj literal its template n was) (left w d s conj' literal' its' template' k now) =
      let m = instances_and_one spec (length old) in
      let long : instances_and_one spec (length new) ≡ m = ap (instances_and_one spec) (as_long spec layout old new image after) in
      let due = step_is.due.due in
      let own = same_left spec choice layout old m (bound_by step_is.step) due.constraint due.row step_is.step.conj step_is.step.literal step_is.due.literal step_is.due.template
      due.binding_is due.conj_is due.literal_is v c r conj literal its template n was in
      left_falls spec choice layout old new m
      (subst (λ x. FewStops spec choice layout new x) long (few_stops spec layout new after choice))
      (subst (λ x. FewAll spec choice layout new x) long (few_all spec layout new after choice))
      (bound_by step_is.step) due.constraint due.row step_is.step.conj step_is.step.literal step_is.due.literal step_is.due.template n own
      (helped spec choice layout old new entry plan image step_is)
      w d s conj' literal' its' template' k
      (subst (λ x. IsLeft spec choice layout new x w d s conj' literal' its' template' k) long now)

  pub rises_above :
      (w : BoundConstraint) (row other : Row) → IsViolated (IsFact spec layout new) spec w
      → (IsViolated (IsFact spec layout old) spec w → ⊥) → slice_get choice.rows step_is.step.constraint ≡ Some row
      → slice_get choice.rows w.constraint ≡ Some other → row.level < other.level
  rises_above w row other now before row_is other_is = elim (cases_lt row.level other.level) as (λ _. row.level < other.level) [
    | inl less ↦ less
    | inr low ↦
        let same = same_Some row step_is.due.due.row (sym row_is ∙ step_is.due.due.binding_is.row_of.row_is) in
        absurd (before (spared spec choice layout old new entry plan image step_is w other other_is
        (subst (λ (r : Row). other.level ≤ r.level) same low) now))
  ]
