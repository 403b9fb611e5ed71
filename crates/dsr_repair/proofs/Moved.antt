-- What a step leaves of what comes before the binding for which it is made.
use Rattle.std.proofs.Common.{◌≡◌, ◌<◌, ◌≤◌, ◌∙◌, ℕ, nat_eq, true, false, if◌then◌else◌, List, length, Option, None, Some, IfSome, slice_get, inl, inr, sym, ap, subst, arith}
use Rattle.std.proofs.lemmas.Option.{same_Some}
use Rattle.dsr_repair.specs.Cursors.{AreSatisfiedBefore, IsCursorOn}
use Rattle.dsr_repair.specs.Orders.{IsRepairOrder}
use Rattle.dsr_repair.specs.Violations.{bound_of}
use Rattle.dsr_repair.specs.declared.bindings.Violation.{Violation}
use Rattle.dsr_repair.specs.declared.cursors.Cursor.{Cursor}
use Rattle.dsr_ir.specs.declared.constraints.Constraint.{Constraint}
use Rattle.dsr_ir.specs.declared.declarations.Spec.{Spec}
use Rattle.dsr_ir.specs.declared.layouts.Layout.{Layout}
use Rattle.dsr_ir.specs.declared.tuples.Fact.{Fact}
use Rattle.dsr_meaning.specs.Consistency.{BoundConstraint, IsViolated}
use Rattle.dsr_meaning.specs.Models.{IsFact}
use Rattle.dsr_meaning.specs.Typed.{IsTyped, constraint_limit}
use Rattle.dsr_plan_theory.specs.Plans.{IsPlan}
use Rattle.dsr_plan_theory.specs.declared.choices.Choice.{Choice}
use Rattle.dsr_plan_theory.specs.declared.choices.Row.{Row}
use Rattle.dsr_repair.specs.Stepping.{IsNearer, violation_of}
use Rattle.dsr_repair_theory.specs.Due.{IsDueBinding}
use Rattle.dsr_repair_theory.specs.Turns.{IsDueStep, bound_by}
use Rattle.dsr_ir.specs.declared.updates.Update.{Update}
use Rattle.dsr_step_theory.specs.declared.steps.Step.{Step}

-- `P` says what was a fact, `Q` what is one; what is newly violated stands higher than what was due
module _ (P Q : Fact → Type 0) (spec : Spec) (choice : Choice) (v : BoundConstraint) (constraint : Constraint) (row : Row)
    (due : IsDueBinding P spec choice v constraint row)
    (above : (w : BoundConstraint) (r other : Row) → IsViolated Q spec w → (IsViolated P spec w → ⊥)
    → slice_get choice.rows v.constraint ≡ Some r → slice_get choice.rows w.constraint ≡ Some other → r.level < other.level) where
  -- so nothing is violated that would be repaired before
  pub satisfied_before : AreSatisfiedBefore Q spec choice v
  satisfied_before w (inl stands) violated =
      let same : stands.other.level ≡ row.level = ap (λ (r : Row). r.level) (same_Some stands.other row (sym stands.other_is ∙ due.row_of.row_is)) in
      let was_not : IsViolated P spec w → ⊥ = λ was. elim stands.before [
        | inl less ↦ let lowest = due.lowest w stands.row was stands.row_is in omega (arith, less, lowest, same)
        | inr both ↦
            let first = due.first w stands.row was stands.row_is (both.0 ∙ same) in
            let less = both.1 in
            omega (arith, first, less)
      ] in
      let higher = above w row stands.row violated was_not due.row_of.row_is stands.row_is in
      elim stands.before [
        | inl less ↦ omega (arith, less, higher, same)
        | inr both ↦ let level = both.0 in omega (arith, level, higher, same)
      ]
  satisfied_before w (inr both) violated =
      let was_not : IsViolated P spec w → ⊥ = λ was. due.least w.binding
      (subst (λ n. IsViolated P spec (record { constraint = n; binding = w.binding })) both.0 was) both.1 in
      let row_is : slice_get choice.rows w.constraint ≡ Some row = ap (slice_get choice.rows) both.0 ∙ due.row_of.row_is in
      let higher = above w row row violated was_not due.row_of.row_is row_is in
      omega (arith, higher)

module _ (spec : Spec) (choice : Choice) (layout : Layout) (old new : List ℕ) (cursor : Cursor) (is : IsCursorOn spec choice layout old cursor) where
  -- where no byte changes, the cursor may stay
  pub cursor_stays : new ≡ old → IsCursorOn spec choice layout new cursor
  cursor_stays same = subst (λ bytes. IsCursorOn spec choice layout bytes cursor) (sym same) is

  -- after a step it stands at the binding for which that was made
  pub cursor_moves :
      (step : Step) (update : Update) → IsDueStep spec choice layout old step update
      → IsNearer spec choice layout old new step.constraint
      → IsCursorOn spec choice layout new (record cursor { last = Some (violation_of step) })
  cursor_moves step update due nearer = record {
    ordered = is.ordered;
    before = satisfied_before (IsFact spec layout old) (IsFact spec layout new) spec choice (bound_by step)
        due.due.constraint due.due.row due.due.binding_is nearer.above;
  }

-- ---- at the start

limit_small : (version : ℕ) → constraint_limit version ≤ 128
limit_small version = elim (nat_eq version 2) as (λ b. (if b then 128 else 64) ≤ 128) [ true ↦ omega arith | false ↦ omega arith ]

pub few_rows : (spec : Spec) (choice : Choice) → IsTyped spec → IsPlan spec choice → length choice.rows ≤ 128
few_rows spec choice typed plan =
    let few = typed.few_constraints in
    let small = limit_small spec.base.version in
    let many = plan.as_many in
    omega (arith, few, small, many)

pub cursor_begins :
    (spec : Spec) (choice : Choice) (layout : Layout) (bytes : List ℕ) (cursor : Cursor)
    → IsRepairOrder choice cursor.order.items → cursor.last ≡ None → IsCursorOn spec choice layout bytes cursor
cursor_begins spec choice layout bytes cursor ordered begins = record {
  ordered = ordered;
  before = subst (λ (last : Option Violation). IfSome last (λ l. AreSatisfiedBefore (IsFact spec layout bytes) spec choice (bound_of l)))
      (sym begins) tt;
}
