-- The violated binding that is to be repaired next, found by going over the constraints.
use Rattle.std.specs.Prelude.{◌≡◌, ◌<◌, ◌≤◌, ℕ, Option, Some, MatchOption, slice_get}
use Rattle.dsr_repair.specs.declared.bindings.Lowest.{Lowest}
use Rattle.dsr_repair.specs.declared.bindings.Violation.{Violation}
use Rattle.dsr_ir.specs.declared.constraints.Constraint.{Constraint}
use Rattle.dsr_ir.specs.declared.declarations.Spec.{Spec}
use Rattle.dsr_ir.specs.declared.tuples.Binding.{Binding}
use Rattle.dsr_ir.specs.declared.tuples.Fact.{Fact}
use Rattle.dsr_meaning.specs.Consistency.{BoundConstraint, IsViolated}
use Rattle.dsr_meaning.specs.Orders.{BindingPrecedes}
use Rattle.dsr_plan_theory.specs.declared.choices.Choice.{Choice}
use Rattle.dsr_plan_theory.specs.declared.choices.Row.{Row}
use Rattle.dsr_repair_theory.specs.Due.{IsDueBinding}

-- the constraint with its binding
abbrev pub bound_of : Violation → BoundConstraint
bound_of found = record { constraint = found.constraint; binding = found.binding }

-- of the violated bindings of the first constraints, so many of them, the one that is to be
-- repaired first
pub record IsBest (is_fact : Fact → Type 0) (spec : Spec) (choice : Choice) (count : ℕ) (found : Lowest) : Type 0 where
  pub row : Row
  pub row_is : slice_get choice.rows found.violation.constraint ≡ Some row
  pub level_is : row.level ≡ found.level
  pub below : found.violation.constraint < count
  pub violated : IsViolated is_fact spec (bound_of found.violation)
  pub lowest :
      (w : BoundConstraint) (other : Row) → w.constraint < count → IsViolated is_fact spec w
      → slice_get choice.rows w.constraint ≡ Some other → found.level ≤ other.level
  pub first :
      (w : BoundConstraint) (other : Row) → w.constraint < count → IsViolated is_fact spec w
      → slice_get choice.rows w.constraint ≡ Some other → other.level ≡ found.level
      → found.violation.constraint ≤ w.constraint
  pub least :
      (b : Binding) → IsViolated is_fact spec (record { constraint = found.violation.constraint; binding = b })
      → BindingPrecedes b found.violation.binding → ⊥

-- none of the first constraints has a violated binding
abbrev pub NoneBefore : (Fact → Type 0) → Spec → ℕ → Type 0
NoneBefore is_fact spec count = (w : BoundConstraint) → w.constraint < count → IsViolated is_fact spec w → ⊥

abbrev pub IsBestBefore : (Fact → Type 0) → Spec → Choice → ℕ → Option Lowest → Type 0
IsBestBefore is_fact spec choice count best =
    MatchOption best (NoneBefore is_fact spec count) (IsBest is_fact spec choice count)

-- the violated binding that is due, with its constraint's level
pub record IsNextViolation (is_fact : Fact → Type 0) (spec : Spec) (choice : Choice) (found : Violation) : Type 0 where
  pub constraint : Constraint
  pub row : Row
  pub is : IsDueBinding is_fact spec choice (bound_of found) constraint row
