-- How far a search for the violated binding that is to be repaired next has come.
use Rattle.std.specs.Prelude.{◌≡◌, ◌⊎◌, ℕ, List, IfSome}
use Rattle.dsr_repair.specs.Orders.{IsRepairOrder, PrecedesInPlan}
use Rattle.dsr_repair.specs.Violations.{bound_of}
use Rattle.dsr_repair.specs.declared.cursors.Cursor.{Cursor}
use Rattle.dsr_ir.specs.declared.declarations.Spec.{Spec}
use Rattle.dsr_ir.specs.declared.layouts.Layout.{Layout}
use Rattle.dsr_ir.specs.declared.tuples.Fact.{Fact}
use Rattle.dsr_meaning.specs.Consistency.{BoundConstraint, IsViolated}
use Rattle.dsr_meaning.specs.Models.{IsFact}
use Rattle.dsr_meaning.specs.Orders.{BindingPrecedes}
use Rattle.dsr_plan_theory.specs.declared.choices.Choice.{Choice}

-- of two bindings of constraints the one is repaired first whose constraint is, and of one
-- constraint the lesser one
abbrev pub IsRepairedBefore : Choice → BoundConstraint → BoundConstraint → Type 0
IsRepairedBefore choice w v =
    PrecedesInPlan choice w.constraint v.constraint
    ⊎ ((w.constraint ≡ v.constraint) × BindingPrecedes w.binding v.binding)

-- nothing is violated that would be repaired before it
abbrev pub AreSatisfiedBefore : (Fact → Type 0) → Spec → Choice → BoundConstraint → Type 0
AreSatisfiedBefore is_fact spec choice v =
    (w : BoundConstraint) → IsRepairedBefore choice w v → IsViolated is_fact spec w → ⊥

-- the cursor has the order of the plan, and nothing is violated before the place at which it stands
pub record IsCursor (is_fact : Fact → Type 0) (spec : Spec) (choice : Choice) (cursor : Cursor) : Type 0 where
  pub ordered : IsRepairOrder choice cursor.order.items
  pub before : IfSome cursor.last (λ last. AreSatisfiedBefore is_fact spec choice (bound_of last))

-- so it is by what the chains of an image give
abbrev pub IsCursorOn : Spec → Choice → Layout → List ℕ → Cursor → Type 0
IsCursorOn spec choice layout bytes cursor = IsCursor (IsFact spec layout bytes) spec choice cursor
