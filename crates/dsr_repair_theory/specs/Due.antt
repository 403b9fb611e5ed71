-- Which literal of which constraint is to become true next, and by which template.
use Rattle.std.specs.Prelude.{◌≡◌, ◌<◌, ◌≤◌, ℕ, Some, slice_get, length}
use Rattle.dsr_ir.specs.declared.constraints.Constraint.{Constraint}
use Rattle.dsr_ir.specs.declared.constraints.Literal.{Literal}
use Rattle.dsr_ir.specs.declared.declarations.Spec.{Spec}
use Rattle.dsr_ir.specs.declared.tuples.Binding.{Binding}
use Rattle.dsr_ir.specs.declared.tuples.Fact.{Fact}
use Rattle.dsr_ir.specs.declared.updates.Template.{Template}
use Rattle.dsr_meaning.specs.Consistency.{BoundConstraint, IsViolated}
use Rattle.dsr_meaning.specs.Orders.{BindingPrecedes}
use Rattle.dsr_meaning.specs.Truth.{LiteralHolds}
use Rattle.dsr_plan_theory.specs.Plans.{HasTemplate, IsRowOf, IsTested}
use Rattle.dsr_plan_theory.specs.declared.choices.Choice.{Choice}
use Rattle.dsr_plan_theory.specs.declared.choices.Row.{Row}
use Rattle.dsr_update_theory.specs.Templates.{literal_at}

-- In what follows, `is_fact` says what a fact is.

-- Of the violated bindings the one of the constraint that stands on the lowest level, of those on
-- one level of the one that is declared first, and of its own the least.
pub record IsDueBinding (is_fact : Fact → Type 0) (spec : Spec) (choice : Choice)
    (v : BoundConstraint) (constraint : Constraint) (row : Row) : Type 0 where
  pub row_of : IsRowOf spec choice v.constraint constraint row
  pub violated : IsViolated is_fact spec v
  pub lowest :
      (w : BoundConstraint) (other : Row) → IsViolated is_fact spec w
      → slice_get choice.rows w.constraint ≡ Some other → row.level ≤ other.level
  pub first :
      (w : BoundConstraint) (other : Row) → IsViolated is_fact spec w
      → slice_get choice.rows w.constraint ≡ Some other → other.level ≡ row.level
      → v.constraint ≤ w.constraint
  pub least :
      (b : Binding) → IsViolated is_fact spec (record { constraint = v.constraint; binding = b })
      → BindingPrecedes b v.binding → ⊥

-- the literals of a conjunction that are tested are true
abbrev pub TestsHold : (Fact → Type 0) → Binding → Constraint → Row → ℕ → Type 0
TestsHold is_fact b constraint row conj =
    (literal : ℕ) (its : Literal) → literal_at constraint conj literal ≡ Some its
    → IsTested row conj literal → LiteralHolds is_fact b its

-- the first conjunction of which that is so
pub record IsDueConj (is_fact : Fact → Type 0) (b : Binding) (constraint : Constraint) (row : Row)
    (conj : ℕ) : Type 0 where
  pub there : conj < length constraint.conjs
  pub tests : TestsHold is_fact b constraint row conj
  pub none_before : (earlier : ℕ) → earlier < conj → TestsHold is_fact b constraint row earlier → ⊥

-- the literal is false, and the row has this template for it
pub record IsToRepair (is_fact : Fact → Type 0) (b : Binding) (constraint : Constraint) (row : Row)
    (conj literal : ℕ) (its : Literal) (template : Template) : Type 0 where
  pub literal_is : literal_at constraint conj literal ≡ Some its
  pub template_is : HasTemplate row conj literal template
  pub is_false : LiteralHolds is_fact b its → ⊥

-- the first literal of the conjunction of which that is so
pub record IsDueLiteral (is_fact : Fact → Type 0) (b : Binding) (constraint : Constraint)
    (row : Row) (conj literal : ℕ) (its : Literal) (template : Template) : Type 0 where
  pub repaired : IsToRepair is_fact b constraint row conj literal its template
  pub none_before :
      (earlier : ℕ) (other : Literal) (by : Template) → earlier < literal
      → IsToRepair is_fact b constraint row conj earlier other by → ⊥

-- at this binding of this constraint the literal of the conjunction is to become true next, by this
-- template
pub record IsDue (is_fact : Fact → Type 0) (spec : Spec) (choice : Choice) (v : BoundConstraint)
    (conj literal : ℕ) (its : Literal) (template : Template) : Type 0 where
  pub constraint : Constraint
  pub row : Row
  pub binding_is : IsDueBinding is_fact spec choice v constraint row
  pub conj_is : IsDueConj is_fact v.binding constraint row conj
  pub literal_is : IsDueLiteral is_fact v.binding constraint row conj literal its template
