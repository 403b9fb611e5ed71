-- The plan that is taken: each constraint on the highest level that it may have.
use Rattle.std.specs.Prelude.{◌≡◌, ◌≤◌, ◌<◌, ℕ, Some, slice_get}
use Rattle.dsr_ir.specs.declared.constraints.Constraint.{Constraint}
use Rattle.dsr_ir.specs.declared.constraints.Literal.{Literal}
use Rattle.dsr_ir.specs.declared.declarations.Spec.{Spec}
use Rattle.dsr_ir.specs.declared.updates.Template.{Template}
use Rattle.dsr_graph_theory.specs.Owners.{Owner}
use Rattle.dsr_update_theory.specs.Templates.{literal_at}
use Rattle.dsr_plan_theory.specs.Plans.{IsPlan, IsRowOf, MayRepair, owner_at, way_at}
use Rattle.dsr_plan_theory.specs.Stuck.{IsHeld, MustTest, SparesMembers}
use Rattle.dsr_plan_theory.specs.declared.choices.Choice.{Choice}
use Rattle.dsr_plan_theory.specs.declared.choices.Row.{Row}
use Rattle.dsr_plan_theory.specs.declared.choices.Way.{Way}
use Rattle.dsr_plan_theory.specs.declared.choices.Way.TheVariants.{Test, By}

-- the constraint stands on this level or on a lower one
pub record IsUpTo (choice : Choice) (level n : ℕ) : Type 0 where
  pub row : Row
  pub row_is : slice_get choice.rows n ≡ Some row
  pub low : row.level ≤ level

-- the first listed template that falsifies nothing and breaks no member
pub record IsFirstFor (owner : Owner) (Member : ℕ → Type 0) (conj literal : ℕ) (its : Literal) (number : ℕ) (template : Template) : Type 0 where
  pub may : MayRepair owner conj literal its number template
  pub spares : SparesMembers owner Member template
  pub none_before :
      (before : ℕ) (other : Template) → before < number
      → MayRepair owner conj literal its before other → SparesMembers owner Member other → ⊥

-- that one, and a test where there is none
abbrev pub IsTakenWay : Owner → (ℕ → Type 0) → ℕ → ℕ → Literal → Way → Type 0
IsTakenWay owner Member conj literal its Test = MustTest owner Member conj literal
IsTakenWay owner Member conj literal its (By number template) =
    IsFirstFor owner Member conj literal its number template

-- some constraint stands on the level
pub record HasLevel (choice : Choice) (level : ℕ) : Type 0 where
  pub number : ℕ
  pub row : Row
  pub row_is : slice_get choice.rows number ≡ Some row
  pub level_is : row.level ≡ level

-- no constraint may have a higher level that others have, its ways are first by those on its level
-- and below, and no level is empty below one that isn't
pub record IsTaken (spec : Spec) (choice : Choice) : Type 0 where
  pub plan : IsPlan spec choice
  pub ways :
      (n : ℕ) (constraint : Constraint) (row : Row) (conj literal : ℕ) (its : Literal) (way : Way)
      → IsRowOf spec choice n constraint row → literal_at constraint conj literal ≡ Some its
      → way_at row conj literal ≡ Some way
      → IsTakenWay (owner_at spec n constraint) (IsUpTo choice row.level) conj literal its way
  pub highest :
      (n : ℕ) (constraint : Constraint) (row : Row) (level : ℕ) → IsRowOf spec choice n constraint row
      → row.level < level → HasLevel choice level → IsHeld spec (IsUpTo choice level) n constraint
  pub filled :
      (n : ℕ) (row : Row) (level : ℕ) → slice_get choice.rows n ≡ Some row → level ≤ row.level
      → HasLevel choice level
