-- Plans: a level for each constraint, and for each of its literals a test or a listed template.
use Rattle.std.specs.Prelude.{◌≡◌, ◌≤◌, ◌<◌, ◌-◌, ℕ, Bool, false, not, List, Option, None, Some, IsTrue, if◌then◌else◌, length, option_and_then, slice_get}
use Rattle.dsr_graph_theory.specs.Breaks.{Breaks, Falsifies, Relies}
use Rattle.dsr_graph_theory.specs.declared.causes.Reason.{Reason}
use Rattle.dsr_ir.specs.declared.constraints.Atom.{Atom}
use Rattle.dsr_ir.specs.declared.constraints.Conj.{Conj}
use Rattle.dsr_ir.specs.declared.constraints.Constraint.{Constraint}
use Rattle.dsr_ir.specs.declared.constraints.Literal.{Literal}
use Rattle.dsr_ir.specs.declared.declarations.Spec.{Spec}
use Rattle.dsr_ir.specs.declared.updates.Template.{Template}
use Rattle.dsr_graph_theory.specs.Lists.{AreListedOf}
use Rattle.dsr_graph_theory.specs.Owners.{Owner}
use Rattle.dsr_update_theory.specs.Templates.{literal_at}
use Rattle.dsr_plan_theory.specs.declared.choices.Choice.{Choice}
use Rattle.dsr_plan_theory.specs.declared.choices.Row.{Row}
use Rattle.dsr_plan_theory.specs.declared.choices.Way.{Way}
use Rattle.dsr_plan_theory.specs.declared.choices.Way.TheVariants.{Test, By}

-- the constraint of the specification with this number
abbrev pub owner_at : Spec → ℕ → Constraint → Owner
owner_at spec number constraint = record { spec = spec; number = number; constraint = constraint }

-- ---- what must hold by tests alone

-- which atoms are true
abbrev pub Truth : Type 0
Truth = Atom → Bool

abbrev pub comes_out : Truth → Literal → Bool
comes_out truth literal = if literal.negated then not (truth literal.atom) else truth literal.atom

-- the tested literals of the conjunction come out true
abbrev pub PassesTests : (ℕ → Type 0) → Truth → Conj → Type 0
PassesTests Tested truth conj =
    (n : ℕ) (literal : Literal) → slice_get conj.literals n ≡ Some literal → Tested n
    → IsTrue (comes_out truth literal)

-- those of some conjunction do
pub record SomeConjPasses (constraint : Constraint) (Tested : ℕ → ℕ → Type 0) (truth : Truth) : Type 0 where
  pub number : ℕ
  pub conj : Conj
  pub conj_is : slice_get constraint.conjs number ≡ Some conj
  pub passes : PassesTests (Tested number) truth conj

-- Whatever is true, some conjunction's tests are passed. An assignment is a function, and which
-- literals are tested is a kind of literal, so that plans, stuck sets and certificates use this one
-- definition.
abbrev pub Covers : Constraint → (ℕ → ℕ → Type 0) → Type 0
Covers constraint Tested = (truth : Truth) → SomeConjPasses constraint Tested truth

-- ---- ways

-- the template has this number among those that are listed for the literal, counted from 1
pub record IsListedAt (owner : Owner) (conj literal number : ℕ) (template : Template) : Type 0 where
  pub templates : List Template
  pub listed : AreListedOf owner conj literal templates
  pub from_one : 1 ≤ number
  pub template_is : slice_get templates (number - 1) ≡ Some template

-- a literal that is repaired isn't `given`, and its template is listed and falsifies no other
-- literal of its conjunction
pub record MayRepair (owner : Owner) (conj literal : ℕ) (its : Literal) (number : ℕ) (template : Template) : Type 0 where
  pub free : its.given ≡ false
  pub listed : IsListedAt owner conj literal number template
  pub falsifies_none : Falsifies owner conj literal template None

abbrev pub IsWayFor : Owner → ℕ → ℕ → Literal → Way → Type 0
IsWayFor owner conj literal its Test = Unit {0}
IsWayFor owner conj literal its (By number template) = MayRepair owner conj literal its number template

abbrev pub way_at : Row → ℕ → ℕ → Option Way
way_at row conj literal = option_and_then (λ ways. slice_get ways literal) (slice_get row.ways conj)

-- there is a list for each conjunction, in which each literal has a way, and nothing else has one
pub record AreWaysFor (owner : Owner) (row : Row) : Type 0 where
  pub as_many : length row.ways ≡ length owner.constraint.conjs
  pub ways :
      (conj literal : ℕ) (its : Literal) → literal_at owner.constraint conj literal ≡ Some its
      → (way : Way) × (way_at row conj literal ≡ Some way) × IsWayFor owner conj literal its way
  pub no_more :
      (conj literal : ℕ) → literal_at owner.constraint conj literal ≡ None
      → way_at row conj literal ≡ None

-- the row tests the literal
abbrev pub IsTested : Row → ℕ → ℕ → Type 0
IsTested row conj literal = way_at row conj literal ≡ Some Test

-- the row has this template for the literal, whatever its number
pub record HasTemplate (row : Row) (conj literal : ℕ) (template : Template) : Type 0 where
  pub number : ℕ
  pub way_is : way_at row conj literal ≡ Some (By number template)

-- ---- plans

-- a constraint of the specification, with its number and its row
pub record IsRowOf (spec : Spec) (choice : Choice) (n : ℕ) (constraint : Constraint) (row : Row) : Type 0 where
  pub constraint_is : slice_get spec.constraints n ≡ Some constraint
  pub row_is : slice_get choice.rows n ≡ Some row

-- a template that breaks a constraint stands on a lower level, and so does a constraint whose fact
-- is used
pub record IsPlan (spec : Spec) (choice : Choice) : Type 0 where
  pub as_many : length choice.rows ≡ length spec.constraints
  pub ways :
      (n : ℕ) (constraint : Constraint) (row : Row) → IsRowOf spec choice n constraint row
      → AreWaysFor (owner_at spec n constraint) row
  pub covers :
      (n : ℕ) (constraint : Constraint) (row : Row) → IsRowOf spec choice n constraint row
      → Covers constraint (IsTested row)
  pub breaks :
      (n m : ℕ) (constraint other : Constraint) (row other_row : Row) (conj literal : ℕ)
      (template : Template) (reason : Reason) → IsRowOf spec choice n constraint row
      → IsRowOf spec choice m other other_row → HasTemplate row conj literal template
      → Breaks (owner_at spec n constraint) (owner_at spec m other) template (Some reason)
      → row.level < other_row.level
  pub relies :
      (n on : ℕ) (constraint other : Constraint) (row other_row : Row)
      → IsRowOf spec choice n constraint row → IsRowOf spec choice on other other_row
      → Relies spec n on → other_row.level < row.level
