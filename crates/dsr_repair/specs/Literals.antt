-- The conjunction and its literal that are to be repaired, found by going over them with the ways
-- of a row.
use Rattle.std.specs.Prelude.{◌≡◌, ◌<◌, ℕ, List, [], Some, slice_get}
use Rattle.std.specs.Option.{option_map_or}
use Rattle.dsr_ir.specs.declared.constraints.Conj.{Conj}
use Rattle.dsr_ir.specs.declared.constraints.Constraint.{Constraint}
use Rattle.dsr_ir.specs.declared.constraints.Literal.{Literal}
use Rattle.dsr_ir.specs.declared.tuples.Binding.{Binding}
use Rattle.dsr_ir.specs.declared.tuples.Fact.{Fact}
use Rattle.dsr_ir.specs.declared.updates.Template.{Template}
use Rattle.dsr_meaning.specs.Truth.{LiteralHolds}
use Rattle.dsr_plan_theory.specs.declared.choices.Row.{Row}
use Rattle.dsr_plan_theory.specs.declared.choices.Way.{Way}
use Rattle.dsr_plan_theory.specs.declared.choices.Way.TheVariants.{Test, By}

-- the ways of a conjunction's literals
abbrev pub ways_at : Row → ℕ → List Way
ways_at row conj = option_map_or (λ ways. ways) (slice_get row.ways conj) []

-- the literals that are tested are true
abbrev pub AreTestsTrue : (Fact → Type 0) → Binding → List Literal → List Way → Type 0
AreTestsTrue is_fact b literals ways =
    (n : ℕ) (its : Literal) → slice_get literals n ≡ Some its → slice_get ways n ≡ Some Test
    → LiteralHolds is_fact b its

-- those of the conjunction with this place
abbrev pub Passes : (Fact → Type 0) → Binding → Constraint → Row → ℕ → Conj → Type 0
Passes is_fact b constraint row place conj = AreTestsTrue is_fact b conj.literals (ways_at row place)

abbrev pub NonePasses : (Fact → Type 0) → Binding → Constraint → Row → Type 0
NonePasses is_fact b constraint row =
    (place : ℕ) (conj : Conj) → slice_get constraint.conjs place ≡ Some conj
    → Passes is_fact b constraint row place conj → ⊥

-- the first conjunction whose tested literals are true, with the ways of its literals
pub record IsFirstPassing (is_fact : Fact → Type 0) (b : Binding) (constraint : Constraint) (row : Row)
    (place : ℕ) (conj : Conj) (ways : List Way) : Type 0 where
  pub conj_is : slice_get constraint.conjs place ≡ Some conj
  pub ways_are : ways ≡ ways_at row place
  pub passes : Passes is_fact b constraint row place conj
  pub none_before :
      (earlier : ℕ) (other : Conj) → earlier < place → slice_get constraint.conjs earlier ≡ Some other
      → Passes is_fact b constraint row earlier other → ⊥

-- the literal has a template, and is false
pub record IsFalseAt (is_fact : Fact → Type 0) (b : Binding) (literals : List Literal) (ways : List Way)
    (place : ℕ) (its : Literal) (template : Template) : Type 0 where
  pub number : ℕ
  pub literal_is : slice_get literals place ≡ Some its
  pub way_is : slice_get ways place ≡ Some (By number template)
  pub is_false : LiteralHolds is_fact b its → ⊥

abbrev pub NoneIsFalse : (Fact → Type 0) → Binding → List Literal → List Way → Type 0
NoneIsFalse is_fact b literals ways =
    (place : ℕ) (its : Literal) (template : Template)
    → IsFalseAt is_fact b literals ways place its template → ⊥

pub record IsFirstFalse (is_fact : Fact → Type 0) (b : Binding) (literals : List Literal) (ways : List Way)
    (place : ℕ) (its : Literal) (template : Template) : Type 0 where
  pub is : IsFalseAt is_fact b literals ways place its template
  pub none_before :
      (earlier : ℕ) (other : Literal) (by : Template) → earlier < place
      → IsFalseAt is_fact b literals ways earlier other by → ⊥
