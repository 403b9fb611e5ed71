-- What can be repaired where some constraints are left, by the graph.
use Rattle.std.specs.Prelude.{◌≡◌, ◌<◌, ◌↔◌, ℕ, Bool, false, IsTrue, List, None, Some, length, slice_get, slice_index_or}
use Rattle.dsr_graph_theory.specs.Breaks.{Breaks, Falsifies, Relies}
use Rattle.dsr_graph_theory.specs.declared.causes.Reason.{Reason}
use Rattle.dsr_placement.specs.Atoms.{IsTested, IsTestedIn}
use Rattle.dsr_graph.specs.Graphs.{IsGraphOf, IsWayOf, from_in}
use Rattle.dsr_graph.specs.declared.graphs.Graph.{Graph}
use Rattle.dsr_ir.specs.declared.constraints.Constraint.{Constraint}
use Rattle.dsr_ir.specs.declared.constraints.Conj.{Conj}
use Rattle.dsr_ir.specs.declared.constraints.Literal.{Literal}
use Rattle.dsr_ir.specs.declared.declarations.Spec.{Spec}
use Rattle.dsr_ir.specs.declared.updates.Template.{Template}
use Rattle.dsr_graph_theory.specs.Owners.{Owner}
use Rattle.dsr_meaning.specs.Counting.{IsIn}
use Rattle.dsr_graph.specs.declared.asking.Position.{Position}
use Rattle.dsr_plan_theory.specs.Plans.{owner_at}
use Rattle.dsr_plan_theory.specs.Stuck.{MustTest, SparesMembers}
use Rattle.dsr_update_theory.specs.Templates.{literal_at}

-- the constraint with this number is left
abbrev pub IsLeft : List Bool → ℕ → Type 0
IsLeft left n = IsTrue (slice_index_or left n false)

-- ---- what is asked about is there

-- the graph is that of a specification of so many constraints, and this one has the number
pub record IsConstraintIn (graph : Graph) (many number : ℕ) (constraint : Constraint) : Type 0 where
  pub spec : Spec
  pub graph_is : IsGraphOf spec graph
  pub constraint_is : slice_get spec.constraints number ≡ Some constraint
  pub as_many : length spec.constraints ≡ many

-- that one has the conjunction with this number
pub record IsConjIn (graph : Graph) (many constraint number : ℕ) (conj : Conj) : Type 0 where
  pub its : Constraint
  pub in_graph : IsConstraintIn graph many constraint its
  pub conj_is : slice_get its.conjs number ≡ Some conj

-- and that one the literal
pub record IsLiteralIn (graph : Graph) (many : ℕ) (at : Position) (literal : Literal) : Type 0 where
  pub its : Constraint
  pub in_graph : IsConstraintIn graph many at.constraint its
  pub literal_is : literal_at its at.conj at.literal ≡ Some literal

-- ---- what can be repaired

-- the constraint is a member, and the template breaks it
pub record BreaksLeft (owner : Owner) (Member : ℕ → Type 0) (template : Template) (n : ℕ) (other : Constraint) : Type 0 where
  pub member : Member n
  pub reason : Reason
  pub breaks : Breaks owner (owner_at owner.spec n other) template (Some reason)

-- the template falsifies no other literal, and breaks no member
pub record IsUsable (owner : Owner) (Member : ℕ → Type 0) (conj literal : ℕ) (template : Template) : Type 0 where
  pub falsifies_none : Falsifies owner conj literal template None
  pub spares : SparesMembers owner Member template

-- the literal has such a template with this number, counted from 0
pub record IsUsableWay (graph : Graph) (owner : Owner) (Member : ℕ → Type 0) (at : Position) (way : ℕ) : Type 0 where
  pub template : Template
  pub is_way : IsWayOf graph at.constraint at.conj at.literal way owner template
  pub usable : IsUsable owner Member at.conj at.literal template

abbrev pub HasUsable : Graph → Owner → (ℕ → Type 0) → Position → Type 0
HasUsable graph owner Member at = (way : ℕ) × IsUsableWay graph owner Member at way

pub record IsFirstUsable (graph : Graph) (owner : Owner) (Member : ℕ → Type 0) (at : Position) (way : ℕ) : Type 0 where
  pub usable : IsUsableWay graph owner Member at way
  pub none_before : (n : ℕ) → n < way → IsUsableWay graph owner Member at n → ⊥

-- the literal isn't `given`, and this is its first such template
pub record IsWayAt (graph : Graph) (owner : Owner) (Member : ℕ → Type 0) (at : Position) (literal : Literal) (way : ℕ) : Type 0 where
  pub free : literal.given ≡ false
  pub first : IsFirstUsable graph owner Member at way

-- the marks of a conjunction's literals tell which of them have to be tested
abbrev pub AreTestsIn : Owner → (ℕ → Type 0) → ℕ → Conj → List Bool → Type 0
AreTestsIn owner Member number conj marks =
    (n : ℕ) (literal : Literal) → slice_get conj.literals n ≡ Some literal
    → IsTestedIn marks n ↔ MustTest owner Member number n

-- so do those of all conjunctions
abbrev pub AreTests : Owner → (ℕ → Type 0) → List (List Bool) → Type 0
AreTests owner Member rows =
    (conj n : ℕ) (literal : Literal) → literal_at owner.constraint conj n ≡ Some literal
    → IsTested rows conj n ↔ MustTest owner Member conj n

-- the constraint is left, and relies on the other one by the graph, in which one that it hasn't
-- relies on none
pub record TellsRelies (graph : Graph) (left : List Bool) (who on : ℕ) : Type 0 where
  pub is_left : IsLeft left who
  pub relies : IsIn on (from_in graph who)

pub record ReliesLeft (spec : Spec) (Member : ℕ → Type 0) (who on : ℕ) : Type 0 where
  pub member : Member who
  pub relies : Relies spec who on

-- a member relies on the constraint, or none does
abbrev pub IsReliedOn : Spec → (ℕ → Type 0) → ℕ → Type 0
IsReliedOn spec Member on = (m : ℕ) × Member m × Relies spec m on

abbrev pub IsReliedOnByNone : Spec → (ℕ → Type 0) → ℕ → Type 0
IsReliedOnByNone spec Member on = (m : ℕ) → Member m → Relies spec m on → ⊥
