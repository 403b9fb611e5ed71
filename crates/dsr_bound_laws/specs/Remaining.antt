-- How many steps remain to be made on an image, at most.
use Rattle.std.specs.Prelude.{◌≡◌, ◌≢◌, ◌+◌, ◌-◌, ◌*◌, ℕ, nat_lt, List, ◌∷◌, length, Some, slice_get, if◌then◌else◌}
use Rattle.std.specs.Option.{option_map_or}
use Rattle.dsr_template_laws.specs.Helping.{IsActiveFor}
use Rattle.dsr_ir.specs.declared.constraints.Constraint.{Constraint}
use Rattle.dsr_ir.specs.declared.constraints.Literal.{Literal}
use Rattle.dsr_ir.specs.declared.declarations.Spec.{Spec}
use Rattle.dsr_ir.specs.declared.layouts.Layout.{Layout}
use Rattle.dsr_ir.specs.declared.tuples.Binding.{Binding}
use Rattle.dsr_ir.specs.declared.tuples.Fact.{Fact}
use Rattle.dsr_ir.specs.declared.updates.Goal.{Goal}
use Rattle.dsr_ir.specs.declared.updates.Goal.TheVariants as goals
use Rattle.dsr_ir.specs.declared.updates.Symbol.{Symbol}
use Rattle.dsr_ir.specs.declared.updates.Template.{Template}
use Rattle.dsr_graph_theory.specs.Sides.{atom_symbol}
use Rattle.dsr_meaning.specs.Consistency.{BoundConstraint, IsConsistent, IsViolated}
use Rattle.dsr_meaning.specs.Counting.{AreMany, Enumerates}
use Rattle.dsr_meaning.specs.Models.{IsFact}
use Rattle.dsr_plan_theory.specs.declared.choices.Choice.{Choice}
use Rattle.dsr_plan_theory.specs.declared.choices.Row.{Row}
use Rattle.dsr_repair_theory.specs.Due.{IsDueBinding, IsDueConj, IsDueLiteral, IsToRepair}
use Rattle.dsr_bound_laws.specs.Bounds.{binding_cost, conj_cost, constraint_cost, instances_and_one, total}

-- ---- what a template takes away

-- so many active instances of rules that give facts of the symbol are left to be stopped; none
-- where the template adds, sets or supplies
abbrev pub AreToStop : Spec → Layout → List ℕ → Symbol → Goal → ℕ → Type 0
AreToStop spec layout bytes symbol goals.RemoveSet n =
    AreMany (IsActiveFor spec layout bytes symbol) n
AreToStop spec layout bytes symbol goals.RemoveTuple n =
    AreMany (IsActiveFor spec layout bytes symbol) n
AreToStop spec layout bytes symbol goals.Trim n = AreMany (IsActiveFor spec layout bytes symbol) n
AreToStop spec layout bytes symbol goals.ExactlyOne n =
    AreMany (IsActiveFor spec layout bytes symbol) n
AreToStop spec layout bytes symbol _ n = n ≡ 0

-- ---- violated bindings

-- the literal with this number is false, and the row has a template for it
pub record IsRepairable (is_fact : Fact → Type 0) (b : Binding) (constraint : Constraint)
    (row : Row) (conj literal : ℕ) : Type 0 where
  pub its : Literal
  pub template : Template
  pub is : IsToRepair is_fact b constraint row conj literal its template

-- another violated binding of a constraint on this level
pub record IsOther (is_fact : Fact → Type 0) (spec : Spec) (choice : Choice) (v : BoundConstraint)
    (level : ℕ) (w : BoundConstraint) : Type 0 where
  pub violated : IsViolated is_fact spec w
  pub other : w ≢ v
  pub row : Row
  pub row_is : slice_get choice.rows w.constraint ≡ Some row
  pub level_is : row.level ≡ level

-- In what follows, `m` is one more than the instances that there may be.

-- what a binding of the constraint with this number costs
abbrev pub cost_of : Spec → ℕ → BoundConstraint → ℕ
cost_of spec m w = option_map_or (binding_cost m) (slice_get spec.constraints w.constraint) 0

-- what all constraints on higher levels cost, of a list of constraints with their rows
abbrev pub higher_cost : ℕ → ℕ → List Row → List Constraint → ℕ
higher_cost m level (row ∷ rows) (c ∷ constraints) =
    (if nat_lt level row.level then constraint_cost m c else 0)
    + higher_cost m level rows constraints
higher_cost m level _ _ = 0

-- ---- all of it

-- What remains where this literal of this constraint is due at this binding: what is to be stopped
-- for the literal, the other false literals of its conjunction, the conjunctions before that, the
-- other violated bindings of the level, and all that constraints on higher levels may come to.
pub record IsLeft (spec : Spec) (choice : Choice) (layout : Layout) (bytes : List ℕ) (m : ℕ)
    (v : BoundConstraint)
    (constraint : Constraint) (row : Row) (conj literal : ℕ) (its : Literal) (template : Template)
    (n : ℕ) : Type 0 where
  pub binding_is : IsDueBinding (IsFact spec layout bytes) spec choice v constraint row
  pub conj_is : IsDueConj (IsFact spec layout bytes) v.binding constraint row conj
  pub literal_is :
      IsDueLiteral (IsFact spec layout bytes) v.binding constraint row conj literal its template
  pub to_stop : ℕ
  pub are_to_stop : AreToStop spec layout bytes (atom_symbol its.atom) template.goal to_stop
  pub to_repair : ℕ
  pub are_to_repair :
      AreMany (IsRepairable (IsFact spec layout bytes) v.binding constraint row conj) to_repair
  pub others : List BoundConstraint
  pub are_others : Enumerates (IsOther (IsFact spec layout bytes) spec choice v row.level) others
  pub number :
      n ≡ to_stop + 1 + (to_repair - 1) * m + conj * conj_cost m constraint
      + (total (cost_of spec m) others + higher_cost m row.level choice.rows spec.constraints)

-- nothing remains where the image is consistent, and else what is left for the literal that is due
pub data IsRemaining (spec : Spec) (choice : Choice) (layout : Layout) (bytes : List ℕ) :
    ℕ → Type 0 where
  nothing : IsConsistent spec layout bytes → IsRemaining spec choice layout bytes 0
  left :
      (v : BoundConstraint) (constraint : Constraint) (row : Row) (conj literal : ℕ) (its : Literal)
      (template : Template) (n : ℕ)
      → IsLeft spec choice layout bytes (instances_and_one spec (length bytes)) v constraint row
      conj literal its template n
      → IsRemaining spec choice layout bytes n
