-- The constraint for whose literals templates are listed, and how its updates are judged.
use Rattle.std.specs.Prelude.{◌≡◌, ℕ, zero, suc, Option, Some, IfSome, slice_get}
use Rattle.std.specs.Option.{option_and_then}
use Rattle.dsr_ir.specs.declared.constraints.Constraint.{Constraint}
use Rattle.dsr_ir.specs.declared.declarations.Spec.{Spec}
use Rattle.dsr_ir.specs.declared.updates.Goal.{Goal}
use Rattle.dsr_ir.specs.declared.updates.Goal.TheVariants as goals
use Rattle.dsr_ir.specs.declared.updates.Symbol.{Symbol}
use Rattle.dsr_ir.specs.declared.updates.Symbol.TheVariants.{Set}
use Rattle.dsr_ir.specs.declared.updates.Template.{Template}
use Rattle.dsr_ir.specs.declared.updates.Update.{Update}
use Rattle.dsr_update_theory.specs.Changes.{Change}
use Rattle.dsr_update_theory.specs.Effects.{InTable}
use Rattle.dsr_update_theory.specs.Facts.{exclusive}
use Rattle.dsr_update_theory.specs.declared.effects.Tag.{Tag}
use Rattle.dsr_update_theory.specs.declared.effects.Direction.{Direction}

-- a constraint of a specification, by its number
pub record Owner : Type 0 where
  pub spec : Spec
  pub number : ℕ
  pub constraint : Constraint

-- the goal of an update of a template, by the update's place: what is for exactly one supplies
-- first, and then trims
abbrev pub goal_at : Goal → ℕ → Goal
goal_at goals.ExactlyOne zero = goals.Supply
goal_at goals.ExactlyOne (suc n) = goals.Trim
goal_at goal n = goal

-- an update of the constraint as it is judged, for a goal
abbrev pub change_of : Owner → Goal → Update → Change
change_of owner goal update =
    record {
      spec = owner.spec;
      exclusive = exclusive owner.spec owner.number;
      quant = owner.constraint.quant;
      goal = goal;
      update = update;
    }

-- the update has this place in the template, and such is how it is judged
pub record IsJudgedAt (owner : Owner) (template : Template) (n : ℕ) (c : Change) : Type 0 where
  pub update : Update
  pub update_is : slice_get template.updates n ≡ Some update
  pub change_is : c ≡ change_of owner (goal_at template.goal n) update

-- each update of the template is such a one
abbrev pub EachUpdate : Owner → Template → (ℕ → Change → Type 0) → Type 0
EachUpdate owner template Such = (n : ℕ) (c : Change) → IsJudgedAt owner template n c → Such n c

-- the symbol doesn't change so, whatever the record
abbrev pub Keeps : Change → Direction → Symbol → Type 0
Keeps c direction symbol = (tag : Tag) → InTable c direction symbol tag → ⊥

-- the premise of the update's rule, where it is a set
abbrev pub premise_of : Change → Option ℕ
premise_of c = option_and_then (λ rule. rule.premise) (slice_get c.spec.rules c.update.rule)

-- that premise doesn't change so
abbrev pub KeepsPremise : Change → Direction → Type 0
KeepsPremise c direction = IfSome (premise_of c) (λ set. Keeps c direction (Set set))
