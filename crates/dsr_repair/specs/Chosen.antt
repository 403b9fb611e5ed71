-- What is chosen for the literal that is to become true next.
use Rattle.std.specs.Prelude.{◌≡◌, ◌⊎◌, ℕ, List, Option, Some, slice_get}
use Rattle.dsr_repair_theory.specs.Choices.{IsEntryAt, IsNumberFor, IsPlace, IsUpdateAt, TakesAway}
use Rattle.dsr_repair.specs.declared.dues.Chosen.{Chosen}
use Rattle.dsr_repair.specs.declared.dues.DueLiteral.{DueLiteral}
use Rattle.dsr_ir.specs.declared.constraints.Literal.{Literal}
use Rattle.dsr_ir.specs.declared.declarations.Spec.{Spec}
use Rattle.dsr_ir.specs.declared.layouts.Layout.{Layout}
use Rattle.dsr_ir.specs.declared.tuples.Binding.{Binding}
use Rattle.dsr_ir.specs.declared.tuples.Element.{Element}
use Rattle.dsr_ir.specs.declared.tuples.Fact.{Fact}
use Rattle.dsr_ir.specs.declared.updates.Template.{Template}
use Rattle.dsr_ir.specs.declared.updates.Update.{Update}
use Rattle.dsr_meaning.specs.Consistency.{BoundConstraint}
use Rattle.dsr_meaning.specs.Truth.{LiteralHolds}
use Rattle.dsr_plan_theory.specs.declared.choices.Choice.{Choice}
use Rattle.dsr_repair_theory.specs.Due.{IsDue}
use Rattle.dsr_step_theory.specs.declared.steps.Step.{Step}

-- whether a literal is true is decided
abbrev pub AreDecided : (Fact → Type 0) → Type 0
AreDecided is_fact = (b : Binding) (its : Literal) → LiteralHolds is_fact b its ⊎ (LiteralHolds is_fact b its → ⊥)

-- the update of the template takes away what the rule gives
pub record IsUpdateBy (template : Template) (rule n : ℕ) (update : Update) : Type 0 where
  pub update_is : slice_get template.updates n ≡ Some update
  pub takes_away : TakesAway template.goal n
  pub rule_is : update.rule ≡ rule

-- the constraint with its binding
abbrev pub bound_of : DueLiteral → BoundConstraint
bound_of due = record { constraint = due.constraint; binding = due.binding }

-- such a literal is due by the plan
abbrev pub IsDueOf : (Fact → Type 0) → Spec → Choice → DueLiteral → Type 0
IsDueOf is_fact spec choice due =
    IsDue is_fact spec choice (bound_of due) due.conj due.repaired.place due.repaired.literal.now
    due.repaired.template.now

-- the update is the one that is chosen for it
abbrev pub IsChosenFor : Spec → Layout → List ℕ → DueLiteral → Chosen → Type 0
IsChosenFor spec layout bytes due chosen =
    IsUpdateAt spec layout bytes due.binding due.repaired.literal.now.atom due.repaired.template.now
    chosen.place chosen.update.now chosen.stopped

-- the step is for the literal that is due, by the update that is chosen, with this fresh record
pub record IsStepFor (is_fact : Fact → Type 0) (due : DueLiteral) (chosen : Chosen) (fresh : Option Element) (step : Step) : Type 0 where
  pub constraint : step.constraint ≡ due.constraint
  pub binding : step.binding ≡ due.binding
  pub conj : step.conj ≡ due.conj
  pub literal : step.literal ≡ due.repaired.place
  pub rule : step.rule ≡ chosen.update.now.rule
  pub update : step.update ≡ chosen.place
  pub fresh_is : step.fresh ≡ fresh
  pub place : IsPlace due.binding chosen.stopped chosen.update.now.place step.elem
  pub entry : IsEntryAt due.binding chosen.stopped chosen.update.now.at step.index
  pub number : IsNumberFor is_fact due.binding chosen.update.now.writes step.number
