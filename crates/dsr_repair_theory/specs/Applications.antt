-- When an update is applied to an image.
use Rattle.std.specs.Prelude.{◌≡◌, ℕ, List, Some}
use Rattle.dsr_ir.specs.declared.constraints.Constraint.{Constraint}
use Rattle.dsr_ir.specs.declared.constraints.Literal.{Literal}
use Rattle.dsr_ir.specs.declared.declarations.Spec.{Spec}
use Rattle.dsr_ir.specs.declared.layouts.Layout.{Layout}
use Rattle.dsr_ir.specs.declared.tuples.Binding.{Binding}
use Rattle.dsr_ir.specs.declared.updates.Template.{Template}
use Rattle.dsr_ir.specs.declared.updates.Update.{Update}
use Rattle.dsr_meaning.specs.Consistency.{BoundConstraint, IsViolated}
use Rattle.dsr_meaning.specs.Counting.{IsIn}
use Rattle.dsr_meaning.specs.Models.{IsFact}
use Rattle.dsr_meaning.specs.Truth.{LiteralHolds}
use Rattle.dsr_step_theory.specs.Images.{IsImageOf}
use Rattle.dsr_step_theory.specs.Steps.{IsStepped}
use Rattle.dsr_step_theory.specs.declared.steps.Step.{Step}
use Rattle.dsr_update_theory.specs.Facts.{from}
use Rattle.dsr_update_theory.specs.Templates.{literal_at}
use Rattle.dsr_repair_theory.specs.Choices.{IsChosen}

-- the constraints whose facts this one uses have no violated binding
abbrev pub FactsHold : Spec → Layout → List ℕ → ℕ → Type 0
FactsHold spec layout bytes constraint =
    (giver : ℕ) (b : Binding) → IsIn giver (from spec constraint)
    → IsViolated (IsFact spec layout bytes) spec (record { constraint = giver; binding = b }) → ⊥

-- An update of a template is applied at a violated binding of a constraint, under which the
-- template's literal is false: one update is chosen with all that it leaves open, and its step
-- makes the old bytes the new ones. The facts that the constraint uses hold before. That the
-- template is one that is tried for the literal stands apart, so that this serves templates with
-- compensations as well.
pub record IsApplied (spec : Spec) (template : Template) (update : Update) (layout : Layout)
    (step : Step) (old new : List ℕ) : Type 0 where
  pub image : IsImageOf spec layout old
  pub violated :
      IsViolated (IsFact spec layout old) spec
      (record { constraint = step.constraint; binding = step.binding })
  pub facts_hold : FactsHold spec layout old step.constraint
  pub literal : Literal
  pub literal_is : literal_at violated.constraint step.conj step.literal ≡ Some literal
  pub is_false : LiteralHolds (IsFact spec layout old) step.binding literal → ⊥
  pub chosen : IsChosen spec layout old literal.atom template step update
  pub stepped : IsStepped spec layout step update old new
