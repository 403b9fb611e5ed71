-- What a repair does next on an image.
use Rattle.std.specs.Prelude.{◌≡◌, ℕ, List, Option, Some, IsSomeAnd}
use Rattle.dsr_repair_theory.specs.Choices.{IsChosen, IsUpdateAt}
use Rattle.dsr_ir.specs.declared.constraints.Literal.{Literal}
use Rattle.dsr_ir.specs.declared.declarations.Spec.{Spec}
use Rattle.dsr_ir.specs.declared.layouts.Layout.{Layout}
use Rattle.dsr_ir.specs.declared.tuples.Element.{Element}
use Rattle.dsr_ir.specs.declared.tuples.Fact.{Fact}
use Rattle.dsr_ir.specs.declared.tuples.Fact.TheVariants.{Member}
use Rattle.dsr_ir.specs.declared.tuples.Instance.{Instance}
use Rattle.dsr_ir.specs.declared.updates.Template.{Template}
use Rattle.dsr_ir.specs.declared.updates.Update.{Update}
use Rattle.dsr_meaning.specs.Consistency.{BoundConstraint, IsConsistent}
use Rattle.dsr_meaning.specs.Counting.{IsIn}
use Rattle.dsr_meaning.specs.Models.{IsFact}
use Rattle.dsr_meaning.specs.Typed.{pool_at}
use Rattle.dsr_plan_theory.specs.declared.choices.Choice.{Choice}
use Rattle.dsr_step_theory.specs.Steps.{IsSlot}
use Rattle.dsr_step_theory.specs.declared.steps.Step.{Step}
use Rattle.dsr_repair_theory.specs.Due.{IsDue}
use Rattle.dsr_repair_theory.specs.declared.turns.Need.{Need}
use Rattle.dsr_repair_theory.specs.declared.turns.Outcome.{Outcome}
use Rattle.dsr_repair_theory.specs.declared.turns.Outcome.TheVariants as outcomes
use Rattle.dsr_repair_theory.specs.declared.turns.Turn.{Turn}
use Rattle.dsr_repair_theory.specs.declared.turns.Turn.TheVariants as turns

-- the constraint at the binding for which a step is made
abbrev pub bound_by : Step → BoundConstraint
bound_by step = record { constraint = step.constraint; binding = step.binding }

-- the step that is due: the one that is chosen for the literal that is to become true next
pub record IsDueStep (spec : Spec) (choice : Choice) (layout : Layout) (bytes : List ℕ)
    (step : Step) (update : Update) : Type 0 where
  pub literal : Literal
  pub template : Template
  pub due :
      IsDue (IsFact spec layout bytes) spec choice (bound_by step) step.conj step.literal literal
      template
  pub chosen : IsChosen spec layout bytes literal.atom template step update

-- each slot of the pool is a member of a set that the pool's supply avoids
abbrev pub IsUsedUp : (Fact → Type 0) → Spec → Layout → ℕ → Type 0
IsUsedUp is_fact spec layout pool =
    IsSomeAnd (pool_at spec.base pool) (λ d. IsSomeAnd d.avoid
    (λ sets. (e : Element) → e.pool ≡ pool → IsSlot layout e
    → (set : ℕ) × IsIn set sets × is_fact (Member set e)))

-- the constraint at the binding for which a record is needed
abbrev pub needed_by : Need → BoundConstraint
needed_by need = record { constraint = need.constraint; binding = need.binding }

-- the update that is chosen for the literal that is to become true next takes a fresh record of the
-- pool, whose supply has none
pub record IsNeed (spec : Spec) (choice : Choice) (layout : Layout) (bytes : List ℕ)
    (need : Need) : Type 0 where
  pub literal : Literal
  pub template : Template
  pub due :
      IsDue (IsFact spec layout bytes) spec choice (needed_by need) need.conj need.literal literal
      template
  pub at : ℕ
  pub update : Update
  pub stopped : Option Instance
  pub update_is : IsUpdateAt spec layout bytes need.binding literal.atom template at update stopped
  pub fresh : update.fresh ≡ Some need.pool
  pub used_up : IsUsedUp (IsFact spec layout bytes) spec layout need.pool

-- what comes next on the image: nothing where it is consistent, and else the step that is due,
-- unless the supply of what it needs is empty
abbrev pub IsTurn : Spec → Choice → Layout → List ℕ → Turn → Type 0
IsTurn spec choice layout bytes turns.Done = IsConsistent spec layout bytes
IsTurn spec choice layout bytes (turns.Step step) =
    (update : Update) × IsDueStep spec choice layout bytes step update
IsTurn spec choice layout bytes (turns.Empty need) = IsNeed spec choice layout bytes need

-- how a repair may end on the image
abbrev pub IsOutcome : Spec → Choice → Layout → List ℕ → Outcome → Type 0
IsOutcome spec choice layout bytes outcomes.Consistent = IsConsistent spec layout bytes
IsOutcome spec choice layout bytes (outcomes.Empty need) = IsNeed spec choice layout bytes need
