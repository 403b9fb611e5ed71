-- What a step leaves: an image with its layout and its model, and a log.
use Rattle.std.specs.Prelude.{◌≡◌, ◌<◌, ℕ, Some, slice_get, List, [], ◌∷◌, ◌++◌}
use Rattle.dsr_repair.specs.declared.bindings.Violation.{Violation}
use Rattle.dsr_repair.specs.declared.cursors.Cursor.{Cursor}
use Rattle.dsr_ir.specs.declared.declarations.Spec.{Spec}
use Rattle.dsr_ir.specs.declared.layouts.Layout.{Layout}
use Rattle.dsr_fixpoint.specs.Models.{IsModelOf, IsPreparedFor}
use Rattle.dsr_meaning.specs.Consistency.{BoundConstraint, IsViolated}
use Rattle.dsr_meaning.specs.Models.{IsFact}
use Rattle.dsr_model.specs.Views.{ModelView}
use Rattle.dsr_plan_theory.specs.declared.choices.Choice.{Choice}
use Rattle.dsr_plan_theory.specs.declared.choices.Row.{Row}
use Rattle.dsr_bound_laws.specs.Remaining.{IsRemaining}
use Rattle.dsr_step_theory.specs.Images.{IsImageOf}
use Rattle.dsr_repair_theory.specs.Runs.{IsDueEntry}
use Rattle.dsr_repair_theory.specs.declared.entries.Entry.{Entry}
use Rattle.dsr_step_theory.specs.declared.steps.Step.{Step}
use Rattle.dsr_repair_theory.specs.declared.turns.Turn.{Turn}
use Rattle.dsr_repair_theory.specs.declared.turns.Turn.TheVariants as turns

-- the layout is that of the image, and the model too
pub record IsModelled (spec : Spec) (layout : Layout) (bytes : List ℕ) (view : ModelView) : Type 0 where
  pub image : IsImageOf spec layout bytes
  pub prepared : IsPreparedFor spec layout view
  pub model : IsModelOf spec layout bytes view

-- an image, a log and a model, as a step finds or leaves them
pub record State : Type 0 where
  pub bytes : List ℕ
  pub entries : List Entry
  pub model : ModelView

abbrev pub state : List ℕ → List Entry → ModelView → State
state bytes entries model = record { bytes = bytes; entries = entries; model = model }

-- this step was made, and an entry was pushed which tells it
pub record IsLogged (spec : Spec) (choice : Choice) (layout : Layout) (step : Step) (old new : State) : Type 0 where
  pub entry : Entry
  pub pushed : new.entries ≡ old.entries ++ entry ∷ []
  pub made : IsDueEntry spec choice layout old.bytes entry new.bytes
  pub step_is : made.step ≡ step

-- the step that is due was made and logged, or there was none and all is as it was
abbrev pub TakesTurn : Spec → Choice → Layout → State → State → Turn → Type 0
TakesTurn spec choice layout old new turns.Done = new ≡ old
TakesTurn spec choice layout old new (turns.Step step) = IsLogged spec choice layout step old new
TakesTurn spec choice layout old new (turns.Empty need) = new ≡ old

-- less remains than before, and bindings are newly violated of constraints on levels above the one
-- alone for which the step was made
pub record IsNearer (spec : Spec) (choice : Choice) (layout : Layout) (old new : List ℕ) (constraint : ℕ) : Type 0 where
  pub falls : (n m : ℕ) → IsRemaining spec choice layout old n → IsRemaining spec choice layout new m → m < n
  pub above :
      (w : BoundConstraint) (row other : Row) → IsViolated (IsFact spec layout new) spec w
      → (IsViolated (IsFact spec layout old) spec w → ⊥) → slice_get choice.rows constraint ≡ Some row
      → slice_get choice.rows w.constraint ≡ Some other → row.level < other.level

-- a step brings the image nearer to its end
abbrev pub Brings : Spec → Choice → Layout → List ℕ → List ℕ → Turn → Type 0
Brings spec choice layout old new turns.Done = Unit {0}
Brings spec choice layout old new (turns.Step step) = IsNearer spec choice layout old new step.constraint
Brings spec choice layout old new (turns.Empty need) = Unit {0}

-- the violated binding for which a step is made
abbrev pub violation_of : Step → Violation
violation_of step = record { constraint = step.constraint; binding = step.binding }

-- the cursor stands at the binding for which the step was made; where none was made, it stands
-- where it stood
abbrev pub IsMoved : Cursor → Cursor → Turn → Type 0
IsMoved old new turns.Done = new ≡ old
IsMoved old new (turns.Step step) = new ≡ record old { last = Some (violation_of step) }
IsMoved old new (turns.Empty need) = new ≡ old
