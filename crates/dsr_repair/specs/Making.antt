-- What is told of a step that is made.
use Rattle.std.specs.Prelude.{◌≡◌, ℕ, List, [], ◌∷◌, ◌++◌}
use Rattle.dsr_ir.specs.declared.declarations.Spec.{Spec}
use Rattle.dsr_ir.specs.declared.layouts.Layout.{Layout}
use Rattle.dsr_ir.specs.declared.updates.Update.{Update}
use Rattle.dsr_log.specs.declared.entries.EntryHead.{EntryHead}
use Rattle.dsr_repair_theory.specs.Entries.{IsEntryOf}
use Rattle.dsr_repair_theory.specs.declared.entries.Entry.{Entry}
use Rattle.dsr_step_theory.specs.declared.steps.Step.{Step}

-- the head of a step's entry
abbrev pub head_of : Step → EntryHead
head_of step = record {
  constraint = step.constraint;
  binding = step.binding;
  conj = step.conj;
  literal = step.literal;
  rule = step.rule;
  reset = step.fresh;
}

-- the step makes the old bytes the new ones, and an entry was pushed which tells it
pub record IsToldBy (spec : Spec) (layout : Layout) (step : Step) (update : Update)
    (old new : List ℕ) (before after : List Entry) : Type 0 where
  pub entry : Entry
  pub pushed : after ≡ before ++ entry ∷ []
  pub told : IsEntryOf spec layout step update old new entry
