-- What is told of a step was made.
use Rattle.std.proofs.Common.{ℕ, List}
use Rattle.dsr_ir.specs.declared.declarations.Spec.{Spec}
use Rattle.dsr_ir.specs.declared.layouts.Layout.{Layout}
use Rattle.dsr_ir.specs.declared.updates.Update.{Update}
use Rattle.dsr_ir.specs.declared.updates.Write.{Write}
use Rattle.dsr_repair_theory.specs.Entries.{AreSet, IsEntryOf}
use Rattle.dsr_repair_theory.specs.Entries.AreSet.{done as set_none, made as set_one, skipped as left_out}
use Rattle.dsr_repair_theory.specs.declared.entries.CellSet.{CellSet}
use Rattle.dsr_repair_theory.specs.declared.entries.Entry.{Entry}
use Rattle.dsr_step_theory.specs.Steps.{AreWritten, IsStepped}
use Rattle.dsr_step_theory.specs.Steps.AreWritten.{done, made, skipped}
use Rattle.dsr_step_theory.specs.declared.steps.Step.{Step}

module _ (spec : Spec) (layout : Layout) (step : Step) where
  -- the writes that set values, made
  pub were_written : {writes : List Write} {old new : List ℕ} {told : List CellSet} → AreSet spec layout step writes old new told → AreWritten spec layout step writes old new
  were_written set_none = done
  were_written (left_out write cell number at picked wanted rest) = skipped write cell number at picked wanted (were_written rest)
  were_written (set_one write cell number at picked unwanted one rest) = made write cell number at picked unwanted one (were_written rest)

  pub was_stepped : (update : Update) (old new : List ℕ) (entry : Entry) → IsEntryOf spec layout step update old new entry → IsStepped spec layout step update old new
  was_stepped update old new entry is = record { between = is.between; reset = is.reset; written = were_written is.sets }
