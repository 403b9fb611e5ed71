-- A repair that is made in rounds of steps.
use Rattle.std.specs.Prelude.{◌≡◌, ◌+◌, ℕ, List, ◌++◌, Option, None, Some, IfSome, length}
use Rattle.dsr_ir.specs.declared.declarations.Spec.{Spec}
use Rattle.dsr_ir.specs.declared.layouts.Layout.{Layout}
use Rattle.dsr_plan_theory.specs.declared.choices.Choice.{Choice}
use Rattle.dsr_repair.specs.Cursors.{IsCursorOn}
use Rattle.dsr_repair.specs.Stepping.{IsModelled}
use Rattle.dsr_repair.specs.declared.rounds.Repair.{Repair}
use Rattle.dsr_repair_theory.specs.Runs.{IsPartRun}
use Rattle.dsr_repair_theory.specs.Turns.{IsOutcome}
use Rattle.dsr_repair_theory.specs.declared.entries.Entry.{Entry}
use Rattle.dsr_repair_theory.specs.declared.turns.Outcome.{Outcome}
use Rattle.dsr_resolve.specs.Rules.{AreResolved}
use Rattle.dsr_supported.specs.Supported.{IsSupportFor}

-- the repair may go on from these bytes: its model is theirs, with its support if it has one, and
-- nothing is violated before the place at which it looks for the next step
pub record IsUnderWay (spec : Spec) (choice : Choice) (layout : Layout) (bytes : List ℕ)
    (repair : Repair) : Type 0 where
  pub modelled : IsModelled spec layout bytes repair.model
  pub rules : AreResolved spec layout repair.rules
  pub cursor : IsCursorOn spec choice layout bytes repair.cursor
  pub backed :
      IfSome repair.backing.support (IsSupportFor spec layout bytes repair.rules repair.model)

-- due steps lead from the old bytes to the new ones, and their entries were pushed
pub record IsRound (spec : Spec) (choice : Choice) (layout : Layout) (old : List ℕ)
    (before : List Entry) (new : List ℕ) (after : List Entry) : Type 0 where
  pub made : List Entry
  pub pushed : after ≡ before ++ made
  pub run : IsPartRun spec choice layout old made new

-- none is due any more, or a supply is empty; or so many steps were made
abbrev pub EndsRound : Spec → Choice → Layout → List ℕ → ℕ → (before after : List Entry)
    → Option Outcome → Type 0
EndsRound spec choice layout new most before after (Some outcome) =
    IsOutcome spec choice layout new outcome
EndsRound spec choice layout new most before after None = length after ≡ length before + most
