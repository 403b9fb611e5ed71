-- Runs of which the one goes on where the other stops.
use Rattle.std.specs.Prelude.{◌≡◌, ℕ, List, ◌++◌}
use Rattle.dsr_ir.specs.declared.declarations.Spec.{Spec}
use Rattle.dsr_ir.specs.declared.layouts.Layout.{Layout}
use Rattle.dsr_plan_theory.specs.declared.choices.Choice.{Choice}
use Rattle.dsr_repair_theory.specs.Runs.{IsPartRun}
use Rattle.dsr_repair_theory.specs.declared.entries.Entry.{Entry}

-- these entries are the first of all, and the others tell a run from the bytes that they leave to
-- the last
pub record GoesOn (spec : Spec) (choice : Choice) (layout : Layout) (first : List Entry)
    (middle : List ℕ) (all : List Entry) (last : List ℕ) : Type 0 where
  pub rest : List Entry
  pub entries : all ≡ first ++ rest
  pub steps : IsPartRun spec choice layout middle rest last
