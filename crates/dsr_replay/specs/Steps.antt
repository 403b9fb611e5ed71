-- One step that is held against an entry.
use Rattle.std.specs.Prelude.{◌≡◌, ◌+◌, ℕ, List}
use Rattle.dsr_ir.specs.declared.declarations.Spec.{Spec}
use Rattle.dsr_ir.specs.declared.layouts.Layout.{Layout}
use Rattle.dsr_plan_theory.specs.declared.choices.Choice.{Choice}
use Rattle.dsr_repair_theory.specs.Runs.{IsDueEntry}
use Rattle.dsr_repair_theory.specs.declared.entries.Entry.{Entry}
use Rattle.dsr_replay.specs.Audits.{HaveOneText, IsFirstUnlike}
use Rattle.dsr_replay.specs.declared.faults.AuditFault.{AuditFault}
use Rattle.dsr_replay.specs.declared.faults.AuditFault.TheVariants as faults

-- the step that is due was made, and has the entry's text
pub record IsMatched (spec : Spec) (choice : Choice) (layout : Layout) (number : ℕ) (told : Entry)
    (old new : List ℕ) : Type 0 where
  pub due : Entry
  pub made : IsDueEntry spec choice layout old due new
  pub one_text : HaveOneText spec number told due

-- no step that is due has the entry's text, whose number is told; or memory is wanting
abbrev pub IsMismatch :
    Spec → Choice → Layout → ℕ → Entry → List ℕ → AuditFault → Type 0
IsMismatch spec choice layout number told bytes (faults.Entry n) =
    (n ≡ number)
    × ((due : Entry) (new : List ℕ) → IsDueEntry spec choice layout bytes due new
    → HaveOneText spec number told due → ⊥)
IsMismatch spec choice layout number told bytes faults.NoMemory = Unit {0}
IsMismatch spec choice layout number told bytes fault = ⊥

-- the step that was made has another text, and the entry's number is told; or memory is wanting
abbrev pub IsTextFault : Spec → ℕ → Entry → Entry → AuditFault → Type 0
IsTextFault spec number told made (faults.Entry n) =
    (n ≡ number) × (HaveOneText spec number told made → ⊥)
IsTextFault spec number told made faults.NoMemory = Unit {0}
IsTextFault spec number told made fault = ⊥

-- as long as entries are replayed, no other fault is told
abbrev pub IsUnlike : Spec → Choice → Layout → List ℕ → List Entry → AuditFault → Type 0
IsUnlike spec choice layout image log (faults.Entry number) =
    IsFirstUnlike spec choice layout image log number
IsUnlike spec choice layout image log faults.NoMemory = Unit {0}
IsUnlike spec choice layout image log fault = ⊥
