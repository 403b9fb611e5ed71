-- What a log tells of a repair that leads from one image to another.
use Rattle.std.specs.Prelude.{◌≡◌, ◌≢◌, ◌+◌, ℕ, List, Some, IsSomeAnd, length, slice_get}
use Rattle.dsr_ir.specs.declared.declarations.Spec.{Spec}
use Rattle.dsr_ir.specs.declared.layouts.Layout.{Layout}
use Rattle.dsr_meaning.specs.Consistency.{IsConsistent}
use Rattle.dsr_plan_theory.specs.declared.choices.Choice.{Choice}
use Rattle.dsr_repair_theory.specs.Runs.{IsDueEntry, IsPartRun}
use Rattle.dsr_repair_theory.specs.declared.entries.Entry.{Entry}
use Rattle.dsr_replay.specs.Differences.{IsFirstDifference}
use Rattle.dsr_replay.specs.declared.faults.AuditFault.{AuditFault}
use Rattle.dsr_replay.specs.declared.faults.AuditFault.TheVariants as faults
use Rattle.dsr_report.specs.Reports.{entry_text}

-- two entries have one text under a number
abbrev pub HaveOneText : Spec → ℕ → Entry → Entry → Type 0
HaveOneText spec number told made = entry_text spec number told ≡ entry_text spec number made

-- each entry of the run has the text of the one at its place in the log; entries count from 1
abbrev pub AreTold : Spec → List Entry → List Entry → Type 0
AreTold spec log run =
    (k : ℕ) (made : Entry) → slice_get run k ≡ Some made
    → IsSomeAnd (slice_get log k) (λ told. HaveOneText spec (k + 1) told made)

-- so many steps, each the one that is due, lead from the image to these bytes, and their entries
-- have the texts of the log's first ones
pub record IsReplayed (spec : Spec) (choice : Choice) (layout : Layout) (image : List ℕ)
    (log : List Entry) (count : ℕ) (reached : List ℕ) : Type 0 where
  pub run : List Entry
  pub count_is : length run ≡ count
  pub steps : IsPartRun spec choice layout image run reached
  pub told : AreTold spec log run

-- the log has the texts of a whole repair of the image, which leads to these bytes, and these are
-- consistent
pub record IsAudited (spec : Spec) (choice : Choice) (layout : Layout) (image : List ℕ)
    (log : List Entry) (fixed : List ℕ) : Type 0 where
  pub replayed : IsReplayed spec choice layout image log (length log) fixed
  pub consistent : IsConsistent spec layout fixed

-- ---- refusals

-- the entry with this number is the first that hasn't the text of the step which is due on the
-- bytes that are reached; where no step is due there, none has
pub record IsFirstUnlike (spec : Spec) (choice : Choice) (layout : Layout) (image : List ℕ)
    (log : List Entry) (number : ℕ) : Type 0 where
  pub before : ℕ
  pub number_is : number ≡ before + 1
  pub reached : List ℕ
  pub replayed : IsReplayed spec choice layout image log before reached
  pub told : Entry
  pub told_is : slice_get log before ≡ Some told
  pub unlike :
      (due : Entry) (new : List ℕ) → IsDueEntry spec choice layout reached due new
      → HaveOneText spec number told due → ⊥

-- all entries, so many, have the texts of due steps, and the bytes that are reached aren't
-- consistent
pub record IsShort (spec : Spec) (choice : Choice) (layout : Layout) (image : List ℕ)
    (log : List Entry) (count : ℕ) : Type 0 where
  pub count_is : count ≡ length log
  pub reached : List ℕ
  pub replayed : IsReplayed spec choice layout image log (length log) reached
  pub unfinished : IsConsistent spec layout reached → ⊥

-- all entries have the texts of due steps, and the bytes that are reached are consistent, but
-- others than these: they differ first at the place
pub record IsUnlikeFixed (spec : Spec) (choice : Choice) (layout : Layout) (image : List ℕ)
    (log : List Entry) (fixed : List ℕ) (place : ℕ) : Type 0 where
  pub reached : List ℕ
  pub replayed : IsReplayed spec choice layout image log (length log) reached
  pub consistent : IsConsistent spec layout reached
  pub differs : IsFirstDifference fixed reached place

-- why the log isn't that of a repair from the image to the fixed bytes; want of memory says nothing
-- of it
abbrev pub IsAuditFault :
    Spec → Choice → Layout → List ℕ → List Entry → List ℕ → AuditFault → Type 0
IsAuditFault spec choice layout image log fixed (faults.Entry number) =
    IsFirstUnlike spec choice layout image log number
IsAuditFault spec choice layout image log fixed (faults.Short count) =
    IsShort spec choice layout image log count
IsAuditFault spec choice layout image log fixed (faults.Fixed place) =
    IsUnlikeFixed spec choice layout image log fixed place
IsAuditFault spec choice layout image log fixed faults.NoMemory = Unit {0}

-- the bytes that some of the first steps lead to
abbrev pub IsPartlyReplayed :
    Spec → Choice → Layout → List ℕ → List Entry → List ℕ → Type 0
IsPartlyReplayed spec choice layout image log reached =
    (count : ℕ) × IsReplayed spec choice layout image log count reached
