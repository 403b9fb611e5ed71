-- Where a report is that of a repair, its log is that of the run, but for fields that are named alike.
use Rattle.std.proofs.Common.{◌≡◌, ◌≢◌, ◌<◌, ◌+◌, ◌^◌, ◌∙◌, ℕ, zero, suc, List, [], ◌∷◌, None, Some, IsSomeAnd, length, slice_get, refl, sym, ap, subst, arith}
use Rattle.std.proofs.lemmas.Option.{same_Some}
use Rattle.bstr.specs.Text.{lines_of}
use Rattle.dsr_command_audit.specs.Audited.{IsAuditAnswer, IsReportOfRepair}
use Rattle.dsr_command_audit.specs.Audited.IsAuditAnswer.{audited, misread, unlike}
use Rattle.dsr_command_audit.specs.Logs.{IsLogOf}
use Rattle.dsr_command_audit.specs.ReportTexts.{audited_answer, undone_answer}
use Rattle.dsr_command_audit.specs.Undone.{IsUndoOf}
use Rattle.dsr_command_audit.specs.Undone.IsUndoOf.{back, stopped, misread as unread}
use Rattle.dsr_command_image.specs.Repaired.{Ending, Saves}
use Rattle.dsr_ir.specs.declared.declarations.Spec.{Spec}
use Rattle.dsr_ir.specs.declared.declarations.Structures.{Structures}
use Rattle.dsr_ir.specs.declared.layouts.Layout.{Layout}
use Rattle.dsr_language_laws.specs.Spellings.{HasSpelledNames}
use Rattle.dsr_plan_theory.specs.Plans.{IsPlan}
use Rattle.dsr_plan_theory.specs.declared.choices.Choice.{Choice}
use Rattle.dsr_repair_theory.specs.Runs.{IsRun}
use Rattle.dsr_repair_theory.specs.declared.entries.Entry.{Entry}
use Rattle.dsr_repair_theory.specs.declared.turns.Outcome.TheVariants.{Consistent}
use Rattle.dsr_replay.proofs.Outcomes.{never_both}
use Rattle.dsr_replay.specs.Audits.{AreTold, HaveOneText, IsAuditFault, IsAudited}
use Rattle.dsr_report.specs.Reports.{report_text}
use Rattle.dsr_report_laws.proofs.ReadAs.{as_many, one_text, text_of_entry}
use Rattle.dsr_report_laws.proofs.RunsBack.{lines_are, run_back}
use Rattle.dsr_report_laws.specs.Readings.{AreOfRun, AreReadAs}
use Rattle.dsr_report_read.proofs.Once.{never_wrong}
use Rattle.dsr_report_read.specs.Forms.{IsFirstWrong}
use Rattle.dsr_run_laws.proofs.RunOnce.{run_once}
use Rattle.dsr_script.specs.Scripts.{Answer}
use Rattle.dsr_step_theory.specs.Images.{IsImageOf}
use Rattle.dsr_undo_laws.proofs.Outcomes.{entries_never, entries_one}
use Rattle.dsr_undo_laws.proofs.Runs.{run_back as taken_back}
use Rattle.dsr_undo_laws.specs.TakingBack.{AreLinesBack, AreTakenBack}
use Rattle.dsr_undo_laws.specs.TakingBack.AreTakenBack.{none, then_entry}

module _ (spec : Spec) where
  -- entries with the same lines of bytes are taken back alike
  taken_alike : (run log : List Entry) (old new : List ℕ) → AreReadAs spec run log → AreTakenBack spec.base run old new → AreTakenBack spec.base log old new
  taken_alike [] [] old new read none = none
  taken_alike [] (f ∷ log) old new read taken = absurd read
  taken_alike (e ∷ run) [] old new read taken = absurd read
  taken_alike (e ∷ run) (f ∷ log) old new read (then_entry {middle = middle} _ rest lines) =
      then_entry f (taken_alike run log old middle read.1 rest) (subst (λ ls. AreLinesBack spec.base ls middle new) (sym read.0.bytes) lines)

  -- and have the same texts
  told_from : (run log : List Entry) (k : ℕ) (number : ℕ) (made : Entry) → AreReadAs spec run log → slice_get run k ≡ Some made → IsSomeAnd (slice_get log k) (λ told. HaveOneText spec number told made)
  told_from [] log k number made read is = absurd (let both : None ≡ Some made = is in cc)
  told_from (e ∷ run) [] k number made read is = absurd read
  told_from (e ∷ run) (f ∷ log) zero number made read is =
      subst (HaveOneText spec number f) (same_Some e made is) (text_of_entry spec number e f read.0)
  told_from (e ∷ run) (f ∷ log) (suc k) number made read is = told_from run log k number made read.1 is

  pub all_told : (run log : List Entry) → AreReadAs spec run log → AreTold spec log run
  all_told run log read = λ k made is. told_from run log k (k + 1) made read is

module _ (spec : Spec) (choice : Choice) (image report fixed : List ℕ) (run : List Entry) (names : HasSpelledNames spec) (plan : IsPlan spec choice) (few : length run < 2 ^ 64) (its : IsReportOfRepair spec choice image report fixed run) where
  of_run : AreOfRun spec run
  of_run = record { choice = choice; layout = its.layout; old = image; new = fixed; plan = plan; image = its.image_is; steps = its.run_is.steps }

  read_as : (log : List Entry) → IsLogOf spec report log → AreReadAs spec run log
  read_as log is = run_back spec names run of_run few report its.text log (is.lines, is.log_is, is.formed)

  never_misread : (number : ℕ) → IsFirstWrong spec (lines_of report) number → ⊥
  never_misread number wrong =
      let found = lines_are spec names run of_run few report its.text in
      never_wrong spec (lines_of report) found.0 number found.1 wrong

  -- the run is taken back to the image
  run_taken : AreTakenBack spec.base run fixed image
  run_taken = taken_back spec choice its.layout plan image fixed run its.image_is its.run_is.steps

  pub undone_once : (ending : Ending) → IsUndoOf spec fixed report ending → ending ≡ Saves image (undone_answer (length run))
  undone_once _ (back log new log_is taken) =
      let read = read_as log log_is in
      let same : new ≡ image = entries_one log fixed new image taken (taken_alike spec run log fixed image read run_taken) in
      let many : length log ≡ length run = as_many spec run log read in
      λ i. Saves (same i) (undone_answer (many i))
  undone_once _ (unread number wrong) = absurd (never_misread number wrong)
  undone_once _ (stopped log reached fault log_is refused) =
      absurd (entries_never 1 log fixed image reached fault (taken_alike spec run log fixed image (read_as log log_is) run_taken) refused)

  -- the log is audited
  log_audited : (layout : Layout) (log : List Entry) → IsImageOf spec layout image → IsLogOf spec report log → IsAudited spec choice layout image log fixed
  log_audited layout log image_is log_is =
      let read = read_as log log_is in
      let same : its.layout ≡ layout = same_Some its.layout layout (sym its.image_is.layout_is.numbers ∙ image_is.layout_is.numbers) in
      subst (λ l. IsAudited spec choice l image log fixed) same (record {
        replayed = record {
          run = run;
          count_is = sym (as_many spec run log read);
          steps = its.run_is.steps;
          told = all_told spec run log read;
        };
        consistent = its.run_is.ends;
      })

  -- two runs of one report are as long
  pub audited_once : (answer : Answer) → IsAuditAnswer spec choice image report fixed answer → answer ≡ audited_answer (length run)
  audited_once _ (audited other also) =
      let layouts : also.layout ≡ its.layout = same_Some also.layout its.layout (sym also.image_is.layout_is.numbers ∙ its.image_is.layout_is.numbers) in
      let same = run_once spec choice its.layout plan its.image_is.typed image fixed fixed other run Consistent Consistent its.image_is (subst (λ l. IsRun spec choice l image other fixed Consistent) layouts also.run_is) its.run_is in
      ap (λ (es : List Entry). audited_answer (length es)) same.0
  audited_once _ (misread number wrong) = absurd (never_misread number wrong)
  audited_once _ (unlike layout log fault image_is log_is known fault_is) =
      absurd (never_both spec choice layout plan image image_is log fixed fault known (log_audited layout log image_is log_is) fault_is)
