-- The report of a run is read as that of its entries, with the first field of each name.
use Rattle.std.proofs.Common.{◌≡◌, ◌<◌, ◌^◌, ◌∙◌, ℕ, List, length, sym, subst, arith}
use Rattle.bstr.specs.Text.{lines_of}
use Rattle.dsr_ir.specs.declared.declarations.Spec.{Spec}
use Rattle.dsr_meaning.specs.Typed.{IsTyped}
use Rattle.dsr_report_read.proofs.Told.{lines_told}
use Rattle.dsr_report_read.proofs.Unique.{log_back, told_back}
use Rattle.dsr_repair_theory.specs.declared.entries.Entry.{Entry}
use Rattle.dsr_report.specs.Reports.{report_text}
use Rattle.dsr_report_read.specs.Forms.{IsReportOf}
use Rattle.dsr_report_read.specs.Grouped.{entries_of}
use Rattle.dsr_report_read.specs.declared.lines.Line.{Line}
use Rattle.dsr_language_laws.specs.Spellings.{HasSpelledNames}
use Rattle.dsr_report_laws.proofs.EntriesTold.{run_formed}
use Rattle.dsr_report_laws.proofs.ReadAs.{AreEntriesRead, as_many, entries_read, one_text}
use Rattle.dsr_report_laws.specs.Readings.{AreOfRun, AreReadAs}

module _ (spec : Spec) (names : HasSpelledNames spec) (entries : List Entry) (run : AreOfRun spec entries) (few : length entries < 2 ^ 64) (text : List ℕ) (text_is : text ≡ report_text spec entries) where
  typed : IsTyped spec
  typed = run.image.typed

  found : (told : List Entry) × AreEntriesRead spec entries told
  found = entries_read spec entries (run_formed spec run.choice run.layout run.plan run.old run.new entries run.image run.steps)

  few_told : length found.0 < 2 ^ 64
  few_told = let many = as_many spec entries found.0 found.1.read in omega (arith, many, few)

  text_told : text ≡ report_text spec found.0
  text_told = text_is ∙ sym (one_text spec entries found.0 found.1.read)

  pub lines_are : (lines : List Line) × IsReportOf spec (lines_of text) lines
  lines_are = (lines_told found.0, told_back spec typed names found.0 found.1.reported few_told text text_told)

  pub run_back : (log : List Entry) → ((lines : List Line) × (log ≡ entries_of lines) × IsReportOf spec (lines_of text) lines) → AreReadAs spec entries log
  run_back log its =
      subst (AreReadAs spec entries) (sym (log_back spec typed names found.0 found.1.reported few_told text text_told log its)) found.1.read
