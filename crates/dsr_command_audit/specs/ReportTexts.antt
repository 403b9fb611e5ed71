-- What is told of reports.
use Rattle.std.specs.Prelude.{◌++◌, ℕ, List, [], codes, decimal}
use Rattle.dsr_replay.specs.declared.faults.AuditFault.{AuditFault}
use Rattle.dsr_replay.specs.declared.faults.AuditFault.TheVariants as audits
use Rattle.dsr_script.specs.Scripts.{Answer}
use Rattle.dsr_script.specs.declared.status.Verdict.TheVariants as verdicts
use Rattle.dsr_undo_laws.specs.declared.faults.UndoFault.{UndoFault}
use Rattle.dsr_undo_laws.specs.declared.faults.UndoFault.TheVariants as undos

-- a report is refused; the words say why
abbrev pub refused_answer : List ℕ → Answer
refused_answer words = record {
  verdict = verdicts.ReportRefused;
  text = codes "report " ++ words ++ codes "\n";
}

-- the line with this number, counted from 1, is the first that isn't of the form
abbrev pub line_answer : ℕ → Answer
line_answer number = refused_answer (codes "1 " ++ decimal number)

-- the number of the kind, and where it is
abbrev pub audit_words : AuditFault → List ℕ
audit_words (audits.Entry number) = codes "2 " ++ decimal number
audit_words (audits.Short count) = codes "3 " ++ decimal count
audit_words (audits.Fixed place) = codes "4 " ++ decimal place
audit_words audits.NoMemory = []

-- so of what is taken back: with the entry and the place
abbrev pub undo_words : UndoFault → List ℕ
undo_words (undos.Byte entry place) = codes "5 " ++ decimal entry ++ codes " " ++ decimal place
undo_words (undos.FixedField entry place) =
    codes "6 " ++ decimal entry ++ codes " " ++ decimal place

-- a report of so many entries is that of a repair
abbrev pub audited_answer : ℕ → Answer
audited_answer count = record {
  verdict = verdicts.Ok;
  text = codes "audited " ++ decimal count ++ codes "\n";
}

-- so many entries were taken back
abbrev pub undone_answer : ℕ → Answer
undone_answer count = record {
  verdict = verdicts.Ok;
  text = codes "undone " ++ decimal count ++ codes "\n";
}
