-- The report of entries is that of no others.
use Rattle.std.proofs.Common.{◌≡◌, ◌<◌, ◌+◌, ◌^◌, ◌∙◌, ℕ, List, length, sym, ap, subst, arith}
use Rattle.std.specs.Prelude.{Result, Ok, Err, IfErr, IsErrAnd}
use Rattle.bstr.specs.Text.{lines_of}
use Rattle.dsr_ir.specs.declared.declarations.Spec.{Spec}
use Rattle.dsr_meaning.specs.Typed.{IsTyped}
use Rattle.dsr_repair_theory.specs.declared.entries.Entry.{Entry}
use Rattle.dsr_report.specs.Reports.{report_text}
use Rattle.dsr_report_read.proofs.Whole.{joined_is}
use Rattle.dsr_report_read.specs.Forms.{IsReportOf, IsReported}
use Rattle.dsr_report_read.specs.Grouped.{entries_of}
use Rattle.dsr_report_read.specs.Lines.{line_texts, start}
use Rattle.dsr_report_read.specs.declared.lines.Line.{Line}
use Rattle.dsr_language_laws.specs.Spellings.{HasSpelledNames}
use Rattle.dsr_report_read.proofs.Clean.{each_is_one}
use Rattle.dsr_report_read.proofs.Same.{same_lines}
use Rattle.dsr_report_read.proofs.Splits.{lines_split}
use Rattle.dsr_report_read.proofs.Told.{entries_back, lines_told, told_end, told_lines}

module _ (spec : Spec) (typed : IsTyped spec) (names : HasSpelledNames spec) (entries : List Entry) (reported : IsReported spec entries) (few : length entries < 2 ^ 64) (text : List ℕ) (text_is : text ≡ report_text spec entries) where
  few_lines : 0 + length (entries_of (lines_told entries)) < 2 ^ 64
  few_lines = let many = ap length (entries_back entries) in omega (arith, many, few)

  -- its lines are those which tell the entries
  pub told_back : IsReportOf spec (lines_of text) (lines_told entries)
  told_back =
      let ls = lines_told entries in
      let are = told_lines spec entries reported in
      let end = told_end entries in
      record {
        are_lines = are;
        texts_are = ap lines_of (text_is ∙ (ap (report_text spec) (sym (entries_back entries)) ∙ sym (joined_is spec ls are end)))
            ∙ lines_split (line_texts spec start ls) (each_is_one spec typed names start ls few_lines are);
        ended = end;
      }

  -- and no others
  pub one_log : (ls : List Line) → IsReportOf spec (lines_of text) ls → entries_of ls ≡ entries
  one_log ls its =
      let told = told_back in
      ap entries_of (sym (same_lines spec typed names start (lines_told entries) ls few_lines told.are_lines its.are_lines (sym told.texts_are ∙ its.texts_are)))
      ∙ entries_back entries

  pub log_back : (log : List Entry) → ((ls : List Line) × (log ≡ entries_of ls) × IsReportOf spec (lines_of text) ls) → log ≡ entries
  log_back log its = its.1 ∙ one_log its.0 its.2

pub err_told : {T E : Type 0} (P : E → Type 0) (r : Result T E) → IsErrAnd r P → IfErr r P
err_told P (Ok x) is = tt
err_told P (Err e) is = is

-- what holds of a fault holds of the result that has it
pub same_fault : {T E : Type 0} (P : E → Type 0) (fault : E) (r : Result T E) → P fault → IsErrAnd r (λ e. e ≡ fault) → IfErr r P
same_fault P fault (Ok x) its is = tt
same_fault P fault (Err e) its is = subst P (sym is) its
