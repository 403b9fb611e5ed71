-- What a report that is read may tell.
use Rattle.std.proofs.Common.{◌<◌, ℕ, zero, suc, List, [], ◌∷◌, All, drop, length}
use Rattle.std.specs.Prelude.{IfSome}
use Rattle.std.proofs.lemmas.List.Elements.{All-cons, All-nil}
use Rattle.dsr_ir.specs.declared.declarations.Spec.{Spec}
use Rattle.dsr_report_read.specs.Forms.{AreLines, IsChange, IsFirstSet, IsLine, IsRecord, IsReportOf, IsReported, IsTold}
use Rattle.dsr_report_read.specs.Grouped.{behind_reset, change_of, entries_of, reset_ahead, set_of, sets_ahead, told_ahead}
use Rattle.dsr_report_read.specs.Lines.{moved, start}
use Rattle.dsr_report_read.specs.declared.lines.Line.{Line}
use Rattle.dsr_report_read.specs.declared.lines.Line.TheVariants as lines
use Rattle.dsr_report_read.specs.declared.lines.State.{State}

module _ (spec : Spec) where
  -- each line is one of the form
  abbrev AreOfForm : List Line → Type 0
  AreOfForm [] = Unit {0}
  AreOfForm (line ∷ rest) = IsLine spec line × AreOfForm rest

  of_form : (s : State) (ls : List Line) → AreLines spec s ls → AreOfForm ls
  of_form s [] are = tt
  of_form s (line ∷ rest) are = (are.0.is_line, of_form (moved s line) rest are.1)

  reset_told : (ls : List Line) → AreOfForm ls → IfSome (reset_ahead ls) (λ elem. IsRecord spec elem × (0 < elem.pool))
  reset_told [] are = tt
  reset_told (lines.Update h ∷ rest) are = tt
  reset_told (lines.Reset e ∷ rest) are = are.0
  reset_told (lines.Set x ∷ rest) are = tt
  reset_told (lines.Byte b ∷ rest) are = tt
  reset_told (lines.End ∷ rest) are = tt

  rest_told : (ls : List Line) → AreOfForm ls → AreOfForm (behind_reset ls)
  rest_told [] are = tt
  rest_told (lines.Update h ∷ rest) are = are
  rest_told (lines.Reset e ∷ rest) are = are.1
  rest_told (lines.Set x ∷ rest) are = are
  rest_told (lines.Byte b ∷ rest) are = are
  rest_told (lines.End ∷ rest) are = are

  left_told : (n : ℕ) (ls : List Line) → AreOfForm ls → AreOfForm (drop n ls)
  left_told zero ls are = are
  left_told (suc n) [] are = tt
  left_told (suc n) (line ∷ rest) are = left_told n rest are.1

  sets_told : (ls : List Line) → AreOfForm ls → All (IsFirstSet spec) (told_ahead set_of ls)
  sets_told [] are = All-nil (IsFirstSet spec)
  sets_told (lines.Update h ∷ rest) are = All-nil (IsFirstSet spec)
  sets_told (lines.Reset e ∷ rest) are = All-nil (IsFirstSet spec)
  sets_told (lines.Set x ∷ rest) are = All-cons (IsFirstSet spec) x (told_ahead set_of rest) are.0 (sets_told rest are.1)
  sets_told (lines.Byte b ∷ rest) are = All-nil (IsFirstSet spec)
  sets_told (lines.End ∷ rest) are = All-nil (IsFirstSet spec)

  bytes_told : (ls : List Line) → AreOfForm ls → All IsChange (told_ahead change_of ls)
  bytes_told [] are = All-nil IsChange
  bytes_told (lines.Update h ∷ rest) are = All-nil IsChange
  bytes_told (lines.Reset e ∷ rest) are = All-nil IsChange
  bytes_told (lines.Set x ∷ rest) are = All-nil IsChange
  bytes_told (lines.Byte b ∷ rest) are = All-cons IsChange b (told_ahead change_of rest) are.0 (bytes_told rest are.1)
  bytes_told (lines.End ∷ rest) are = All-nil IsChange

  all_told : (ls : List Line) → AreOfForm ls → IsReported spec (entries_of ls)
  all_told [] are = All-nil (IsTold spec)
  all_told (lines.Update h ∷ rest) are =
      let behind = rest_told rest are.1 in
      All-cons (IsTold spec) _ (entries_of rest)
      (record {
        head = are.0;
        reset = reset_told rest are.1;
        sets = sets_told (behind_reset rest) behind;
        bytes = bytes_told (drop (length (sets_ahead (behind_reset rest))) (behind_reset rest)) (left_told (length (sets_ahead (behind_reset rest))) (behind_reset rest) behind);
      })
      (all_told rest are.1)
  all_told (lines.Reset e ∷ rest) are = all_told rest are.1
  all_told (lines.Set x ∷ rest) are = all_told rest are.1
  all_told (lines.Byte b ∷ rest) are = all_told rest are.1
  all_told (lines.End ∷ rest) are = all_told rest are.1

  pub entries_told : (texts : List (List ℕ)) (ls : List Line) → IsReportOf spec texts ls → IsReported spec (entries_of ls)
  entries_told texts ls its = all_told ls (of_form start ls its.are_lines)
