-- A report has no wrong line.
use Rattle.std.proofs.Common.{◌≡◌, ◌<◌, ◌+◌, ◌∙◌, ℕ, List, [], ◌∷◌, Some, length, take, slice_get, refl, sym, ap, subst, arith}
use Rattle.std.specs.Prelude.{Result, Ok, Err, IfErr, IsErrAnd}
use Rattle.dsr_ir.specs.declared.declarations.Spec.{Spec}
use Rattle.dsr_report_read.proofs.FirstNamed.{formed}
use Rattle.dsr_report_read.proofs.Fronts.{line_kind}
use Rattle.dsr_report_read.specs.Forms.{AreLines, IsFirstWrong, IsNext, IsReportOf}
use Rattle.dsr_report_read.specs.Lines.{counted, kind_of, line_text, line_texts, moved, start, state_after}
use Rattle.dsr_report_read.specs.Reads.{Tells}
use Rattle.dsr_report_read.specs.declared.faults.ReadFault.{ReadFault}
use Rattle.dsr_report_read.specs.declared.faults.ReadFault.TheVariants as faults
use Rattle.dsr_report_read.specs.declared.lines.Kind.{Kind}
use Rattle.dsr_report_read.specs.declared.lines.Kind.TheVariants as kinds
use Rattle.dsr_report_read.specs.declared.lines.Line.{Line}
use Rattle.dsr_report_read.specs.declared.lines.Line.TheVariants as lines
use Rattle.dsr_report_read.specs.declared.lines.State.{State}

-- a line counts by its kind
abbrev counted_by : ℕ → Kind → ℕ
counted_by count kinds.Update = count + 1
counted_by count kind = count

by_kind : (count : ℕ) (line : Line) → counted count line ≡ counted_by count (kind_of line)
by_kind count (lines.Update h) = refl
by_kind count (lines.Reset e) = refl
by_kind count (lines.Set x) = refl
by_kind count (lines.Byte b) = refl
by_kind count lines.End = refl

same_moved : (s : State) (a b : Line) → kind_of a ≡ kind_of b → moved s a ≡ moved s b
same_moved s a b same =
    let count : counted s.count a ≡ counted s.count b = by_kind s.count a ∙ (ap (counted_by s.count) same ∙ sym (by_kind s.count b)) in
    λ i. record { count = count i; last = Some (same i) }

module _ (spec : Spec) where
  -- lines of the form, which are all that there are, against some of them behind which none may stand
  apart : (before all : List Line) (s : State) (texts : List (List ℕ)) → AreLines spec s all → texts ≡ line_texts spec s all → (state_after s all).last ≡ Some kinds.End
      → take (length before) texts ≡ line_texts spec s before
      → ((line : Line) → IsNext spec (state_after s before) line → slice_get texts (length before) ≡ Some (line_text spec (state_after s before).count line) → ⊥)
      → ((state_after s before).last ≡ Some kinds.End → length before < length texts) → ⊥
  apart [] [] s texts are texts_are ended front wrong unended =
      let some = unended ended in
      let none = ap length texts_are in
      omega (arith, some, none)
  apart [] (b ∷ all) s texts are texts_are ended front wrong unended = wrong b are.0 (ap (λ ts. slice_get ts 0) texts_are)
  apart (a ∷ before) [] s texts are texts_are ended front wrong unended =
      let e : take (length (a ∷ before)) [] ≡ line_texts spec s (a ∷ before) = ap (take (length (a ∷ before))) (sym texts_are) ∙ front in
      absurd cc
  apart (a ∷ before) (b ∷ all) s texts are texts_are ended front wrong unended =
      let rest = line_texts spec (moved s b) all in
      let e : line_text spec s.count b ∷ take (length before) rest ≡ line_text spec s.count a ∷ line_texts spec (moved s a) before = ap (take (length (a ∷ before))) (sym texts_are) ∙ front in
      let first : line_text spec s.count b ≡ line_text spec s.count a = cc in
      let others : take (length before) rest ≡ line_texts spec (moved s a) before = cc in
      let same : moved s a ≡ moved s b = same_moved s a b (sym (line_kind spec s.count b a first)) in
      apart before all (moved s b) rest are.1 refl ended
      (others ∙ ap (λ t. line_texts spec t before) same)
      (λ line next is. wrong line (subst (λ t. IsNext spec (state_after t before) line) (sym same) next)
      (ap (λ ts. slice_get ts (length (a ∷ before))) texts_are ∙ (is ∙ ap (λ t. Some (line_text spec (state_after t before).count line)) (sym same))))
      (λ last.
      let more = unended (ap (λ t. (state_after t before).last) same ∙ last) in
      let many = ap length texts_are in
      omega (arith, more, many))

  pub never_wrong : (texts : List (List ℕ)) (all : List Line) (number : ℕ) → IsReportOf spec texts all → IsFirstWrong spec texts number → ⊥
  never_wrong texts all number its first =
      apart first.before all start texts its.are_lines its.texts_are its.ended first.behind.texts_are
      (λ line next is. first.behind.wrong line next.follows (formed spec line next.is_line) is) first.behind.unended

  -- so only want of memory keeps it from being read
  pub no_fault : {T : Type 0} (texts : List (List ℕ)) (all : List Line) → IsReportOf spec texts all → (fault : ReadFault) → Tells (IsFirstWrong spec texts) fault
      → (r : Result T ReadFault) → IsErrAnd r (λ e. e ≡ fault) → IfErr r (λ e. e ≡ faults.NoMemory)
  no_fault texts all its (faults.Line number) wrong r is = absurd (never_wrong texts all number its wrong)
  no_fault texts all its faults.NoMemory wrong (Ok x) is = tt
  no_fault texts all its faults.NoMemory wrong (Err e) is = is
