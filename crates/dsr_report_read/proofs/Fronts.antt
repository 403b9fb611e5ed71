-- The front of a line tells its kind.
use Rattle.std.proofs.Common.{◌≡◌, ◌++◌, ◌∙◌, ℕ, List, Some, None, refl, sym, ap, arith}
use Rattle.std.specs.Prelude.{codes, slice_index}
use Rattle.dsr_ir.specs.declared.declarations.Spec.{Spec}
use Rattle.dsr_report_read.specs.Lines.{kind_of, line_text}
use Rattle.dsr_report_read.specs.Reads.{Begins, IsKindOf}
use Rattle.dsr_report_read.specs.declared.lines.Kind.{Kind}
use Rattle.dsr_report_read.specs.declared.lines.Kind.TheVariants as kinds
use Rattle.dsr_report_read.specs.declared.lines.Line.{Line}
use Rattle.dsr_report_read.specs.declared.lines.Line.TheVariants as lines

abbrev pub front : Kind → List ℕ
front kinds.Update = codes "update "
front kinds.Reset = codes "  reset "
front kinds.Set = codes "  set "
front kinds.Byte = codes "  byte "
front kinds.End = codes "updates "

line_front : (spec : Spec) (count : ℕ) (line : Line) → Begins (line_text spec count line) (front (kind_of line))
line_front spec count (lines.Update head) = record { rest = _; is = refl }
line_front spec count (lines.Reset elem) = record { rest = _; is = refl }
line_front spec count (lines.Set set) = record { rest = _; is = refl }
line_front spec count (lines.Byte change) = record { rest = _; is = refl }
line_front spec count lines.End = record { rest = _; is = refl }

module _ (i : ℕ) (a b : List ℕ) (e : a ≡ b) where
  same_at : slice_index a i ≡ slice_index b i
  same_at = ap (λ t. slice_index t i) e

same_kind : (j k : Kind) (r s : List ℕ) → front j ++ r ≡ front k ++ s → j ≡ k
same_kind kinds.Update kinds.Update r s e = refl
same_kind kinds.Update kinds.Reset r s e = let x = same_at 0 _ _ e in absurd (omega (arith, x))
same_kind kinds.Update kinds.Set r s e = let x = same_at 0 _ _ e in absurd (omega (arith, x))
same_kind kinds.Update kinds.Byte r s e = let x = same_at 0 _ _ e in absurd (omega (arith, x))
same_kind kinds.Update kinds.End r s e = let x = same_at 6 _ _ e in absurd (omega (arith, x))
same_kind kinds.Reset kinds.Update r s e = let x = same_at 0 _ _ e in absurd (omega (arith, x))
same_kind kinds.Reset kinds.Reset r s e = refl
same_kind kinds.Reset kinds.Set r s e = let x = same_at 2 _ _ e in absurd (omega (arith, x))
same_kind kinds.Reset kinds.Byte r s e = let x = same_at 2 _ _ e in absurd (omega (arith, x))
same_kind kinds.Reset kinds.End r s e = let x = same_at 0 _ _ e in absurd (omega (arith, x))
same_kind kinds.Set kinds.Update r s e = let x = same_at 0 _ _ e in absurd (omega (arith, x))
same_kind kinds.Set kinds.Reset r s e = let x = same_at 2 _ _ e in absurd (omega (arith, x))
same_kind kinds.Set kinds.Set r s e = refl
same_kind kinds.Set kinds.Byte r s e = let x = same_at 2 _ _ e in absurd (omega (arith, x))
same_kind kinds.Set kinds.End r s e = let x = same_at 0 _ _ e in absurd (omega (arith, x))
same_kind kinds.Byte kinds.Update r s e = let x = same_at 0 _ _ e in absurd (omega (arith, x))
same_kind kinds.Byte kinds.Reset r s e = let x = same_at 2 _ _ e in absurd (omega (arith, x))
same_kind kinds.Byte kinds.Set r s e = let x = same_at 2 _ _ e in absurd (omega (arith, x))
same_kind kinds.Byte kinds.Byte r s e = refl
same_kind kinds.Byte kinds.End r s e = let x = same_at 0 _ _ e in absurd (omega (arith, x))
same_kind kinds.End kinds.Update r s e = let x = same_at 6 _ _ e in absurd (omega (arith, x))
same_kind kinds.End kinds.Reset r s e = let x = same_at 0 _ _ e in absurd (omega (arith, x))
same_kind kinds.End kinds.Set r s e = let x = same_at 0 _ _ e in absurd (omega (arith, x))
same_kind kinds.End kinds.Byte r s e = let x = same_at 0 _ _ e in absurd (omega (arith, x))
same_kind kinds.End kinds.End r s e = refl

pub kind_is : (kind : Kind) (text : List ℕ) → Begins text (front kind) → IsKindOf text (Some kind)
kind_is kind text begins = λ spec count line e.
    let its = line_front spec count line in
    same_kind (kind_of line) kind its.rest begins.rest (sym its.is ∙ (sym e ∙ begins.is))

pub no_kind : (text : List ℕ) → ((kind : Kind) → Begins text (front kind) → ⊥) → IsKindOf text None
no_kind text none = λ spec count line e.
    let its = line_front spec count line in
    none (kind_of line) (record { rest = its.rest; is = e ∙ its.is })

-- lines with one text are of one kind
pub line_kind : (spec : Spec) (count : ℕ) (a b : Line) → line_text spec count a ≡ line_text spec count b → kind_of a ≡ kind_of b
line_kind spec count a b e = kind_is (kind_of b) (line_text spec count b) (line_front spec count b) spec count a (sym e)
