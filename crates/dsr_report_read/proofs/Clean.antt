-- Each line of a report is one line.
use Rattle.std.proofs.Common.{◌≡◌, ◌<◌, ◌+◌, ◌^◌, ◌/◌, ◌%◌, ◌++◌, ◌==◌, ℕ, zero, suc, Bool, true, false, cond, List, [], ◌∷◌, length, refl, arith}
use Rattle.std.specs.Prelude.{codes, decimal, slice_index}
use Rattle.hex.specs.Hex.{encode_with, lower_digits}
use Rattle.dsr_answers.specs.Texts.{binding_text, constraint_name, element_text, field_name, pool_name}
use Rattle.dsr_ir.specs.declared.constraints.Quant.{Quant}
use Rattle.dsr_ir.specs.declared.constraints.Quant.TheVariants as quants
use Rattle.dsr_ir.specs.declared.declarations.Spec.{Spec}
use Rattle.dsr_ir.specs.declared.tuples.Binding.{Binding}
use Rattle.dsr_ir.specs.declared.tuples.Binding.TheVariants as bindings
use Rattle.dsr_ir.specs.declared.tuples.Element.{Element}
use Rattle.dsr_meaning.specs.Typed.{IsTyped}
use Rattle.dsr_repair_theory.specs.declared.entries.ByteChange.{ByteChange}
use Rattle.dsr_repair_theory.specs.declared.entries.CellSet.{CellSet}
use Rattle.dsr_report.specs.Reports.{byte_line, byte_text, end_line, index_text, place_set, place_text, reset_line, set_line, update_line}
use Rattle.dsr_report_read.proofs.ReadBack.{put_left}
use Rattle.dsr_report_read.proofs.Sole.{small_head}
use Rattle.dsr_report_read.specs.Forms.{AreLines, IsChange, IsHead, IsLine, IsRecord, IsRecordOf, IsSet}
use Rattle.dsr_report_read.specs.Grouped.{entries_of}
use Rattle.dsr_report_read.specs.Lines.{bare, counted, line_text, line_texts, moved}
use Rattle.dsr_report_read.specs.declared.lines.Head.{Head}
use Rattle.dsr_report_read.specs.declared.lines.Line.{Line}
use Rattle.dsr_report_read.specs.declared.lines.Line.TheVariants as lines
use Rattle.dsr_report_read.specs.declared.lines.State.{State}
use Rattle.dsr_language_laws.specs.Spellings.{HasSpelledNames}
use Rattle.dsr_syntax_theory.specs.Tokens.{every, is_in_line}
use Rattle.dsr_report_read.proofs.Spelled.{constraint_word, field_word, pool_word}
use Rattle.dsr_report_read.proofs.Splits.{AreOneLine, IsOneLine}
use Rattle.dsr_report_read.proofs.Words.{IsClean, all_of, both_of, number_clean, passes_both, word_clean}

-- ---- pieces

abbrev AreClean : List (List ℕ) → Type 0
AreClean [] = Unit {0}
AreClean (piece ∷ pieces) = IsClean piece × AreClean pieces

row_clean : (text : List ℕ) (pieces : List (List ℕ)) → IsClean text → AreClean pieces → IsClean (put_left text pieces)
row_clean text [] first rest = first
row_clean text (piece ∷ pieces) first rest = row_clean (text ++ piece) pieces (passes_both is_in_line text piece first rest.0) rest.1

item_passes : (test : ℕ → Bool) (xs : List ℕ) (k : ℕ) → every test xs ≡ true → test 0 ≡ true → test (slice_index xs k) ≡ true
item_passes test [] k all none = none
item_passes test (x ∷ xs) zero all none = (both_of (test x) (every test xs) all).0
item_passes test (x ∷ xs) (suc k) all none = item_passes test xs k (both_of (test x) (every test xs) all).1 none

byte_clean : (byte : ℕ) → IsClean (byte_text byte)
unfolding encode_with
byte_clean byte =
    let digit : (k : ℕ) → is_in_line (slice_index lower_digits k) ≡ true = λ k. item_passes is_in_line lower_digits k refl refl in
    all_of (is_in_line (slice_index lower_digits (byte / 16))) (every is_in_line (slice_index lower_digits (byte % 16) ∷ [])) (digit (byte / 16))
    (all_of (is_in_line (slice_index lower_digits (byte % 16))) true (digit (byte % 16)) refl)

-- ---- lines

wide : (n : ℕ) → n < 2 ^ 32 → n + 1 < 2 ^ 64
wide n small = omega (arith, small)

place_clean : (head : Head) → head.conj < 2 ^ 32 → head.literal < 2 ^ 32 → IsClean (place_text (bare head))
place_clean head conj literal =
    row_clean (decimal (head.conj + 1)) (codes "." ∷ decimal (head.literal + 1) ∷ [])
    (number_clean (head.conj + 1) (wide head.conj conj)) (refl, (number_clean (head.literal + 1) (wide head.literal literal), tt))

index_clean : (set : CellSet) → set.index < 2 ^ 64 → IsClean (index_text set)
index_clean set small = elim set.path.indexed as (λ b. IsClean (cond b ((codes "[" ++ decimal set.index) ++ codes "]") [])) [
  | true ↦ row_clean (codes "[") (decimal set.index ∷ codes "]" ∷ []) refl (number_clean set.index small, (refl, tt))
  | false ↦ refl
]

change_line : (change : ByteChange) → IsChange change → IsOneLine (byte_line change)
change_line change its = record {
  body = put_left (codes "  byte ") (decimal change.place ∷ codes " " ∷ byte_text change.old ∷ codes " " ∷ byte_text change.new ∷ []);
  is = refl;
  clean = row_clean (codes "  byte ") (decimal change.place ∷ codes " " ∷ byte_text change.old ∷ codes " " ∷ byte_text change.new ∷ []) refl
      (number_clean change.place its.place, (refl, (byte_clean change.old, (refl, (byte_clean change.new, tt)))));
}

last_line : (count : ℕ) → count < 2 ^ 64 → IsOneLine (end_line count)
last_line count small = record {
  body = codes "updates " ++ decimal count;
  is = refl;
  clean = passes_both is_in_line (codes "updates ") (decimal count) refl (number_clean count small);
}

module _ (spec : Spec) (names : HasSpelledNames spec) where
  element_clean : (elem : Element) → IsRecord spec elem → IsClean (element_text spec elem)
  element_clean elem its =
      let small = its.small in
      elim (elem.pool == 0) as (λ b. IsClean (cond b (codes "head") (((pool_name spec elem.pool ++ codes "[") ++ decimal elem.slot) ++ codes "]"))) [
        | true ↦ refl
        | false ↦ row_clean (pool_name spec elem.pool) (codes "[" ∷ decimal elem.slot ∷ codes "]" ∷ []) (word_clean (pool_name spec elem.pool) (pool_word spec names elem.pool))
            (refl, (number_clean elem.slot (omega (arith, small)), (refl, tt)))
      ]

  binding_clean : (quant : Quant) (binding : Binding) → IsRecordOf spec quant binding → IsClean (binding_text spec binding)
  binding_clean quants.Once bindings.Once its = refl
  binding_clean (quants.Each set) (bindings.Each elem) its = element_clean elem its.0
  binding_clean (quants.Pairs rel) (bindings.Pair source target) its =
      row_clean (codes "<") (element_text spec source ∷ codes "," ∷ element_text spec target ∷ codes ">" ∷ []) refl
      (element_clean source its.0, (refl, (element_clean target its.1, (refl, tt))))
  binding_clean quants.Once (bindings.Each elem) its = absurd its
  binding_clean quants.Once (bindings.Pair source target) its = absurd its
  binding_clean (quants.Each set) bindings.Once its = absurd its
  binding_clean (quants.Each set) (bindings.Pair source target) its = absurd its
  binding_clean (quants.Pairs rel) bindings.Once its = absurd its
  binding_clean (quants.Pairs rel) (bindings.Each elem) its = absurd its

  head_line : IsTyped spec → (count : ℕ) (head : Head) → count < 2 ^ 64 → IsHead spec head → IsOneLine (update_line spec count (bare head))
  head_line typed count head few its =
      let small = small_head spec typed head its in
      let pieces : List (List ℕ) = decimal count ∷ codes " " ∷ constraint_name spec head.constraint ∷ codes " " ∷ binding_text spec head.binding ∷ codes " " ∷ place_text (bare head) ∷ codes " " ∷ decimal (head.rule + 1) ∷ [] in
      record {
        body = put_left (codes "update ") pieces;
        is = refl;
        clean = row_clean (codes "update ") pieces refl (
          number_clean count few,
          (
            refl,
            (
              word_clean (constraint_name spec head.constraint) (constraint_word spec names head.constraint),
              (
                refl,
                (binding_clean its.constraint.quant head.binding its.binding, (refl, (place_clean head small.conj small.literal, (refl, (number_clean (head.rule + 1) (wide head.rule small.rule), tt))))),
              ),
            ),
          ),
        );
      }

  record_line : (elem : Element) → IsRecord spec elem → IsOneLine (reset_line spec elem)
  record_line elem its = record {
    body = codes "  reset " ++ element_text spec elem;
    is = refl;
    clean = passes_both is_in_line (codes "  reset ") (element_text spec elem) refl (element_clean elem its);
  }

  place_set_clean : (set : CellSet) → IsSet spec set → IsClean (place_set spec set)
  place_set_clean set its =
      let name = field_name spec set.path.field.structure set.path.field.field in
      row_clean (element_text spec set.elem) (codes "." ∷ name ∷ index_text set ∷ []) (element_clean set.elem its.elem)
      (refl, (word_clean name (field_word spec names set.path.field its.field its.is_field.declared its.is_field.named), (index_clean set its.index, tt)))

  value_line : (set : CellSet) → IsSet spec set → IsOneLine (set_line spec set)
  value_line set its =
      let pieces : List (List ℕ) = place_set spec set ∷ codes " " ∷ decimal set.old ∷ codes " " ∷ decimal set.new ∷ [] in
      record {
        body = put_left (codes "  set ") pieces;
        is = refl;
        clean = row_clean (codes "  set ") pieces refl
            (place_set_clean set its, (refl, (number_clean set.old its.old, (refl, (number_clean set.new its.new, tt)))));
      }

  one_line : IsTyped spec → (count : ℕ) (line : Line) → counted count line < 2 ^ 64 → IsLine spec line → IsOneLine (line_text spec count line)
  one_line typed count (lines.Update head) few its = head_line typed (count + 1) head few its
  one_line typed count (lines.Reset elem) few its = record_line elem its.0
  one_line typed count (lines.Set set) few its = value_line set its.is_set
  one_line typed count (lines.Byte change) few its = change_line change its
  one_line typed count lines.End few its = last_line count few

-- ---- lines in a row

-- updates are counted
pub all_counted : (count : ℕ) (line : Line) (rest : List Line) → counted count line + length (entries_of rest) ≡ count + length (entries_of (line ∷ rest))
all_counted count (lines.Update head) rest = omega arith
all_counted count (lines.Reset elem) rest = refl
all_counted count (lines.Set set) rest = refl
all_counted count (lines.Byte change) rest = refl
all_counted count lines.End rest = refl

module _ (spec : Spec) (typed : IsTyped spec) (names : HasSpelledNames spec) where
  pub each_is_one : (s : State) (ls : List Line) → s.count + length (entries_of ls) < 2 ^ 64 → AreLines spec s ls → AreOneLine (line_texts spec s ls)
  each_is_one s [] few are = tt
  each_is_one s (line ∷ rest) few are =
      let many = all_counted s.count line rest in (
        one_line spec names typed s.count line (omega (arith, many, few)) are.0.is_line,
        each_is_one (moved s line) rest (omega (arith, many, few)) are.1,
      )
