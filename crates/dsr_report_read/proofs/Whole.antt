-- The text of a report, line by line.
use Rattle.std.proofs.Common.{◌≡◌, ◌≤◌, ◌<◌, ◌+◌, ◌++◌, ◌∙◌, ℕ, zero, suc, IsTrue, List, [], ◌∷◌, Option, None, Some, length, take, drop, refl, sym, ap, subst, arith, append_assoc, append-nil}
use Rattle.std.specs.List.{flat_map}
use Rattle.std.specs.Option.{option_map_or}
use Rattle.std.proofs.lemmas.List.{length-drop, take-append-drop}
use Rattle.bstr.proofs.lemmas.LineLemmas.{line_len-bounds, lines-nil, lines-step}
use Rattle.bstr.specs.Text.{line_len, lines_of}
use Rattle.dsr_ir.specs.declared.declarations.Spec.{Spec}
use Rattle.dsr_meaning.specs.Lists.{each_at}
use Rattle.dsr_report.specs.Reports.{byte_line, end_line, entry_text, report_text, reset_line, set_line, update_line}
use Rattle.dsr_report_read.specs.Forms.{AreLines, IsReportOf}
use Rattle.dsr_report_read.specs.Grouped.{behind_reset, bytes_ahead, entries_of, entry_of, reset_ahead, sets_ahead}
use Rattle.dsr_report_read.specs.Lines.{bare, kind_of, line_texts, may_follow, moved, start, state_after}
use Rattle.dsr_report_read.specs.declared.lines.Kind.{Kind}
use Rattle.dsr_report_read.specs.declared.lines.Kind.TheVariants as kinds
use Rattle.dsr_report_read.specs.declared.lines.Line.{Line}
use Rattle.dsr_report_read.specs.declared.lines.Line.TheVariants as lines
use Rattle.dsr_report_read.specs.declared.lines.State.{State}

abbrev pub joined : List (List ℕ) → List ℕ
joined texts = flat_map (λ t. t) texts

lines_joined : (fuel : ℕ) (text : List ℕ) → length text ≤ fuel → joined (lines_of text) ≡ text
lines_joined fuel [] le = ap joined lines-nil
lines_joined zero (b ∷ rest) le = absurd (omega (arith, le))
lines_joined (suc fuel) (b ∷ rest) le =
    let text = b ∷ rest in
    let some : 0 < length text = omega arith in
    let bounds = line_len-bounds text some in
    let low = bounds.0 in
    let shorter = length-drop (line_len text) text in
    ap joined (lines-step text some)
    ∙ (ap (λ z. take (line_len text) text ++ z) (lines_joined fuel (drop (line_len text) text) (omega (arith, le, low, shorter)))
    ∙ take-append-drop (line_len text) text)

module _ (spec : Spec) where
  -- ---- what is left of an entry

  abbrev after_sets : List Line → List ℕ
  after_sets ls = flat_map byte_line (bytes_ahead ls)

  abbrev after_reset : List Line → List ℕ
  after_reset ls = flat_map (set_line spec) (sets_ahead ls) ++ after_sets (drop (length (sets_ahead ls)) ls)

  abbrev after_update : List Line → List ℕ
  after_update ls = option_map_or (reset_line spec) (reset_ahead ls) [] ++ after_reset (behind_reset ls)

  abbrev inner : Option Kind → List Line → List ℕ
  inner None ls = []
  inner (Some kinds.Update) ls = after_update ls
  inner (Some kinds.Reset) ls = after_reset ls
  inner (Some kinds.Set) ls = after_reset ls
  inner (Some kinds.Byte) ls = after_sets ls
  inner (Some kinds.End) ls = []

  -- and of the report
  abbrev tail : ℕ → List Line → List ℕ
  tail count ls = each_at (entry_text spec) (count + 1) (entries_of ls) ++ end_line (count + length (entries_of ls))

  no_update : (last : Option Kind) (line : Line) (rest : List Line) → kind_of line ≡ kinds.Update → inner last (line ∷ rest) ≡ []
  no_update last (lines.Reset e) rest is = absurd cc
  no_update last (lines.Set x) rest is = absurd cc
  no_update last (lines.Byte b) rest is = absurd cc
  no_update last lines.End rest is = absurd cc
  no_update None (lines.Update h) rest is = refl
  no_update (Some kinds.Update) (lines.Update h) rest is = refl
  no_update (Some kinds.Reset) (lines.Update h) rest is = refl
  no_update (Some kinds.Set) (lines.Update h) rest is = refl
  no_update (Some kinds.Byte) (lines.Update h) rest is = refl
  no_update (Some kinds.End) (lines.Update h) rest is = refl

  no_end : (last : Option Kind) (rest : List Line) → inner last (lines.End ∷ rest) ≡ []
  no_end None rest = refl
  no_end (Some kinds.Update) rest = refl
  no_end (Some kinds.Reset) rest = refl
  no_end (Some kinds.Set) rest = refl
  no_end (Some kinds.Byte) rest = refl
  no_end (Some kinds.End) rest = refl

  set_first : (x : _) (rest : List Line) → after_reset (lines.Set x ∷ rest) ≡ set_line spec x ++ after_reset rest
  set_first x rest = append_assoc (set_line spec x) (flat_map (set_line spec) (sets_ahead rest)) (after_sets (drop (length (sets_ahead rest)) rest))

  inner_reset : (last : Option Kind) (e : _) (rest : List Line) → IsTrue (may_follow last kinds.Reset) → inner last (lines.Reset e ∷ rest) ≡ reset_line spec e ++ after_reset rest
  inner_reset None e rest t = absurd cc
  inner_reset (Some kinds.Update) e rest t = refl
  inner_reset (Some kinds.Reset) e rest t = absurd cc
  inner_reset (Some kinds.Set) e rest t = absurd cc
  inner_reset (Some kinds.Byte) e rest t = absurd cc
  inner_reset (Some kinds.End) e rest t = absurd cc

  inner_set : (last : Option Kind) (x : _) (rest : List Line) → IsTrue (may_follow last kinds.Set) → inner last (lines.Set x ∷ rest) ≡ set_line spec x ++ after_reset rest
  inner_set None x rest t = absurd cc
  inner_set (Some kinds.Update) x rest t = set_first x rest
  inner_set (Some kinds.Reset) x rest t = set_first x rest
  inner_set (Some kinds.Set) x rest t = set_first x rest
  inner_set (Some kinds.Byte) x rest t = absurd cc
  inner_set (Some kinds.End) x rest t = absurd cc

  inner_byte : (last : Option Kind) (b : _) (rest : List Line) → IsTrue (may_follow last kinds.Byte) → inner last (lines.Byte b ∷ rest) ≡ byte_line b ++ after_sets rest
  inner_byte None b rest t = absurd cc
  inner_byte (Some kinds.Update) b rest t = refl
  inner_byte (Some kinds.Reset) b rest t = refl
  inner_byte (Some kinds.Set) b rest t = refl
  inner_byte (Some kinds.Byte) b rest t = refl
  inner_byte (Some kinds.End) b rest t = absurd cc

  after_end : (count : ℕ) (rest : List Line) → AreLines spec (record { count = count; last = Some kinds.End }) rest → rest ≡ []
  after_end count [] are = refl
  after_end count (l ∷ rest) are = let t = are.0.follows in absurd cc

  -- a line behind which there is more
  put_first : (line now more rest : List ℕ) → now ≡ line ++ more → line ++ (more ++ rest) ≡ now ++ rest
  put_first line now more rest is = sym (append_assoc line more rest) ∙ ap (λ t. t ++ rest) (sym is)

  left : (ls : List Line) (s : State) → (s.last ≡ Some kinds.End → ⊥) → AreLines spec s ls → (state_after s ls).last ≡ Some kinds.End
      → joined (line_texts spec s ls) ≡ inner s.last ls ++ tail s.count ls
  left [] s unended are ended = absurd (unended ended)
  left (lines.Update h ∷ rest) s unended are ended =
      let number = s.count + 1 in
      let line = update_line spec number (bare h) in
      let its : joined (line_texts spec (moved s (lines.Update h)) rest) ≡ after_update rest ++ tail number rest = left rest (moved s (lines.Update h)) (λ e. absurd cc) are.1 ended in
      let entry : entry_text spec number (entry_of h rest) ≡ line ++ after_update rest =
      append_assoc (line ++ option_map_or (reset_line spec) (reset_ahead rest) []) (flat_map (set_line spec) (sets_ahead (behind_reset rest))) (after_sets (drop (length (sets_ahead (behind_reset rest))) (behind_reset rest)))
      ∙ append_assoc line (option_map_or (reset_line spec) (reset_ahead rest) []) (after_reset (behind_reset rest)) in
      let last : number + length (entries_of rest) ≡ s.count + length (entries_of (lines.Update h ∷ rest)) = omega arith in
      let next : number + 1 ≡ suc number = omega arith in
      ap (λ t. line ++ t) its
      ∙ (put_first line (entry_text spec number (entry_of h rest)) (after_update rest) (tail number rest) entry
      ∙ (ap (λ n. entry_text spec number (entry_of h rest) ++ (each_at (entry_text spec) (number + 1) (entries_of rest) ++ end_line n)) last
      ∙ (ap (λ n. entry_text spec number (entry_of h rest) ++ (each_at (entry_text spec) n (entries_of rest) ++ end_line (s.count + length (entries_of (lines.Update h ∷ rest))))) next
      ∙ (sym (append_assoc (entry_text spec number (entry_of h rest)) (each_at (entry_text spec) (suc number) (entries_of rest)) (end_line (s.count + length (entries_of (lines.Update h ∷ rest)))))
      ∙ ap (λ t. t ++ tail s.count (lines.Update h ∷ rest)) (sym (no_update s.last (lines.Update h) rest refl))))))
  left (lines.Reset e ∷ rest) s unended are ended =
      ap (λ t. reset_line spec e ++ t) (left rest (moved s (lines.Reset e)) (λ e. absurd cc) are.1 ended)
      ∙ put_first (reset_line spec e) (inner s.last (lines.Reset e ∷ rest)) (after_reset rest) (tail s.count rest) (inner_reset s.last e rest are.0.follows)
  left (lines.Set x ∷ rest) s unended are ended =
      ap (λ t. set_line spec x ++ t) (left rest (moved s (lines.Set x)) (λ e. absurd cc) are.1 ended)
      ∙ put_first (set_line spec x) (inner s.last (lines.Set x ∷ rest)) (after_reset rest) (tail s.count rest) (inner_set s.last x rest are.0.follows)
  left (lines.Byte b ∷ rest) s unended are ended =
      ap (λ t. byte_line b ++ t) (left rest (moved s (lines.Byte b)) (λ e. absurd cc) are.1 ended)
      ∙ put_first (byte_line b) (inner s.last (lines.Byte b ∷ rest)) (after_sets rest) (tail s.count rest) (inner_byte s.last b rest are.0.follows)
  left (lines.End ∷ rest) s unended are ended =
      let none : rest ≡ [] = after_end s.count rest are.1 in
      let last : s.count ≡ s.count + 0 = omega arith in
      subst (λ r. end_line s.count ++ joined (line_texts spec (moved s lines.End) r) ≡ inner s.last (lines.End ∷ r) ++ tail s.count (lines.End ∷ r)) (sym none)
      (append-nil (end_line s.count) ∙ (ap end_line last ∙ ap (λ t. t ++ tail s.count (lines.End ∷ [])) (sym (no_end s.last []))))

  -- all lines are the report
  pub joined_is : (ls : List Line) → AreLines spec start ls → (state_after start ls).last ≡ Some kinds.End → joined (line_texts spec start ls) ≡ report_text spec (entries_of ls)
  joined_is ls are ended =
      left ls start (λ e. absurd cc) are ended
      ∙ (let many : 0 + length (entries_of ls) ≡ length (entries_of ls) = omega arith in ap (λ n. each_at (entry_text spec) 1 (entries_of ls) ++ end_line n) many)

  pub text_is : (text : List ℕ) (ls : List Line) → IsReportOf spec (lines_of text) ls → text ≡ report_text spec (entries_of ls)
  text_is text ls its =
      sym (lines_joined (length text) text (omega arith)) ∙ (ap joined its.texts_are ∙ joined_is ls its.are_lines its.ended)
