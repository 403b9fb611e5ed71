use Rattle.std.proofs.Common.{refl, sym, ◌∙◌, ◌≡◌, ◌||◌}
use Rattle.dsr_parse.proofs.PartTexts.{width_next, or_then, or_else}
use Rattle.dsr_tree.specs.declared.tokens.Keyword.TheVariants as keyword
use Rattle.dsr_syntax_theory.specs.Grammar.{word}
use Rattle.dsr_parse.specs.Reading.{is_next}
use Rattle.dsr_parse.proofs.reader.Reader.is_width.Goals as goal
use Rattle.dsr_parse.proofs.reader.Reader.is_width.Goals.{else-is_word, else-is_word-2, else-is_word-3, then-is_word, then-is_word-2, then-is_word-3}

pub returns-then-is_word-4 : goal.returns-then-is_word-4
returns-then-is_word-4 c =
    let first : c.if-is_word.value ≡ (is_next (word keyword.U8) c.args.self.now.rest || is_next (word keyword.U16) c.args.self.now.rest) = elim c.if-is_word.branch [ then-is_word w ↦ or_then _ w.value-is w.if-is_word.true c.is_word.ensures | else-is_word w ↦ or_else w.value-is w.is_word-else-is_word.ensures w.if-is_word.false c.is_word.ensures ] in
    let more2 : c.if-is_word-2.value ≡ ((is_next (word keyword.U8) c.args.self.now.rest || is_next (word keyword.U16) c.args.self.now.rest) || is_next (word keyword.U32) c.args.self.now.rest) = elim c.if-is_word-2.branch [ then-is_word-2 w ↦ or_then _ w.value-is w.if-is_word-2.true first | else-is_word-2 w ↦ or_else w.value-is w.is_word-else-is_word-2.ensures w.if-is_word-2.false first ] in
    let more3 : c.if-is_word-3.value ≡ (((is_next (word keyword.U8) c.args.self.now.rest || is_next (word keyword.U16) c.args.self.now.rest) || is_next (word keyword.U32) c.args.self.now.rest) || is_next (word keyword.U64) c.args.self.now.rest) = elim c.if-is_word-3.branch [ then-is_word-3 w ↦ or_then _ w.value-is w.if-is_word-3.true more2 | else-is_word-3 w ↦ or_else w.value-is w.is_word-else-is_word-3.ensures w.if-is_word-3.false more2 ] in
    or_then _ refl c.if-is_word-4.true more3 ∙ sym (width_next c.args.self.now.rest)

pub returns-else-is_word-4 : goal.returns-else-is_word-4
returns-else-is_word-4 c =
    let first : c.if-is_word.value ≡ (is_next (word keyword.U8) c.args.self.now.rest || is_next (word keyword.U16) c.args.self.now.rest) = elim c.if-is_word.branch [ then-is_word w ↦ or_then _ w.value-is w.if-is_word.true c.is_word.ensures | else-is_word w ↦ or_else w.value-is w.is_word-else-is_word.ensures w.if-is_word.false c.is_word.ensures ] in
    let more2 : c.if-is_word-2.value ≡ ((is_next (word keyword.U8) c.args.self.now.rest || is_next (word keyword.U16) c.args.self.now.rest) || is_next (word keyword.U32) c.args.self.now.rest) = elim c.if-is_word-2.branch [ then-is_word-2 w ↦ or_then _ w.value-is w.if-is_word-2.true first | else-is_word-2 w ↦ or_else w.value-is w.is_word-else-is_word-2.ensures w.if-is_word-2.false first ] in
    let more3 : c.if-is_word-3.value ≡ (((is_next (word keyword.U8) c.args.self.now.rest || is_next (word keyword.U16) c.args.self.now.rest) || is_next (word keyword.U32) c.args.self.now.rest) || is_next (word keyword.U64) c.args.self.now.rest) = elim c.if-is_word-3.branch [ then-is_word-3 w ↦ or_then _ w.value-is w.if-is_word-3.true more2 | else-is_word-3 w ↦ or_else w.value-is w.is_word-else-is_word-3.ensures w.if-is_word-3.false more2 ] in
    or_else refl c.is_word-else-is_word-4.ensures c.if-is_word-4.false more3 ∙ sym (width_next c.args.self.now.rest)
