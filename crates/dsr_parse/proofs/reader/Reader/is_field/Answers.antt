use Rattle.std.proofs.Common.{refl, sym, ◌∙◌, ◌≡◌, ◌||◌}
use Rattle.dsr_parse.proofs.PartTexts.{field_next, or_then, or_else}
use Rattle.dsr_tree.specs.declared.tokens.Keyword.TheVariants as keyword
use Rattle.dsr_syntax_theory.specs.Grammar.{word}
use Rattle.dsr_parse.specs.Reading.{is_next}
use Rattle.dsr_parse.proofs.reader.Reader.is_field.Goals as goal
use Rattle.dsr_parse.proofs.reader.Reader.is_field.Goals.{else-is_word, then-is_word}

pub returns-then-is_word-2 : goal.returns-then-is_word-2
returns-then-is_word-2 c =
    let first : c.if-is_word.value ≡ (is_next (word keyword.Skip) c.args.self.now.rest || is_next (word keyword.Fixed) c.args.self.now.rest) = elim c.if-is_word.branch [ then-is_word w ↦ or_then _ w.value-is w.if-is_word.true c.is_word.ensures | else-is_word w ↦ or_else w.value-is w.is_word-else-is_word.ensures w.if-is_word.false c.is_word.ensures ] in
    or_then _ refl c.if-is_word-2.true first ∙ sym (field_next c.args.self.now.rest)

pub returns-else-is_word-2 : goal.returns-else-is_word-2
returns-else-is_word-2 c =
    let first : c.if-is_word.value ≡ (is_next (word keyword.Skip) c.args.self.now.rest || is_next (word keyword.Fixed) c.args.self.now.rest) = elim c.if-is_word.branch [ then-is_word w ↦ or_then _ w.value-is w.if-is_word.true c.is_word.ensures | else-is_word w ↦ or_else w.value-is w.is_word-else-is_word.ensures w.if-is_word.false c.is_word.ensures ] in
    or_else refl c.is_width.ensures c.if-is_word-2.false first ∙ sym (field_next c.args.self.now.rest)
