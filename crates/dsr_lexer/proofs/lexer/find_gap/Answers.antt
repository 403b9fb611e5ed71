use Rattle.std.proofs.Common.{sym, ◌∙◌}
use Rattle.dsr_lexer.proofs.Steps.{blank_found, comment_found, no_gap_found}
use Rattle.dsr_lexer.proofs.lexer.find_gap.Goals as goal

pub returns-then-is_blank_byte : goal.returns-then-is_blank_byte
returns-then-is_blank_byte c = blank_found c.args.text.now c.requires (sym c.is_blank_byte.ensures ∙ c.if-is_blank_byte.true)

pub returns-then-first-eq35 : goal.returns-then-first-eq35
returns-then-first-eq35 c = comment_found c.args.text.now c.line_len.result c.requires c.if-first-eq35.true c.line_len.ensures

pub returns-else-first-eq35 : goal.returns-else-first-eq35
returns-else-first-eq35 c = no_gap_found c.args.text.now c.requires (sym c.is_blank_byte.ensures ∙ c.if-is_blank_byte.false) c.if-first-eq35.false
