use Rattle.dsr_lexer.proofs.words.find_token.Goals as goal

pub returns-then-begins_hexadecimal_number : goal.returns-then-begins_hexadecimal_number
returns-then-begins_hexadecimal_number c = c.find_hexadecimal.ensures c.args.second

pub returns-then-begins_number : goal.returns-then-begins_number
returns-then-begins_number c = c.find_decimal.ensures c.args.second

pub returns-else-begins_number : goal.returns-else-begins_number
returns-else-begins_number c = c.find_mark.ensures c.args.second
