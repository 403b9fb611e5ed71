use Rattle.std.proofs.Common.{◌-◌, ◌+◌, take, drop, length, sym, subst, ◌∙◌}
use Rattle.dsr_syntax_theory.specs.Tokens.{value_after}
use Rattle.dsr_lexer.specs.Front.{FindsFront}
use Rattle.dsr_lexer.proofs.Found.{hexadecimal_digits, hexadecimal_at, number_stands, number_too_large}
use Rattle.dsr_lexer.proofs.words.find_hexadecimal.Goals as goal

pub number_of-requires-clause-digits : goal.number_of-requires-clause-digits
number_of-requires-clause-digits c = hexadecimal_digits (take (length c.args.text.now - 2) (drop 2 c.args.text.now)) c.hexadecimal_len-len.result c.hexadecimal_len-len.ensures

pub returns-in_err-number : goal.returns-in_err-number
returns-in_err-number c second = subst (λ found. FindsFront second c.args.text.now found) (sym c.from_residual.ensures)
    (number_too_large second c.args.text.now (2 + c.hexadecimal_len-len.result) (value_after 16 0 (take c.hexadecimal_len-len.result (take (length c.args.text.now - 2) (drop 2 c.args.text.now))))
    (hexadecimal_at second c.args.text.now c.hexadecimal_len-len.result c.requires c.hexadecimal_len-len.ensures)
    (sym c.in_err-number.was ∙ c.number_of.ensures))

pub returns : goal.returns
returns c second = number_stands second c.args.text.now (2 + c.hexadecimal_len-len.result) (value_after 16 0 (take c.hexadecimal_len-len.result (take (length c.args.text.now - 2) (drop 2 c.args.text.now)))) c.in_ok-number.number
    (hexadecimal_at second c.args.text.now c.hexadecimal_len-len.result c.requires c.hexadecimal_len-len.ensures)
    (sym c.in_ok-number.was ∙ c.number_of.ensures)
