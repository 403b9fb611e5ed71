use Rattle.std.proofs.Common.{take, sym, subst, ◌∙◌}
use Rattle.dsr_syntax_theory.specs.Tokens.{value_after}
use Rattle.dsr_lexer.specs.Front.{FindsFront}
use Rattle.dsr_lexer.proofs.Found.{decimal_digits, decimal_front, number_stands, number_too_large}
use Rattle.dsr_lexer.proofs.words.find_decimal.Goals as goal

pub number_of-requires-clause-digits : goal.number_of-requires-clause-digits
number_of-requires-clause-digits c = decimal_digits c.args.text.now c.digits_len-len.result c.digits_len-len.ensures

pub returns-in_err-number : goal.returns-in_err-number
returns-in_err-number c second = subst (λ found. FindsFront second c.args.text.now found) (sym c.from_residual.ensures)
    (number_too_large second c.args.text.now c.digits_len-len.result (value_after 10 0 (take c.digits_len-len.result c.args.text.now))
    (decimal_front second c.args.text.now c.digits_len-len.result c.requires.digit c.requires.plain c.digits_len-len.ensures)
    (sym c.in_err-number.was ∙ c.number_of.ensures))

pub returns : goal.returns
returns c second = number_stands second c.args.text.now c.digits_len-len.result (value_after 10 0 (take c.digits_len-len.result c.args.text.now)) c.in_ok-number.number
    (decimal_front second c.args.text.now c.digits_len-len.result c.requires.digit c.requires.plain c.digits_len-len.ensures)
    (sym c.in_ok-number.was ∙ c.number_of.ensures)
