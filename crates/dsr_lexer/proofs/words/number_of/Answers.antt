use Rattle.std.proofs.Common.{◌≡◌, ◌∙◌, sym, subst, Some, arith}
use Rattle.dsr_lexer.specs.Front.{number_below}
use Rattle.dsr_syntax_theory.specs.Tokens.{value_after}
use Rattle.std.proofs.lemmas.Grind.{common_steps}
use Rattle.dsr_lexer.proofs.Numbers.{passes_limit, stays_below}
use Rattle.dsr_lexer.proofs.words.number_of.Goals as goal

pub returns-in_err-checked_mul : goal.returns-in_err-checked_mul
returns-in_err-checked_mul c = c.from_residual.ensures ∙ sym (passes_limit 18446744073709551616 c.args.base c.loop-digit.number (value_after c.args.base 0 c.args.digits.now) c.args.digits.now c.loop-digit.digit-index c.requires.base c.loop-digit-test.true c.loop-digit.invariant.0 (λ below. c.in_err-checked_mul.ensures (omega (arith, below))))

pub returns-in_err-number : goal.returns-in_err-number
returns-in_err-number c = c.from_residual-in_err-number.ensures ∙ sym (passes_limit 18446744073709551616 c.args.base c.loop-digit.number (value_after c.args.base 0 c.args.digits.now) c.args.digits.now c.loop-digit.digit-index c.requires.base c.loop-digit-test.true c.loop-digit.invariant.0 (λ below. c.in_err-number.ensures (omega (arith, below, c.digit_number.ensures))))

pub returns : goal.returns
returns c =
    let is : c.loop-digit.number ≡ value_after c.args.base 0 c.args.digits.now = grind (arith, common_steps) in
    subst (λ n. Some c.loop-digit.number ≡ number_below 18446744073709551616 n) is (stays_below 18446744073709551616 c.loop-digit.number c.loop-digit.invariant.2)
