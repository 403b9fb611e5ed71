use Rattle.std.proofs.Common.{◌≡◌, drop, ◌<◌, ◌^◌, IsTrue}
use Rattle.dsr_syntax_theory.specs.Tokens.{every, is_hexadecimal_digit, value_after}
use Rattle.dsr_lexer.proofs.words.number_of.Given as goal

abbrev pub invariant-loop-digit : goal.invariant-loop-digit
invariant-loop-digit l = (value_after l.base l.number (drop l.digit-index l.digits) ≡ value_after l.base 0 l.digits) × IsTrue (every is_hexadecimal_digit (drop l.digit-index l.digits)) × l.number < 2 ^ 64
