-- No token has a blank in it, so none goes on past one.
use Rattle.std.proofs.Common.{◌≡◌, ℕ, ◌≤◌, List, [], ◌∷◌, ◌++◌, length, Bool, true, not, refl, subst, arith}
use Rattle.std.proofs.lemmas.Bool.Decides.{nat_tests}
use Rattle.dsr_tree.specs.declared.tokens.Sign.{Sign}
use Rattle.dsr_tree.specs.declared.tokens.Sign.TheVariants as sign
use Rattle.dsr_tree.specs.declared.tokens.Token.{Token}
use Rattle.dsr_syntax_theory.specs.Tokens.{is_letter, is_digit, is_hexadecimal_digit, is_in_word, is_blank, every, keyword_spelling, sign_spelling, Spells, a_keyword, a_name, a_decimal, a_hexadecimal, a_sign, IsWithinLimits, Stands}
use Rattle.dsr_lexer.proofs.Shapes.{both, every_as, keyword_begins}

-- any byte but a blank
abbrev pub is_solid : ℕ → Bool
is_solid b = not (is_blank b)

word_solid : (b : ℕ) → is_in_word b ≡ true → is_solid b ≡ true
word_solid b h = grind (arith, nat_tests)

letter_solid : (b : ℕ) → is_letter b ≡ true → is_solid b ≡ true
letter_solid b h = grind (arith, nat_tests)

digit_solid : (b : ℕ) → is_digit b ≡ true → is_solid b ≡ true
digit_solid b h = grind (arith, nat_tests)

hexadecimal_solid : (b : ℕ) → is_hexadecimal_digit b ≡ true → is_solid b ≡ true
hexadecimal_solid b h = grind (arith, nat_tests)

blank_not_solid : (b : ℕ) → is_blank b ≡ true → is_solid b ≡ true → ⊥
blank_not_solid b h s = grind (arith, nat_tests)

sign_solid : (s : Sign) → every is_solid (sign_spelling s) ≡ true
sign_solid sign.Semicolon = refl
sign_solid sign.Colon = refl
sign_solid sign.Comma = refl
sign_solid sign.Dot = refl
sign_solid sign.OpenBrace = refl
sign_solid sign.CloseBrace = refl
sign_solid sign.OpenBracket = refl
sign_solid sign.CloseBracket = refl
sign_solid sign.OpenParenthesis = refl
sign_solid sign.CloseParenthesis = refl
sign_solid sign.Arrow = refl
sign_solid sign.Gives = refl
sign_solid sign.Plus = refl
sign_solid sign.Minus = refl
sign_solid sign.Times = refl
sign_solid sign.Over = refl
sign_solid sign.Equal = refl
sign_solid sign.Differs = refl
sign_solid sign.Less = refl
sign_solid sign.AtMost = refl
sign_solid sign.Greater = refl
sign_solid sign.AtLeast = refl

-- a token's bytes are no blanks
pub spelled_solid : {second : Bool} {bytes : List ℕ} {t : Token} → Spells second bytes t → every is_solid bytes ≡ true
spelled_solid (a_keyword k _) = every_as is_in_word is_solid word_solid (keyword_spelling k) (keyword_begins k).1
spelled_solid (a_name b bytes l w _) = rw (letter_solid b l) (every_as is_in_word is_solid word_solid bytes w)
spelled_solid (a_decimal d digits h) = every_as is_digit is_solid digit_solid (d ∷ digits) h
spelled_solid (a_hexadecimal d digits h) = every_as is_hexadecimal_digit is_solid hexadecimal_solid (d ∷ digits) h
spelled_solid (a_sign s) = sign_solid s

-- bytes with no blank end before one
pub ends_at_blank : (bytes longer rest after : List ℕ) (b : ℕ) → is_blank b ≡ true → every is_solid longer ≡ true → bytes ++ b ∷ rest ≡ longer ++ after → length longer ≤ length bytes
ends_at_blank bytes [] rest after b blank solid q = omega arith
ends_at_blank [] (c ∷ longer) rest after b blank solid q =
    let same : c ≡ b = cc in
    absurd (blank_not_solid b blank (subst (λ c. is_solid c ≡ true) same (both (is_solid c) (every is_solid longer) solid).0))
ends_at_blank (x ∷ bytes) (c ∷ longer) rest after b blank solid q =
    let more : bytes ++ b ∷ rest ≡ longer ++ after = cc in
    let fits = ends_at_blank bytes longer rest after b blank (both (is_solid c) (every is_solid longer) solid).1 more in
    omega arith

-- a token before a blank stands there
pub stands_before_blank : (second : Bool) (bytes rest : List ℕ) (t : Token) (b : ℕ) → Spells second bytes t → IsWithinLimits t → is_blank b ≡ true → Stands second bytes t (b ∷ rest)
stands_before_blank second bytes rest t b spelled limits blank = record {
  spelled = spelled;
  longest = λ other longer after s q. ends_at_blank bytes longer rest after b blank (spelled_solid s) q;
  limits = limits;
}
