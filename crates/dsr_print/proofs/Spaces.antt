-- Tokens with a blank behind each are cut apart again.
use Rattle.std.proofs.Common.{◌≡◌, ℕ, ◌+◌, List, [], ◌∷◌, ◌++◌, length, Bool, true, refl, ap, subst, map, arith, length-append}
use Rattle.dsr_tree.specs.declared.tokens.Lexeme.{Lexeme}
use Rattle.dsr_tree.specs.declared.tokens.Token.{Token}
use Rattle.dsr_syntax_theory.specs.Canonical.{token_spelling}
use Rattle.dsr_syntax_theory.specs.Tokens.{is_blank, Spells, a_keyword, a_name, a_decimal, a_hexadecimal, a_sign, IsWithinLimits, Begins, a_blank, a_comment, a_token, IsCut, here, further}
use Rattle.dsr_print.proofs.Blanks.{stands_before_blank}
use Rattle.dsr_print.proofs.Decimals.{decimal_spells}

-- a token that its canonical spelling spells
pub record IsWell (second : Bool) (t : Token) : Type 0 where
  pub spelled : Spells second (token_spelling t) t
  pub limits : IsWithinLimits t

abbrev pub AreWell : Bool → List Token → Type 0
AreWell second [] = Unit {0}
AreWell second (t ∷ ts) = IsWell second t × AreWell second ts

-- however a token is spelled, its canonical spelling spells it too
pub well_spelled : {second : Bool} {bytes : List ℕ} {t : Token} → Spells second bytes t → IsWithinLimits t → IsWell second t
well_spelled (a_keyword k one) limits = record { spelled = a_keyword k one; limits = limits }
well_spelled (a_name b bytes l w none) limits = record { spelled = a_name b bytes l w none; limits = limits }
well_spelled (a_decimal d digits h) limits = record { spelled = decimal_spells _ _ limits; limits = limits }
well_spelled (a_hexadecimal d digits h) limits = record { spelled = decimal_spells _ _ limits; limits = limits }
well_spelled (a_sign s) limits = record { spelled = a_sign s; limits = limits }

well_more : {second : Bool} {place : ℕ} {bytes rest : List ℕ} {found : List Lexeme} (more : List Lexeme) → Begins second place bytes rest found → AreWell second (map (λ l. l.token) more) → AreWell second (map (λ l. l.token) (found ++ more))
well_more more (a_blank _ _ _) are = are
well_more more (a_comment _ _ _ _) are = are
well_more more (a_token bytes rest t stands) are = (well_spelled stands.spelled stands.limits, are)

-- the tokens of a text are well spelled
pub well_cut : {second : Bool} {place to : ℕ} {text left : List ℕ} {lexemes : List Lexeme} → IsCut second place text lexemes to left → AreWell second (map (λ l. l.token) lexemes)
well_cut here = tt
well_cut (further {more = more} begins cut) = well_more more begins (well_cut cut)

-- a text that has each token's spelling with a blank behind it
pub data Spaced : List Token → List ℕ → Type 0 where
  nothing : Spaced [] []
  spaced : (t : Token) (b : ℕ) (ts : List Token) (bytes : List ℕ) → is_blank b ≡ true → Spaced ts bytes → Spaced (t ∷ ts) (token_spelling t ++ b ∷ bytes)

-- where the tokens of such a text stand
abbrev pub placed : ℕ → List Token → List Lexeme
placed place [] = []
placed place (t ∷ ts) = record { token = t; place = place } ∷ placed (place + length (token_spelling t) + 1) ts

pub placed_tokens : (place : ℕ) (ts : List Token) → map (λ l. l.token) (placed place ts) ≡ ts
placed_tokens place [] = refl
placed_tokens place (t ∷ ts) = ap (λ ts. t ∷ ts) (placed_tokens (place + length (token_spelling t) + 1) ts)

-- such a text is cut into the tokens
pub cut_spaced : (second : Bool) {ts : List Token} {bytes : List ℕ} (place to : ℕ) → Spaced ts bytes → AreWell second ts → to ≡ place + length bytes → IsCut second place bytes (placed place ts) to []
cut_spaced second place to nothing are e =
    let end : place ≡ to = omega arith in
    subst (λ to. IsCut second place [] [] to []) end here
cut_spaced second place to (spaced t b ts bytes blank more) are e =
    let end : to ≡ place + length (token_spelling t) + 1 + length bytes = omega (arith, e, length-append (token_spelling t) (b ∷ bytes)) in
    let next = cut_spaced second (place + length (token_spelling t) + 1) to more are.1 end in
    further (a_token (token_spelling t) (b ∷ bytes) t (stands_before_blank second (token_spelling t) bytes t b are.0.spelled are.0.limits blank))
    (further (a_blank b bytes blank) next)
