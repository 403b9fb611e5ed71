-- The longest token at the front of a text.
use Rattle.std.proofs.Common.{◌≡◌, ℕ, suc, ◌+◌, ◌≤◌, List, [], ◌∷◌, ◌++◌, length, drop, Bool, true, false, ◌&&◌, refl, ◌∙◌, sym, subst, nat_eq, arith}
use Rattle.std.specs.List.{prefix_len}
use Rattle.std.proofs.lemmas.Bool.Decides.{nat_tests}
use Rattle.dsr_tree.specs.declared.tokens.Sign.{Sign}
use Rattle.dsr_tree.specs.declared.tokens.Token.{Token}
use Rattle.dsr_syntax_theory.specs.Tokens.{is_letter, is_digit, is_hexadecimal_digit, is_in_word, every, keyword_spelling, sign_spelling, Spells, a_keyword, a_name, a_decimal, a_hexadecimal, a_sign}
use Rattle.dsr_lexer.specs.Front.{begins, begins_hexadecimal}
use Rattle.dsr_lexer.specs.Spelled.{BeginsWithSign}
use Rattle.dsr_lexer.proofs.Shapes.{both, every_reaches, is_mark, keyword_begins, sign_begins, letter_no_digit, letter_no_mark, digit_no_mark, apart}

-- whether no token at the front has more bytes
abbrev pub Reaches : Bool → List ℕ → ℕ → Type 0
Reaches second text n = (other : Token) (longer after : List ℕ) → Spells second longer other → text ≡ longer ++ after → length longer ≤ n

pub begins_more : (passes : ℕ → Bool) (bytes after : List ℕ) → begins passes bytes ≡ true → begins passes (bytes ++ after) ≡ true
begins_more passes [] after h = absurd cc
begins_more passes (b ∷ bytes) after h = h

pub letter_in_word : (b : ℕ) → is_letter b ≡ true → is_in_word b ≡ true
letter_in_word b l = rw l refl

name_in_word : (b : ℕ) (bytes : List ℕ) → is_letter b ≡ true → every is_in_word bytes ≡ true → every is_in_word (b ∷ bytes) ≡ true
name_in_word b bytes l w = rw (letter_in_word b l) w

pub word_reaches : (second : Bool) (text : List ℕ) → begins is_letter text ≡ true → Reaches second text (prefix_len is_in_word text)
word_reaches second text l other longer after s q = reach s q
  where
    run : (bytes : List ℕ) → every is_in_word bytes ≡ true → text ≡ bytes ++ after → length bytes ≤ prefix_len is_in_word text
    run bytes w q = subst (λ text. length bytes ≤ prefix_len is_in_word text) (sym q) (every_reaches is_in_word bytes after w)

    reach : {bytes : List ℕ} {t : Token} → Spells second bytes t → text ≡ bytes ++ after → length bytes ≤ prefix_len is_in_word text
    reach (a_keyword k _) q = run (keyword_spelling k) (keyword_begins k).1 q
    reach (a_name b bytes l w _) q = run (b ∷ bytes) (name_in_word b bytes l w) q
    reach (a_decimal d digits h) q = absurd (apart is_letter is_digit letter_no_digit l (both (is_digit d) (every is_digit digits) h).0 q)
    reach (a_hexadecimal _ _ _) q = absurd (apart is_letter is_digit letter_no_digit l refl q)
    reach (a_sign s) q = absurd (apart is_letter is_mark letter_no_mark l (begins_more is_mark (sign_spelling s) after (sign_begins s)) q)

pub digits_reach : (second : Bool) (text : List ℕ) → begins is_digit text ≡ true → begins_hexadecimal text ≡ false → Reaches second text (prefix_len is_digit text)
digits_reach second text d plain other longer after s q = reach s q
  where
    reach : {bytes : List ℕ} {t : Token} → Spells second bytes t → text ≡ bytes ++ after → length bytes ≤ prefix_len is_digit text
    reach (a_keyword k _) q = absurd (apart is_letter is_digit letter_no_digit (begins_more is_letter (keyword_spelling k) after (keyword_begins k).0) d (sym q))
    reach (a_name b bytes l w _) q = absurd (apart is_letter is_digit letter_no_digit l d (sym q))
    reach (a_decimal e digits h) q = subst (λ text. length (e ∷ digits) ≤ prefix_len is_digit text) (sym q) (every_reaches is_digit (e ∷ digits) after h)
    reach (a_hexadecimal e digits h) q = (
        let first : is_hexadecimal_digit e ≡ false = subst (λ text. begins_hexadecimal text ≡ false) q plain in
        let clash = both (is_hexadecimal_digit e) (every is_hexadecimal_digit digits) h in
        absurd cc)
    reach (a_sign s) q = absurd (apart is_digit is_mark digit_no_mark d (begins_more is_mark (sign_spelling s) after (sign_begins s)) q)

-- a text that begins with `0x` and a hexadecimal digit
pub record IsHexadecimal (text : List ℕ) : Type 0 where
  pub first : ℕ
  pub more : List ℕ
  pub is : text ≡ 48 ∷ 120 ∷ first ∷ more
  pub digit : is_hexadecimal_digit first ≡ true

pub is_hexadecimal : (text : List ℕ) → begins_hexadecimal text ≡ true → IsHexadecimal text
is_hexadecimal [] h = absurd cc
is_hexadecimal (a ∷ []) h = absurd cc
is_hexadecimal (a ∷ b ∷ []) h = absurd cc
is_hexadecimal (a ∷ b ∷ d ∷ more) h =
    let zero_first = both (nat_eq a 48 && nat_eq b 120) (is_hexadecimal_digit d) h in
    let ways = both (nat_eq a 48) (nat_eq b 120) zero_first.0 in
    let e : a ≡ 48 = grind (arith, nat_tests, ways.0) in
    let f : b ≡ 120 = grind (arith, nat_tests, ways.1) in
    record { first = d; more = more; is = cc; digit = zero_first.1 }

pub hexadecimal_reaches : (second : Bool) (text : List ℕ) → begins_hexadecimal text ≡ true → Reaches second text (2 + prefix_len is_hexadecimal_digit (drop 2 text))
hexadecimal_reaches second text x other longer after s q = reach s q
  where
    zero_first : 48 ∷ 120 ∷ (is_hexadecimal text x).first ∷ (is_hexadecimal text x).more ≡ text
    zero_first = sym (is_hexadecimal text x).is

    reach : {bytes : List ℕ} {t : Token} → Spells second bytes t → text ≡ bytes ++ after → length bytes ≤ 2 + prefix_len is_hexadecimal_digit (drop 2 text)
    reach (a_keyword k _) q = absurd (apart is_letter is_digit letter_no_digit (begins_more is_letter (keyword_spelling k) after (keyword_begins k).0) refl (sym q ∙ sym zero_first))
    reach (a_name b bytes l w _) q = absurd (apart is_letter is_digit letter_no_digit {bytes = b ∷ (bytes ++ after)} l refl (sym q ∙ sym zero_first))
    reach (a_decimal e [] h) q = omega arith
    reach (a_decimal e (f ∷ digits) h) q = (
        let two : e ∷ f ∷ (digits ++ after) ≡ 48 ∷ 120 ∷ (is_hexadecimal text x).first ∷ (is_hexadecimal text x).more = sym q ∙ sym zero_first in
        let same : f ≡ 120 = cc in
        let more = both (is_digit e) (is_digit f && every is_digit digits) h in
        let digit = both (is_digit f) (every is_digit digits) more.1 in
        let clash : is_digit 120 ≡ true = subst (λ f. is_digit f ≡ true) same digit.0 in
        absurd cc)
    reach (a_hexadecimal e digits h) q = subst (λ text. suc (suc (length (e ∷ digits))) ≤ 2 + prefix_len is_hexadecimal_digit (drop 2 text)) (sym q) (omega (arith, every_reaches is_hexadecimal_digit (e ∷ digits) after h))
    reach (a_sign s) q = absurd (apart is_digit is_mark digit_no_mark {bytes = 48 ∷ 120 ∷ (is_hexadecimal text x).first ∷ (is_hexadecimal text x).more} refl (begins_more is_mark (sign_spelling s) after (sign_begins s)) (zero_first ∙ q))

pub sign_reaches : (second : Bool) (text : List ℕ) (s : Sign) → BeginsWithSign text s → Reaches second text (length (sign_spelling s))
sign_reaches second text s front other longer after spelled q = reach spelled q
  where
    mark : begins is_mark (sign_spelling s ++ front.rest) ≡ true
    mark = begins_more is_mark (sign_spelling s) front.rest (sign_begins s)

    reach : {bytes : List ℕ} {t : Token} → Spells second bytes t → text ≡ bytes ++ after → length bytes ≤ length (sign_spelling s)
    reach (a_keyword k _) q = absurd (apart is_letter is_mark letter_no_mark (begins_more is_letter (keyword_spelling k) after (keyword_begins k).0) mark (sym q ∙ front.cut))
    reach (a_name b bytes l w _) q = absurd (apart is_letter is_mark letter_no_mark {bytes = b ∷ (bytes ++ after)} l mark (sym q ∙ front.cut))
    reach (a_decimal e digits h) q = absurd (apart is_digit is_mark digit_no_mark {bytes = e ∷ (digits ++ after)} (both (is_digit e) (every is_digit digits) h).0 mark (sym q ∙ front.cut))
    reach (a_hexadecimal e digits h) q = absurd (apart is_digit is_mark digit_no_mark {bytes = 48 ∷ 120 ∷ (e ∷ (digits ++ after))} refl mark (sym q ∙ front.cut))
    reach (a_sign t) q = front.longest t after q
