-- One thing at most stands at the front of a text.
use Rattle.std.proofs.Common.{◌≡◌, ◌≢◌, ℕ, suc, ◌+◌, ◌<◌, ◌≤◌, List, [], ◌∷◌, ◌++◌, length, take, drop, Bool, true, false, ◌||◌, not, refl, ap, ◌∙◌, sym, subst, nat_eq, cond, get_or, None, ◌-◌, length-drop, arith}
use Rattle.std.specs.List.{prefix_len}
use Rattle.std.proofs.Math.Seq.{take-append_seam, drop-append_seam}
use Rattle.std.proofs.lemmas.List.{take_at, take_all, drop_at}
use Rattle.std.proofs.lemmas.List.Sums.{prefix_len-le-length}
use Rattle.std.proofs.lemmas.Bool.Decides.{nat_tests}
use Rattle.dsr_tree.specs.declared.tokens.Token.{Token}
use Rattle.dsr_tree.specs.declared.tokens.Lexeme.{Lexeme}
use Rattle.dsr_syntax_theory.specs.Tokens.{is_second_version, is_letter, is_digit, is_blank, is_in_line, every, keyword_spelling, sign_spelling, Spells, a_keyword, a_name, a_decimal, a_hexadecimal, a_sign, Stands, EndsLine, Begins, a_blank, a_comment, a_token}
use Rattle.dsr_lexer.specs.Lexing.{IsGap, FindsGap, Steps}
use Rattle.dsr_lexer.specs.Front.{begins, StandsAt}
use Rattle.dsr_lexer.proofs.Shapes.{both, is_mark, apart, spelled_once, keyword_begins, sign_begins, every_front}
use Rattle.dsr_lexer.proofs.Reaches.{begins_more}

-- a byte that begins a blank or a comment
abbrev pub is_gap : ℕ → Bool
is_gap b = is_blank b || nat_eq b 35

letter_no_gap : (b : ℕ) → is_letter b ≡ true → is_gap b ≡ true → ⊥
letter_no_gap b l g = grind (arith, nat_tests)

digit_no_gap : (b : ℕ) → is_digit b ≡ true → is_gap b ≡ true → ⊥
digit_no_gap b d g = grind (arith, nat_tests)

mark_no_gap : (b : ℕ) → is_mark b ≡ true → is_gap b ≡ true → ⊥
mark_no_gap b m g = grind (arith, nat_tests)

blank_gap : (b : ℕ) → is_blank b ≡ true → is_gap b ≡ true
blank_gap b h = rw h refl

spelled_no_gap : (second : Bool) {bytes : List ℕ} {t : Token} (rest text : List ℕ) → Spells second bytes t → bytes ++ rest ≡ text → begins is_gap text ≡ true → ⊥
spelled_no_gap second rest text (a_keyword k _) q g = apart is_letter is_gap letter_no_gap (begins_more is_letter (keyword_spelling k) rest (keyword_begins k).0) g q
spelled_no_gap second rest text (a_name b bytes l _ _) q g = apart is_letter is_gap letter_no_gap {bytes = b ∷ (bytes ++ rest)} l g q
spelled_no_gap second rest text (a_decimal d digits h) q g = apart is_digit is_gap digit_no_gap {bytes = d ∷ (digits ++ rest)} (both (is_digit d) (every is_digit digits) h).0 g q
spelled_no_gap second rest text (a_hexadecimal d digits h) q g = apart is_digit is_gap digit_no_gap {bytes = 48 ∷ 120 ∷ (d ∷ (digits ++ rest))} refl g q
spelled_no_gap second rest text (a_sign s) q g = apart is_mark is_gap mark_no_gap (begins_more is_mark (sign_spelling s) rest (sign_begins s)) g q

spelled_some : (second : Bool) {bytes : List ℕ} {t : Token} → Spells second bytes t → bytes ≡ [] → ⊥
spelled_some second (a_keyword k _) q = let first : begins is_letter [] ≡ true = subst (λ bytes. begins is_letter bytes ≡ true) q (keyword_begins k).0 in absurd cc
spelled_some second (a_name b bytes l _ _) q = absurd cc
spelled_some second (a_decimal d digits h) q = absurd cc
spelled_some second (a_hexadecimal d digits h) q = absurd cc
spelled_some second (a_sign s) q = let first : begins is_mark [] ≡ true = subst (λ bytes. begins is_mark bytes ≡ true) q (sign_begins s) in absurd cc

-- what stands at the front has a byte
pub begins_some : (second : Bool) (place : ℕ) {bytes rest : List ℕ} {found : List Lexeme} → Begins second place bytes rest found → bytes ++ rest ≡ [] → ⊥
begins_some second place (a_blank b rest _) q = absurd cc
begins_some second place (a_comment bytes rest _ _) q = absurd cc
begins_some second place (a_token [] rest t stands) q = spelled_some second stands.spelled refl
begins_some second place (a_token (b ∷ bytes) rest t stands) q = absurd cc

-- two readings of the front of a text that are one
pub record SameStep (bytes others rest left : List ℕ) (found more : List Lexeme) : Type 0 where
  pub bytes_same : bytes ≡ others
  pub rest_same : rest ≡ left
  pub found_same : found ≡ more

line_once : (bytes others rest left : List ℕ) → every is_in_line bytes ≡ true → every is_in_line others ≡ true → EndsLine rest → EndsLine left → bytes ++ rest ≡ others ++ left → (bytes ≡ others) × (rest ≡ left)
line_once [] [] rest left _ _ _ _ q = (refl, q)
line_once [] (b ∷ others) [] left _ _ _ _ q = absurd cc
line_once [] (b ∷ others) (c ∷ rest) left _ w ends _ q =
    let same : b ≡ 10 = cc in
    let clash = (both (not (nat_eq b 10)) (every is_in_line others) w).0 in
    absurd (grind (arith, nat_tests, clash, same))
line_once (b ∷ bytes) [] rest [] _ _ _ _ q = absurd cc
line_once (b ∷ bytes) [] rest (c ∷ left) v _ _ ends q =
    let same : b ≡ 10 = cc in
    let clash = (both (not (nat_eq b 10)) (every is_in_line bytes) v).0 in
    absurd (grind (arith, nat_tests, clash, same))
line_once (b ∷ bytes) (c ∷ others) rest left v w ends stops q =
    let first : b ≡ c = cc in
    let more : bytes ++ rest ≡ others ++ left = cc in
    let same = line_once bytes others rest left (both (not (nat_eq b 10)) (every is_in_line bytes) v).1 (both (not (nat_eq c 10)) (every is_in_line others) w).1 ends stops more in
    (cc, same.1)

stands_once : (second : Bool) (bytes others rest left : List ℕ) (t u : Token) (place at : ℕ) → Stands second bytes t rest → Stands second others u left → place ≡ at → bytes ++ rest ≡ others ++ left → SameStep bytes others rest left (record { token = t; place = place } ∷ []) (record { token = u; place = at } ∷ [])
stands_once second bytes others rest left t u place at one other here q =
    let below : length others ≤ length bytes = one.longest u others left other.spelled q in
    let above : length bytes ≤ length others = other.longest t bytes rest one.spelled (sym q) in
    let size : length others ≡ length bytes = omega arith in
    let same : bytes ≡ others = sym (take-append_seam bytes rest) ∙ (ap (take (length bytes)) q ∙ take_at others left (length bytes) size) in
    let after : rest ≡ left = sym (drop-append_seam bytes rest) ∙ (ap (drop (length bytes)) q ∙ drop_at others left (length bytes) size) in
    let token_same : t ≡ u = spelled_once second one.spelled other.spelled same in
    record { bytes_same = same; rest_same = after; found_same = cc }

pub begins_once : (second : Bool) {place at : ℕ} {bytes others rest left : List ℕ} {found more : List Lexeme} → Begins second place bytes rest found → Begins second at others left more → place ≡ at → bytes ++ rest ≡ others ++ left → SameStep bytes others rest left found more
begins_once second (a_blank b rest _) (a_blank c left _) here q = record { bytes_same = cc; rest_same = cc; found_same = refl }
begins_once second (a_blank b rest h) (a_comment others left _ _) here q = let same : b ≡ 35 = cc in absurd (grind (arith, nat_tests, h, same))
begins_once second (a_blank b rest h) (a_token others left t stands) here q = absurd (spelled_no_gap second left (b ∷ rest) stands.spelled (sym q) (blank_gap b h))
begins_once second (a_comment bytes rest _ _) (a_blank c left h) here q = let same : c ≡ 35 = cc in absurd (grind (arith, nat_tests, h, same))
begins_once second (a_comment bytes rest v ends) (a_comment others left w stops) here q =
    let same = line_once bytes others rest left v w ends stops cc in
    record { bytes_same = ap (λ bytes. 35 ∷ bytes) same.0; rest_same = same.1; found_same = refl }
begins_once second (a_comment bytes rest _ _) (a_token others left t stands) here q = absurd (spelled_no_gap second left (35 ∷ (bytes ++ rest)) stands.spelled (sym q) refl)
begins_once second (a_token bytes rest t stands) (a_blank c left h) here q = absurd (spelled_no_gap second rest (c ∷ left) stands.spelled q (blank_gap c h))
begins_once second (a_token bytes rest t stands) (a_comment others left _ _) here q = absurd (spelled_no_gap second rest (35 ∷ (others ++ left)) stands.spelled q refl)
begins_once second {place = place} {at = at} (a_token bytes rest t one) (a_token others left u other) here q = stands_once second bytes others rest left t u place at one other here q

-- a text whose first byte begins no blank and no comment
pub no_gap : (text : List ℕ) → begins is_gap text ≡ false → (second : Bool) (place : ℕ) (bytes rest : List ℕ) → Begins second place bytes rest [] → text ≢ bytes ++ rest
no_gap text none second place bytes rest b q = go b q
  where
    go : {bytes rest : List ℕ} → Begins second place bytes rest [] → text ≡ bytes ++ rest → ⊥
    go (a_blank b rest h) q = let gap : begins is_gap text ≡ true = subst (λ text. begins is_gap text ≡ true) (sym q) (blank_gap b h) in absurd cc
    go (a_comment bytes rest _ _) q = let gap : begins is_gap text ≡ true = subst (λ text. begins is_gap text ≡ true) (sym q) refl in absurd cc

pub blank_found : (text : List ℕ) → 0 < length text → is_blank (get_or text 0 0) ≡ true → IsGap text 1
blank_found [] some h = absurd (omega arith)
blank_found (b ∷ rest) some h = record { some = omega arith; fits = omega arith; begins = λ second place. a_blank b rest h }

line_ends : (line : List ℕ) → EndsLine (drop (prefix_len is_in_line line) line)
line_ends [] = tt
line_ends (b ∷ line) = elim (nat_eq b 10) as (λ x. nat_eq b 10 ≡ x → EndsLine (drop (cond (not x) (1 + prefix_len is_in_line line) 0) (b ∷ line))) [
  | true ↦ λ e. grind (arith, nat_tests, e)
  | false ↦ λ _. (
      let more : suc (prefix_len is_in_line line) ≡ 1 + prefix_len is_in_line line = omega arith in
      subst (λ n. EndsLine (drop n (b ∷ line))) more (line_ends line))
] refl

pub comment_found : (text : List ℕ) (n : ℕ) → 0 < length text → get_or text 0 0 ≡ 35 → n ≡ prefix_len is_in_line text → IsGap text n
comment_found [] n some h run = absurd (omega arith)
comment_found (b ∷ line) n some h run =
    let len : n ≡ suc (prefix_len is_in_line line) = subst (λ b. n ≡ prefix_len is_in_line (b ∷ line) → n ≡ suc (prefix_len is_in_line line)) (sym h) (λ run. omega (arith, run)) run in
    let fits : n ≤ length (b ∷ line) = omega (arith, len, prefix_len-le-length is_in_line line) in
    record {
      some = omega arith;
      fits = fits;
      begins = λ second place.
          subst (λ len. Begins second place (take len (b ∷ line)) (drop len (b ∷ line)) []) (sym len)
          (subst (λ b. Begins second place (b ∷ take (prefix_len is_in_line line) line) (drop (prefix_len is_in_line line) line) []) (sym h)
          (a_comment (take (prefix_len is_in_line line) line) (drop (prefix_len is_in_line line) line) (every_front is_in_line line) (line_ends line)));
    }

pub no_gap_found : (text : List ℕ) → 0 < length text → is_blank (get_or text 0 0) ≡ false → (get_or text 0 0 ≡ 35 → ⊥) → FindsGap text None
no_gap_found [] some h other = absurd (omega arith)
no_gap_found (b ∷ rest) some h other = no_gap (b ∷ rest) (grind (arith, nat_tests, h, other))

-- a step over a token
pub token_step : (lexemes new : List Lexeme) (text : List ℕ) (place len : ℕ) (t : Token) → StandsAt (is_second_version lexemes) (take (length text - place) (drop place text)) t len → place < length text → new ≡ lexemes ++ record { token = t; place = place } ∷ [] → Steps lexemes new text place (place + len)
token_step lexemes new text place len t at within added =
    let behind : take (length text - place) (drop place text) ≡ drop place text = take_all (length text - place) (drop place text) (omega (arith, length-drop place text)) in
    let at = subst (λ rest. StandsAt (is_second_version lexemes) rest t len) behind at in
    record { len = len; found = record { token = t; place = place } ∷ []; begins = a_token (take len (drop place text)) (drop len (drop place text)) t at.stands; added = added; is = refl; further = omega (arith, at.some); fits = omega (arith, at.fits, length-drop place text) }
