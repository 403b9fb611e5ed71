-- From what a search finds at the front of a text to the token that stands there.
use Rattle.std.proofs.Common.{◌≡◌, ◌≢◌, ℕ, zero, suc, ◌+◌, ◌-◌, ◌<◌, ◌≤◌, ◌^◌, List, [], ◌∷◌, ◌++◌, length, take, drop, Bool, true, false, refl, ap, ◌∙◌, sym, subst, IsTrue, arith, length-append, length-drop, Some, None}
use Rattle.std.specs.List.{prefix_len}
use Rattle.std.proofs.lemmas.List.{take-append-drop, take_at, take_all, length-take-le}
use Rattle.std.proofs.lemmas.List.Sums.{prefix_len-le-length}
use Rattle.dsr_tree.specs.declared.tokens.Keyword.{Keyword}
use Rattle.dsr_tree.specs.declared.tokens.Sign.{Sign}
use Rattle.dsr_tree.specs.declared.tokens.Token.{Token}
use Rattle.dsr_tree.specs.declared.tokens.Token.TheVariants as token
use Rattle.dsr_syntax_theory.specs.Tokens.{is_letter, is_digit, is_hexadecimal_digit, is_in_word, every, keyword_spelling, sign_spelling, value_after, is_keyword, Spells, a_keyword, a_name, a_decimal, a_hexadecimal, a_sign, IsWithinLimits}
use Rattle.dsr_lexer.specs.Front.{begins, begins_hexadecimal, number_below, StandsAt, NoneStands}
use Rattle.dsr_lexer.specs.Spelled.{BeginsWithSign}
use Rattle.dsr_lexer.proofs.Lookups.{sign_some}
use Rattle.dsr_lexer.proofs.Numbers.{below_some, below_none}
use Rattle.dsr_lexer.proofs.Shapes.{both, every_front, every_as, digit_is_hexadecimal, keyword_begins, spelled_once}
use Rattle.dsr_lexer.proofs.Reaches.{Reaches, begins_more, letter_in_word, word_reaches, digits_reach, hexadecimal_reaches, sign_reaches, is_hexadecimal}

-- the first bytes of a text spell a token, and no token there is longer
pub record SpellsFront (second : Bool) (text : List ℕ) (t : Token) (n : ℕ) : Type 0 where
  pub some : 0 < n
  pub fits : n ≤ length text
  pub spelled : Spells second (take n text) t
  pub reaches : Reaches second text n

front_length : (n : ℕ) (text : List ℕ) → n ≤ length text → length (take n text) ≡ n
front_length n text fits = length-take-le n text fits

pub stands_at : (second : Bool) (text : List ℕ) (t : Token) (n : ℕ) → SpellsFront second text t n → IsWithinLimits t → StandsAt second text t n
stands_at second text t n front limits = record { some = front.some; fits = front.fits; stands = record { spelled = front.spelled; longest = longest; limits = limits } }
  where
    longest : (other : Token) (longer after : List ℕ) → Spells second longer other → take n text ++ drop n text ≡ longer ++ after → length longer ≤ length (take n text)
    longest other longer after s q = rw (front_length n text front.fits) (front.reaches other longer after s (sym (take-append-drop n text) ∙ q))

pub none_stands : (second : Bool) (text : List ℕ) (t : Token) (n : ℕ) → SpellsFront second text t n → (IsWithinLimits t → ⊥) → NoneStands second text
none_stands second text t n front past found bytes rest stands q =
    let short : length bytes ≤ n = front.reaches found bytes rest stands.spelled q in
    let long : length (take n text) ≤ length bytes = stands.longest t (take n text) (drop n text) front.spelled (sym q ∙ sym (take-append-drop n text)) in
    let same : length bytes ≡ n = omega (arith, front_length n text front.fits, long) in
    let front_is : take n text ≡ bytes = ap (take n) q ∙ take_at bytes rest n same in
    past (subst (λ t. IsWithinLimits t) (spelled_once second stands.spelled front.spelled (sym front_is)) stands.limits)

prefix_positive : (passes : ℕ → Bool) (text : List ℕ) → begins passes text ≡ true → 0 < prefix_len passes text
prefix_positive passes [] h = absurd cc
prefix_positive passes (b ∷ text) h = rw h (omega arith)

begins_front : (passes : ℕ → Bool) (n : ℕ) (text : List ℕ) → 0 < n → begins passes text ≡ true → begins passes (take n text) ≡ true
begins_front passes zero text some h = absurd (omega arith)
begins_front passes (suc n) [] some h = absurd cc
begins_front passes (suc n) (b ∷ text) some h = h

letter_begins_word : (text : List ℕ) → begins is_letter text ≡ true → begins is_in_word text ≡ true
letter_begins_word [] l = absurd cc
letter_begins_word (b ∷ text) l = letter_in_word b l

-- the run of word bytes at the front
word_front : (second : Bool) (text : List ℕ) (t : Token) → begins is_letter text ≡ true → Spells second (take (prefix_len is_in_word text) text) t → SpellsFront second text t (prefix_len is_in_word text)
word_front second text t l s = record { some = prefix_positive is_in_word text (letter_begins_word text l); fits = prefix_len-le-length is_in_word text; spelled = s; reaches = word_reaches second text l }

spells_name : (second : Bool) (word : List ℕ) → begins is_letter word ≡ true → every is_in_word word ≡ true → ((k : Keyword) → IsTrue (is_keyword second k) → word ≢ keyword_spelling k) → Spells second word (token.Name word)
spells_name second [] l w none = absurd cc
spells_name second (b ∷ bytes) l w none = a_name b bytes l (both (is_in_word b) (every is_in_word bytes) w).1 none

name_front : (second : Bool) (text : List ℕ) → begins is_letter text ≡ true → ((k : Keyword) → IsTrue (is_keyword second k) → take (prefix_len is_in_word text) text ≢ keyword_spelling k) → SpellsFront second text (token.Name (take (prefix_len is_in_word text) text)) (prefix_len is_in_word text)
name_front second text l none = word_front second text (token.Name (take (prefix_len is_in_word text) text)) l
    (spells_name second (take (prefix_len is_in_word text) text) (begins_front is_letter (prefix_len is_in_word text) text (prefix_positive is_in_word text (letter_begins_word text l)) l) (every_front is_in_word text) none)

pub keyword_stands : (second : Bool) (text : List ℕ) (n : ℕ) (k : Keyword) → begins is_letter text ≡ true → n ≡ prefix_len is_in_word text → IsTrue (is_keyword second k) → take n text ≡ keyword_spelling k → StandsAt second text (token.Keyword k) n
keyword_stands second text n k l run one is = subst (λ n. StandsAt second text (token.Keyword k) n) (sym run)
    (stands_at second text (token.Keyword k) (prefix_len is_in_word text) (word_front second text (token.Keyword k) l (subst (λ word. Spells second word (token.Keyword k)) (sym is ∙ ap (λ n. take n text) run) (a_keyword k one))) tt)

name_at : (second : Bool) (text : List ℕ) (n : ℕ) → begins is_letter text ≡ true → n ≡ prefix_len is_in_word text → ((k : Keyword) → IsTrue (is_keyword second k) → take n text ≢ keyword_spelling k) → SpellsFront second text (token.Name (take n text)) n
name_at second text n l run none = subst (λ n. SpellsFront second text (token.Name (take n text)) n) (sym run)
    (name_front second text l (subst (λ n. (k : Keyword) → IsTrue (is_keyword second k) → take n text ≢ keyword_spelling k) run none))

pub name_stands : (second : Bool) (text : List ℕ) (n : ℕ) (name : List ℕ) → begins is_letter text ≡ true → n ≡ prefix_len is_in_word text → ((k : Keyword) → IsTrue (is_keyword second k) → take n text ≢ keyword_spelling k) → n ≤ 32 → name ≡ take n text → StandsAt second text (token.Name name) n
name_stands second text n name l run none short is =
    let front : SpellsFront second text (token.Name (take n text)) n = name_at second text n l run none in
    subst (λ name. StandsAt second text (token.Name name) n) (sym is)
    (stands_at second text (token.Name (take n text)) n front (omega (arith, front_length n text front.fits)))

pub name_too_long : (second : Bool) (text : List ℕ) (n : ℕ) → begins is_letter text ≡ true → n ≡ prefix_len is_in_word text → ((k : Keyword) → IsTrue (is_keyword second k) → take n text ≢ keyword_spelling k) → 32 < n → NoneStands second text
name_too_long second text n l run none long =
    let front : SpellsFront second text (token.Name (take n text)) n = name_at second text n l run none in
    none_stands second text (token.Name (take n text)) n front (λ short. omega (arith, short, front_length n text front.fits))

spells_decimal : (second : Bool) (digits : List ℕ) → 0 < length digits → every is_digit digits ≡ true → Spells second digits (token.Number (value_after 10 0 digits))
spells_decimal second [] some h = absurd (omega arith)
spells_decimal second (d ∷ digits) some h = a_decimal d digits h

spells_hexadecimal : (second : Bool) (digits : List ℕ) → 0 < length digits → every is_hexadecimal_digit digits ≡ true → Spells second (48 ∷ 120 ∷ digits) (token.Number (value_after 16 0 digits))
spells_hexadecimal second [] some h = absurd (omega arith)
spells_hexadecimal second (d ∷ digits) some h = a_hexadecimal d digits h

decimal_run : (second : Bool) (text : List ℕ) → begins is_digit text ≡ true → begins_hexadecimal text ≡ false → SpellsFront second text (token.Number (value_after 10 0 (take (prefix_len is_digit text) text))) (prefix_len is_digit text)
decimal_run second text d plain =
    let fits : prefix_len is_digit text ≤ length text = prefix_len-le-length is_digit text in
    let some : 0 < prefix_len is_digit text = prefix_positive is_digit text d in
    record {
      some = some;
      fits = fits;
      spelled = spells_decimal second (take (prefix_len is_digit text) text) (omega (arith, front_length (prefix_len is_digit text) text fits)) (every_front is_digit text);
      reaches = digits_reach second text d plain;
    }

-- the decimal digits at the front
pub decimal_front : (second : Bool) (text : List ℕ) (n : ℕ) → begins is_digit text ≡ true → begins_hexadecimal text ≡ false → n ≡ prefix_len is_digit text → SpellsFront second text (token.Number (value_after 10 0 (take n text))) n
decimal_front second text n d plain run = subst (λ n. SpellsFront second text (token.Number (value_after 10 0 (take n text))) n) (sym run) (decimal_run second text d plain)

hexadecimal_run : (second : Bool) (text : List ℕ) (n : ℕ) → begins_hexadecimal text ≡ true → n ≡ prefix_len is_hexadecimal_digit (drop 2 text) → Spells second (take (suc (suc n)) text) (token.Number (value_after 16 0 (take n (drop 2 text))))
hexadecimal_run second text n x run =
    let front = is_hexadecimal text x in
    subst (λ text. n ≡ prefix_len is_hexadecimal_digit (drop 2 text) → Spells second (take (suc (suc n)) text) (token.Number (value_after 16 0 (take n (drop 2 text))))) (sym front.is)
    (λ run. spells_hexadecimal second (take n (front.first ∷ front.more))
    (omega (arith, run, prefix_positive is_hexadecimal_digit (front.first ∷ front.more) front.digit, front_length n (front.first ∷ front.more) (omega (arith, run, prefix_len-le-length is_hexadecimal_digit (front.first ∷ front.more)))))
    (subst (λ n. every is_hexadecimal_digit (take n (front.first ∷ front.more)) ≡ true) (sym run) (every_front is_hexadecimal_digit (front.first ∷ front.more))))
    run

behind_two : (text : List ℕ) → take (length text - 2) (drop 2 text) ≡ drop 2 text
behind_two text = take_all (length text - 2) (drop 2 text) (omega (arith, length-drop 2 text))

-- `0x` and the hexadecimal digits at the front
hexadecimal_front : (second : Bool) (text : List ℕ) (n len : ℕ) → begins_hexadecimal text ≡ true → n ≡ prefix_len is_hexadecimal_digit (drop 2 text) → len ≡ 2 + n → SpellsFront second text (token.Number (value_after 16 0 (take n (drop 2 text)))) len
hexadecimal_front second text n len x run is =
    let front = is_hexadecimal text x in
    let all : length text ≡ 2 + length (drop 2 text) = subst (λ text. length text ≡ 2 + length (drop 2 text)) (sym front.is) (omega arith) in
    let two : suc (suc n) ≡ len = omega arith in
    record {
      some = omega arith;
      fits = omega (arith, all, prefix_len-le-length is_hexadecimal_digit (drop 2 text));
      spelled = subst (λ len. Spells second (take len text) (token.Number (value_after 16 0 (take n (drop 2 text))))) two (hexadecimal_run second text n x run);
      reaches = λ other longer after s q. omega (arith, hexadecimal_reaches second text x other longer after s q, run);
    }

pub hexadecimal_at : (second : Bool) (text : List ℕ) (n : ℕ) → begins_hexadecimal text ≡ true → n ≡ prefix_len is_hexadecimal_digit (take (length text - 2) (drop 2 text)) → SpellsFront second text (token.Number (value_after 16 0 (take n (take (length text - 2) (drop 2 text))))) (2 + n)
hexadecimal_at second text n x = subst (λ rest. n ≡ prefix_len is_hexadecimal_digit rest → SpellsFront second text (token.Number (value_after 16 0 (take n rest))) (2 + n)) (sym (behind_two text))
    (λ run. hexadecimal_front second text n (2 + n) x run refl)

pub number_stands : (second : Bool) (text : List ℕ) (n whole number : ℕ) → SpellsFront second text (token.Number whole) n → Some number ≡ number_below (2 ^ 64) whole → StandsAt second text (token.Number number) n
number_stands second text n whole number front e =
    let below = below_some (2 ^ 64) whole number e in
    subst (λ number. StandsAt second text (token.Number number) n) (sym below.0) (stands_at second text (token.Number whole) n front below.1)

pub number_too_large : (second : Bool) (text : List ℕ) (n whole : ℕ) → SpellsFront second text (token.Number whole) n → None ≡ number_below (2 ^ 64) whole → NoneStands second text
number_too_large second text n whole front e = none_stands second text (token.Number whole) n front (below_none (2 ^ 64) whole e)

-- each digit of a run is one in base 16
pub decimal_digits : (text : List ℕ) (n : ℕ) → n ≡ prefix_len is_digit text → every is_hexadecimal_digit (take n text) ≡ true
decimal_digits text n run = subst (λ n. every is_hexadecimal_digit (take n text) ≡ true) (sym run) (every_as is_digit is_hexadecimal_digit digit_is_hexadecimal (take (prefix_len is_digit text) text) (every_front is_digit text))

pub hexadecimal_digits : (text : List ℕ) (n : ℕ) → n ≡ prefix_len is_hexadecimal_digit text → every is_hexadecimal_digit (take n text) ≡ true
hexadecimal_digits text n run = subst (λ n. every is_hexadecimal_digit (take n text) ≡ true) (sym run) (every_front is_hexadecimal_digit text)

-- the sign at the front
pub sign_stands : (second : Bool) (text : List ℕ) (s : Sign) (n : ℕ) → BeginsWithSign text s → n ≡ length (sign_spelling s) → StandsAt second text (token.Sign s) n
sign_stands second text s n front is =
    let some : 0 < length (sign_spelling s) = sign_some s in
    let taken : take n text ≡ sign_spelling s = ap (take n) front.cut ∙ take_at (sign_spelling s) front.rest n (sym is) in
    let all : length text ≡ length (sign_spelling s) + length front.rest = ap length front.cut ∙ length-append (sign_spelling s) front.rest in
    stands_at second text (token.Sign s) n (record {
      some = omega arith;
      fits = omega arith;
      spelled = subst (λ bytes. Spells second bytes (token.Sign s)) (sym taken) (a_sign s);
      reaches = subst (λ n. Reaches second text n) (sym is) (sign_reaches second text s front);
    }) tt

-- bytes that begin no word, no number and no sign
pub nothing_stands : (second : Bool) (text : List ℕ) → begins is_letter text ≡ false → begins is_digit text ≡ false → ((s : Sign) (after : List ℕ) → text ≢ sign_spelling s ++ after) → NoneStands second text
nothing_stands second text l d none found bytes rest stands q = clash stands.spelled q
  where
    clash : {bytes : List ℕ} {t : Token} → Spells second bytes t → text ≡ bytes ++ rest → ⊥
    clash (a_keyword k _) q = let first : begins is_letter text ≡ true = subst (λ text. begins is_letter text ≡ true) (sym q) (begins_more is_letter (keyword_spelling k) rest (keyword_begins k).0) in absurd cc
    clash (a_name b bytes letter _ _) q = let first : begins is_letter text ≡ true = subst (λ text. begins is_letter text ≡ true) (sym q) letter in absurd cc
    clash (a_decimal e digits h) q = let first : begins is_digit text ≡ true = subst (λ text. begins is_digit text ≡ true) (sym q) (both (is_digit e) (every is_digit digits) h).0 in absurd cc
    clash (a_hexadecimal e digits h) q = let first : begins is_digit text ≡ true = subst (λ text. begins is_digit text ≡ true) (sym q) refl in absurd cc
    clash (a_sign s) q = none s rest q
