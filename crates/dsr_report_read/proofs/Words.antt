-- Words and lines, by their bytes.
use Rattle.std.proofs.Common.{◌≡◌, ◌<◌, ◌+◌, ◌^◌, ◌++◌, ◌∙◌, ℕ, Bool, true, false, List, [], ◌∷◌, refl, sym, ap, arith}
use Rattle.std.specs.Prelude.{decimal, ◌&&◌}
use Rattle.std.specs.Str.Parse.{AllDigits}
use Rattle.std.proofs.lemmas.Bool.Decides.{nat_tests}
use Rattle.std.proofs.lemmas.Fmt.{decimal_is_IsNumeral}
use Rattle.std.proofs.lemmas.Str.Parse.{digit_from_value}
use Rattle.dsr_syntax_theory.specs.Tokens.{every, is_in_line, is_in_word}

pub both_of : (p q : Bool) → (p && q) ≡ true → (p ≡ true) × (q ≡ true)
both_of true true is = (refl, refl)
both_of true false is = absurd cc
both_of false q is = absurd cc

pub all_of : (p q : Bool) → p ≡ true → q ≡ true → (p && q) ≡ true
all_of p q one two = ap (λ b. b && q) one ∙ two

-- ---- texts whose bytes pass a test

abbrev pub Passes : (ℕ → Bool) → List ℕ → Type 0
Passes test text = every test text ≡ true

pub passes_both : (test : ℕ → Bool) (a b : List ℕ) → Passes test a → Passes test b → Passes test (a ++ b)
passes_both test [] b one two = two
passes_both test (x ∷ a) b one two =
    let its = both_of (test x) (every test a) one in
    all_of (test x) (every test (a ++ b)) its.0 (passes_both test a b its.1 two)

passes_more : (p q : ℕ → Bool) → ((x : ℕ) → p x ≡ true → q x ≡ true) → (a : List ℕ) → Passes p a → Passes q a
passes_more p q more [] is = refl
passes_more p q more (x ∷ a) is =
    let its = both_of (p x) (every p a) is in
    all_of (q x) (every q a) (more x its.0) (passes_more p q more a its.1)

-- a word of letters, digits and `_`
abbrev pub IsWord : List ℕ → Type 0
IsWord text = Passes is_in_word text

-- a text with no line feed
abbrev pub IsClean : List ℕ → Type 0
IsClean text = Passes is_in_line text

word_byte : (x : ℕ) → is_in_word x ≡ true → is_in_line x ≡ true
word_byte x is = grind (arith, nat_tests)

pub word_clean : (a : List ℕ) → IsWord a → IsClean a
word_clean a is = passes_more is_in_word is_in_line word_byte a is

digit_byte : (d : ℕ) → 48 < d + 1 → is_in_line d ≡ true
digit_byte d low = grind (arith, nat_tests)

digits_clean : (ds : List ℕ) → AllDigits 10 ds → IsClean ds
digits_clean [] all = refl
digits_clean (d ∷ ds) all =
    let range = digit_from_value d all.0 in
    let low = range.0 in
    all_of (is_in_line d) (every is_in_line ds) (digit_byte d (omega (arith, low))) (digits_clean ds all.1)

pub number_clean : (n : ℕ) → n < 2 ^ 64 → IsClean (decimal n)
number_clean n small = digits_clean (decimal n) (decimal_is_IsNumeral n small).0.1

-- ---- the word at the front of a text

-- no word goes on there
abbrev pub Stops : List ℕ → Type 0
Stops [] = Unit {0}
Stops (b ∷ rest) = is_in_word b ≡ false

pub record AreSame (a b r s : List ℕ) : Type 0 where
  pub words : a ≡ b
  pub rests : r ≡ s

pub same_words : (a b r s : List ℕ) → IsWord a → IsWord b → Stops r → Stops s → a ++ r ≡ b ++ s → AreSame a b r s
same_words [] [] r s one two ends stops is = record { words = refl; rests = is }
same_words [] (y ∷ b) [] s one two ends stops is = absurd cc
same_words [] (y ∷ b) (x ∷ r) s one two ends stops is =
    let same : x ≡ y = cc in
    let its : is_in_word y ≡ true = (both_of (is_in_word y) (every is_in_word b) two).0 in
    let other : false ≡ true = sym ends ∙ (ap is_in_word same ∙ its) in
    absurd cc
same_words (x ∷ a) [] r [] one two ends stops is = absurd cc
same_words (x ∷ a) [] r (y ∷ s) one two ends stops is =
    let same : x ≡ y = cc in
    let its : is_in_word x ≡ true = (both_of (is_in_word x) (every is_in_word a) one).0 in
    let other : false ≡ true = sym stops ∙ (ap is_in_word (sym same) ∙ its) in
    absurd cc
same_words (x ∷ a) (y ∷ b) r s one two ends stops is =
    let first : x ≡ y = cc in
    let rest : a ++ r ≡ b ++ s = cc in
    let its = same_words a b r s (both_of (is_in_word x) (every is_in_word a) one).1 (both_of (is_in_word y) (every is_in_word b) two).1 ends stops rest in
    record { words = ap (λ z. z ∷ a) first ∙ ap (λ t. y ∷ t) its.words; rests = its.rests }
