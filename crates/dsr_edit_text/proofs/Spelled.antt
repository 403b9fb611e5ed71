-- Which words are names.
use Rattle.std.proofs.Common.{◌≡◌, ◌≢◌, ◌<◌, ◌≤◌, ◌∙◌, ℕ, Bool, true, false, IsTrue, Decides, List, [], ◌∷◌, Option, None, Some, length, is_some, inl, inr, refl, sym, ap, subst, arith}
use Rattle.std.specs.Prelude.{codes}
use Rattle.std.proofs.lemmas.Bool.{false≢true}
use Rattle.dsr_edit_text.specs.Scripts.{IsName, IsRecordText, SetText}
use Rattle.dsr_lexer.proofs.Reaches.{letter_in_word}
use Rattle.dsr_lexer.proofs.Shapes.{both}
use Rattle.dsr_lexer.specs.Front.{begins}
use Rattle.dsr_lexer.specs.Spelled.{FindsKeyword}
use Rattle.dsr_syntax_theory.specs.Tokens.{every, is_in_word, is_keyword, is_letter, keyword_spelling, Spells, a_keyword, a_name, a_decimal, a_hexadecimal, a_sign}
use Rattle.dsr_tree.specs.declared.tokens.Keyword.{Keyword}
use Rattle.dsr_tree.specs.declared.tokens.Token.{Token}
use Rattle.dsr_tree.specs.declared.tokens.Token.TheVariants as token

-- what is so of a word that spells a name
pub record IsSpelled (second : Bool) (word : List ℕ) : Type 0 where
  pub letter : begins is_letter word ≡ true
  pub all : every is_in_word word ≡ true
  pub no_keyword : (k : Keyword) → IsTrue (is_keyword second k) → word ≢ keyword_spelling k

in_word : (b : ℕ) (bytes : List ℕ) → is_letter b ≡ true → every is_in_word bytes ≡ true → every is_in_word (b ∷ bytes) ≡ true
in_word b bytes letter all = rw (letter_in_word b letter) all

spelled_so : (second : Bool) (word name : List ℕ) (t : Token) → Spells second word t → t ≡ token.Name name → IsSpelled second word
spelled_so second _ name _ (a_keyword k one) is = absurd cc
spelled_so second _ name _ (a_name b bytes letter all none) is = record { letter = letter; all = in_word b bytes letter all; no_keyword = none }
spelled_so second _ name _ (a_decimal d digits all) is = absurd cc
spelled_so second _ name _ (a_hexadecimal d digits all) is = absurd cc
spelled_so second _ name _ (a_sign s) is = absurd cc

pub spelled : (second : Bool) (word : List ℕ) → IsName second word → IsSpelled second word
spelled second word its = spelled_so second word word (token.Name word) its.spelled refl

spells : (second : Bool) (word : List ℕ) → begins is_letter word ≡ true → every is_in_word word ≡ true → ((k : Keyword) → IsTrue (is_keyword second k) → word ≢ keyword_spelling k) → Spells second word (token.Name word)
spells second [] letter all none = absurd cc
spells second (b ∷ bytes) letter all none = a_name b bytes letter (both (is_in_word b) (every is_in_word bytes) all).1 none

-- ---- how a test ends

pub no_letter : (second : Bool) (word : List ℕ) → begins is_letter word ≡ false → Decides false (IsName second word)
no_letter second word other = (λ e. absurd (false≢true e), λ its. sym other ∙ (spelled second word its).letter)

pub too_long : (second : Bool) (word : List ℕ) (n : ℕ) → n ≡ length word → 32 < n → Decides false (IsName second word)
too_long second word n long more = (λ e. absurd (false≢true e), λ its. absurd (let short = its.small in omega (arith, short, long, more)))

pub a_keyword_found : (second : Bool) (word : List ℕ) (found : Option Keyword) (k : Keyword) → found ≡ Some k → FindsKeyword second word found → Decides false (IsName second word)
a_keyword_found second word found k is finds =
    let its : FindsKeyword second word (Some k) = subst (FindsKeyword second word) is finds in
    (λ e. absurd (false≢true e), λ name. absurd ((spelled second word name).no_keyword k its.0 its.1))

pub no_keyword_found : (second : Bool) (word : List ℕ) (found : Option Keyword) (n : ℕ) → found ≡ None → FindsKeyword second word found
    → begins is_letter word ≡ true → every is_in_word word ≡ true → n ≡ length word → n ≤ 32 → Decides true (IsName second word)
no_keyword_found second word found n is finds letter all long short =
    (λ _. record { spelled = spells second word letter all (subst (FindsKeyword second word) is finds); small = omega (arith, long, short) }, λ _. refl)

-- ---- records

pub record_of_slot : (second : Bool) (set : SetText) (slot : ℕ) → set.slot ≡ Some slot → (b : Bool) → Decides b (IsName second set.pool) → Decides b (IsRecordText second set)
record_of_slot second set slot is b decides = (
  λ e. inr (decides.0 e, ap is_some is),
  λ its. elim its [
    | inl head ↦ absurd (let none : Some slot ≡ None = sym is ∙ head.1 in cc)
    | inr name ↦ decides.1 name.0
  ],
)

pub record_of_head : (second : Bool) (set : SetText) → set.slot ≡ None → (b : Bool) → Decides b (set.pool ≡ codes "head") → Decides b (IsRecordText second set)
record_of_head second set is b decides = (
  λ e. inl (decides.0 e, is),
  λ its. elim its [
    | inl head ↦ decides.1 head.0
    | inr name ↦ absurd (false≢true (sym (ap is_some is) ∙ name.1))
  ],
)

pub record_word : (second : Bool) (set : SetText) → IsRecordText second set → every is_in_word set.pool ≡ true
record_word second set its = elim its [
  | inl head ↦ ap (every is_in_word) head.0
  | inr name ↦ (spelled second set.pool name.0).all
]
