-- What the machine's end over the tokens of a text says of the text.
use Rattle.std.specs.List.{slice_get}
use Rattle.std.proofs.Common.{◌≡◌, ◌<◌, ◌+◌, ◌-◌, ◌⊎◌, inl, inr, ℕ, zero, suc, List, [], ◌∷◌, ◌++◌, length, Option, Some, None, sym, ap, subst, ◌∙◌, arith, append-nil, append_assoc}
use Rattle.dsr_tree.specs.declared.tokens.Lexeme.{Lexeme}
use Rattle.dsr_syntax_theory.specs.Grammar.{spec}
use Rattle.dsr_syntax_theory.specs.Tokens.{IsLexed}
use Rattle.dsr_syntax_theory.specs.Sentences.{IsSentence, IsFront, StandFirst, IsSpecText, IsNoToken, IsUnexpected, at_token, at_end, IsPastLimit, past_limit}
use Rattle.dsr_lexer.specs.Lexing.{AreFrontTokens}
use Rattle.dsr_lexer.proofs.Laws.{lexed_once, fault_not_lexed}
use Rattle.dsr_lexer.proofs.Fronts.{front_stands, fewer_stand}
use Rattle.dsr_parse.specs.Machine.{Accepts, StopsAt, Exceeds, run}
use Rattle.dsr_parse.proofs.Sentences.{stops_within, exceeds_within, sentence_accepted, accepted, sentence_front, stopped_front, exceeds_front, stopped_none, exceeds_leads, exceeds_only}

-- ---- a specification

pub spec_text : (text : List ℕ) (ls : List Lexeme) → IsLexed text ls → run ls 0 (spec ∷ []) ≡ Accepts → IsSpecText text
spec_text text ls lexed e = record { lexemes = ls; lexed = lexed; sentence = accepted ls e }

-- ---- a token

-- the tokens up to one of them stand first in their text
up_to : (text : List ℕ) (before after : List Lexeme) (found : Lexeme) (fault : Option ℕ) → AreFrontTokens text (before ++ found ∷ after) fault → StandFirst text (before ++ found ∷ [])
up_to text before after found fault front =
    fewer_stand text (before ++ found ∷ []) after (subst (StandFirst text) (sym (append_assoc before (found ∷ []) after)) (front_stands text (before ++ found ∷ after) fault front))

pub unexpected_at : (text : List ℕ) (before after : List Lexeme) (found : Lexeme) (fault : Option ℕ) → AreFrontTokens text (before ++ found ∷ after) fault → run (before ++ found ∷ after) 0 (spec ∷ []) ≡ StopsAt (suc (length after)) → IsUnexpected text found.place
unexpected_at text before after found fault front e =
    at_token before found (up_to text before after found fault front) (stopped_front before (found ∷ after) e) (stopped_none before found after e)

pub past_limit_at : (text : List ℕ) (before after : List Lexeme) (found : Lexeme) (fault : Option ℕ) → AreFrontTokens text (before ++ found ∷ after) fault → run (before ++ found ∷ after) 0 (spec ∷ []) ≡ Exceeds (suc (length after)) → IsPastLimit text found.place
past_limit_at text before after found fault front e =
    past_limit before found (up_to text before after found fault front) (exceeds_front before (found ∷ after) e) (exceeds_leads before found after e) (exceeds_only before found after e)

-- ---- the end of the tokens

-- tokens behind which the machine still waits begin some specification
waiting_front : (ls : List Lexeme) → run ls 0 (spec ∷ []) ≡ StopsAt 0 → IsFront ls
waiting_front ls e = stopped_front ls [] (ap (λ w. run w 0 (spec ∷ [])) (append-nil ls) ∙ e)

pub unexpected_end : (text : List ℕ) (ls : List Lexeme) → IsLexed text ls → run ls 0 (spec ∷ []) ≡ StopsAt 0 → IsUnexpected text (length text)
unexpected_end text ls lexed e = at_end ls lexed (waiting_front ls e) (λ sentence. let whole = sentence_accepted ls sentence in absurd cc)

pub no_token : (text : List ℕ) (ls : List Lexeme) (place : ℕ) → AreFrontTokens text ls (Some place) → (run ls 0 (spec ∷ []) ≡ StopsAt 0) ⊎ (run ls 0 (spec ∷ []) ≡ Accepts) → IsNoToken text place
no_token text ls place front ends = record { fault = front.0; front = subst IsFront (sym front.1) begun }
  where
    begun : IsFront ls
    begun = elim ends as (λ _. IsFront ls) [ inl e ↦ waiting_front ls e | inr e ↦ sentence_front ls (accepted ls e) ]

-- ---- no specification

pub fault_not_spec : (text : List ℕ) (ls : List Lexeme) (place : ℕ) → AreFrontTokens text ls (Some place) → IsSpecText text → ⊥
fault_not_spec text ls place front is = fault_not_lexed text place is.lexemes front.0 is.lexed

-- the tokens of a specification are accepted
front_accepted : (text : List ℕ) (ls : List Lexeme) (fault : Option ℕ) → AreFrontTokens text ls fault → IsSpecText text → run ls 0 (spec ∷ []) ≡ Accepts
front_accepted text ls None lexed is = sentence_accepted ls (subst IsSentence (lexed_once text is.lexemes ls is.lexed lexed) is.sentence)
front_accepted text ls (Some place) front is = absurd (fault_not_spec text ls place front is)

pub stopped_not_spec : (text : List ℕ) (ls : List Lexeme) (fault : Option ℕ) (left : ℕ) → AreFrontTokens text ls fault → run ls 0 (spec ∷ []) ≡ StopsAt left → IsSpecText text → ⊥
stopped_not_spec text ls fault left front e is = let whole = front_accepted text ls fault front is in absurd cc

pub exceeds_not_spec : (text : List ℕ) (ls : List Lexeme) (fault : Option ℕ) (left : ℕ) → AreFrontTokens text ls fault → run ls 0 (spec ∷ []) ≡ Exceeds left → IsSpecText text → ⊥
exceeds_not_spec text ls fault left front e is = let whole = front_accepted text ls fault front is in absurd cc

-- ---- a token by its number

-- tokens around one of them
record Split (ls : List Lexeme) (i : ℕ) (found : Lexeme) : Type 0 where
  before : List Lexeme
  after : List Lexeme
  is : ls ≡ before ++ found ∷ after
  size : i + suc (length after) ≡ length ls

split : (ls : List Lexeme) (i : ℕ) (found : Lexeme) → slice_get ls i ≡ Some found → Split ls i found
split [] i found e = absurd cc
split (l ∷ ls) zero found e = record { before = []; after = ls; is = cc; size = omega arith }
split (l ∷ ls) (suc i) found e =
    let parts = split ls i found e in
    record { before = l ∷ parts.before; after = parts.after; is = ap (λ ls. l ∷ ls) parts.is; size = omega (arith, parts.size) }

pub unexpected_index : (text : List ℕ) (ls : List Lexeme) (found : Lexeme) (fault : Option ℕ) (i left : ℕ) → AreFrontTokens text ls fault → i < length ls → slice_get ls i ≡ Some found → left ≡ length ls - i → run ls 0 (spec ∷ []) ≡ StopsAt left → IsUnexpected text found.place
unexpected_index text ls found fault i left front _ at is e =
    let parts = split ls i found at in
    let same : left ≡ suc (length parts.after) = omega (arith, is, parts.size) in
    unexpected_at text parts.before parts.after found fault (subst (λ ls. AreFrontTokens text ls fault) parts.is front) (ap (λ ls. run ls 0 (spec ∷ [])) (sym parts.is) ∙ (e ∙ ap StopsAt same))

pub past_limit_index : (text : List ℕ) (ls : List Lexeme) (found : Lexeme) (fault : Option ℕ) (i left : ℕ) → AreFrontTokens text ls fault → i < length ls → slice_get ls i ≡ Some found → left ≡ length ls - i → run ls 0 (spec ∷ []) ≡ Exceeds left → IsPastLimit text found.place
past_limit_index text ls found fault i left front _ at is e =
    let parts = split ls i found at in
    let same : left ≡ suc (length parts.after) = omega (arith, is, parts.size) in
    past_limit_at text parts.before parts.after found fault (subst (λ ls. AreFrontTokens text ls fault) parts.is front) (ap (λ ls. run ls 0 (spec ∷ [])) (sym parts.is) ∙ (e ∙ ap Exceeds same))

-- ..and by the number of those that are left
pub unexpected_left : (text : List ℕ) (ls : List Lexeme) (found : Lexeme) (fault : Option ℕ) (left : ℕ) → AreFrontTokens text ls fault → slice_get ls (length ls - left) ≡ Some found → run ls 0 (spec ∷ []) ≡ StopsAt left → IsUnexpected text found.place
unexpected_left text ls found fault left front at e =
    let parts = split ls (length ls - left) found at in
    let within = stops_within ls 0 left (spec ∷ []) e in
    unexpected_index text ls found fault (length ls - left) left front (omega (arith, parts.size)) at (omega (arith, within)) e

pub past_limit_left : (text : List ℕ) (ls : List Lexeme) (found : Lexeme) (fault : Option ℕ) (left : ℕ) → AreFrontTokens text ls fault → slice_get ls (length ls - left) ≡ Some found → run ls 0 (spec ∷ []) ≡ Exceeds left → IsPastLimit text found.place
past_limit_left text ls found fault left front at e =
    let parts = split ls (length ls - left) found at in
    let within = exceeds_within ls 0 left (spec ∷ []) e in
    past_limit_index text ls found fault (length ls - left) left front (omega (arith, parts.size)) at (omega (arith, within)) e
