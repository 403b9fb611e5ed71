-- A text is a specification, or has one first fault of one kind.
use Rattle.std.proofs.Common.{◌≡◌, ◌⊎◌, inl, inr, ℕ, List, [], ◌∷◌, ◌++◌, true, false, Some, None, refl, sym, ap, subst, ◌∙◌, append_assoc}
use Rattle.dsr_tree.specs.declared.tokens.Lexeme.{Lexeme}
use Rattle.dsr_syntax_theory.specs.Syntax.{Derives}
use Rattle.dsr_syntax_theory.specs.Grammar.{rule_of, spec}
use Rattle.dsr_syntax_theory.specs.Tokens.{IsLexed}
use Rattle.dsr_syntax_theory.specs.Sentences.{within, IsSentence, IsFront, LeadsOn, StandFirst, IsSpecText, IsNoToken, IsUnexpected, at_token, at_end, IsPastLimit, past_limit}
use Rattle.dsr_lexer.proofs.Laws.{lexed_once, fault_not_lexed, fault_once}
use Rattle.dsr_lexer.proofs.Fronts.{Leads, fronts_compare, front_leads}
use Rattle.dsr_parse.proofs.Sentences.{sentence_front}

-- ---- fronts of specifications

within_both : (a b : List Lexeme) → within (a ++ b) ≡ within a ++ within b
within_both [] b = refl
within_both (l ∷ a) b = ap (λ ms. record { token = l.token; over = false } ∷ ms) (within_both a b)

-- tokens that begin a specification lead on to each of them
leads_on : (before more : List Lexeme) (found : Lexeme) → IsFront (before ++ found ∷ more) → LeadsOn before found.token false
leads_on before more found front = record {
  count = front.count;
  more = within more ++ front.more;
  derived = subst (Derives rule_of spec 0 front.count) (ap (λ ms. ms ++ front.more) (within_both before (found ∷ more)) ∙ append_assoc (within before) (within (found ∷ more)) front.more) front.derived;
}

-- a token behind which no specification goes on within the limits
record IsStop (text : List ℕ) (before : List Lexeme) (found : Lexeme) : Type 0 where
  stands : StandFirst text (before ++ found ∷ [])
  front : IsFront before
  none : LeadsOn before found.token false → ⊥

-- tokens that begin a specification have no such token
beyond : (text : List ℕ) (before ls : List Lexeme) (found : Lexeme) → IsStop text before found → Leads (before ++ found ∷ []) ls → IsFront ls → ⊥
beyond text before ls found stop leads front =
    stop.none (leads_on before leads.more found (subst IsFront (leads.is ∙ append_assoc before (found ∷ []) leads.more) front))

-- tokens that are longer than others by none, or by more than the last
shorter : (b a more : List Lexeme) (x : Lexeme) → b ++ x ∷ [] ≡ a ++ more → (b ++ x ∷ [] ≡ a) ⊎ Leads a b
shorter b [] more x q = inr (record { more = b; is = refl })
shorter [] (y ∷ []) more x q = inl cc
shorter [] (y ∷ z ∷ a) more x q = absurd cc
shorter (c ∷ b) (y ∷ a) more x q =
    let next : b ++ x ∷ [] ≡ a ++ more = cc in
    let same : c ≡ y = cc in
    elim (shorter b a more x next) as (λ _. (c ∷ (b ++ x ∷ []) ≡ y ∷ a) ⊎ Leads (y ∷ a) (c ∷ b)) [
      | inl e ↦ inl cc
      | inr leads ↦ inr (record { more = leads.more; is = ap (λ b. c ∷ b) leads.is ∙ ap (λ l. l ∷ (a ++ leads.more)) same })
    ]

-- two lists with a last token each that are one
same_last : (a b : List Lexeme) (x y : Lexeme) → a ++ x ∷ [] ≡ b ++ y ∷ [] → (a ≡ b) × (x ≡ y)
same_last [] [] x y q = (refl, cc)
same_last [] (c ∷ []) x y q = absurd cc
same_last [] (c ∷ d ∷ b) x y q = absurd cc
same_last (c ∷ []) [] x y q = absurd cc
same_last (c ∷ d ∷ a) [] x y q = absurd cc
same_last (c ∷ a) (d ∷ b) x y q =
    let next : a ++ x ∷ [] ≡ b ++ y ∷ [] = cc in
    let first : c ≡ d = cc in
    let rest = same_last a b x y next in
    (ap (λ a. c ∷ a) rest.0 ∙ ap (λ c. c ∷ b) first, rest.1)

-- ---- one such token

one_way : (text : List ℕ) (a b : List Lexeme) (x y : Lexeme) → IsStop text a x → IsStop text b y → Leads (a ++ x ∷ []) (b ++ y ∷ []) → b ++ y ∷ [] ≡ a ++ x ∷ []
one_way text a b x y one other leads = elim (shorter b (a ++ x ∷ []) leads.more y leads.is) as (λ _. b ++ y ∷ [] ≡ a ++ x ∷ []) [
  | inl same ↦ same
  | inr leads ↦ absurd (beyond text a b x one leads other.front)
]

-- a text has one such token
stop_once : (text : List ℕ) (a b : List Lexeme) (x y : Lexeme) → IsStop text a x → IsStop text b y → (a ≡ b) × (x ≡ y)
stop_once text a b x y one other = elim (fronts_compare text (a ++ x ∷ []) (b ++ y ∷ []) one.stands other.stands) as (λ _. (a ≡ b) × (x ≡ y)) [
  | inl leads ↦ same_last a b x y (sym (one_way text a b x y one other leads))
  | inr leads ↦ same_last a b x y (one_way text b a y x other one leads)
]

-- a text of tokens that begin a specification has none
stop_not_lexed : (text : List ℕ) (before ls : List Lexeme) (found : Lexeme) → IsStop text before found → IsLexed text ls → IsFront ls → ⊥
stop_not_lexed text before ls found stop lexed front =
    beyond text before ls found stop (front_leads text (before ++ found ∷ []) ls None lexed stop.stands) front

-- a text that has such a token has no bytes that are no token behind the front of a specification
stop_not_fault : (text : List ℕ) (before : List Lexeme) (found : Lexeme) (place : ℕ) → IsStop text before found → IsNoToken text place → ⊥
stop_not_fault text before found place stop none =
    beyond text before none.fault.before found stop (front_leads text (before ++ found ∷ []) none.fault.before (Some place) (none.fault, refl) stop.stands) none.front

-- ---- two answers

pub spec_not_no_token : (text : List ℕ) (place : ℕ) → IsSpecText text → IsNoToken text place → ⊥
spec_not_no_token text place is none = fault_not_lexed text place is.lexemes none.fault is.lexed

pub spec_not_unexpected : (text : List ℕ) (place : ℕ) → IsSpecText text → IsUnexpected text place → ⊥
spec_not_unexpected text _ is (at_token before found stands front none) =
    stop_not_lexed text before is.lexemes found (record { stands = stands; front = front; none = none false }) is.lexed (sentence_front is.lexemes is.sentence)
spec_not_unexpected text _ is (at_end ls lexed front none) = none (subst IsSentence (lexed_once text is.lexemes ls is.lexed lexed) is.sentence)

pub spec_not_past_limit : (text : List ℕ) (place : ℕ) → IsSpecText text → IsPastLimit text place → ⊥
spec_not_past_limit text _ is (past_limit before found stands front leads none) =
    stop_not_lexed text before is.lexemes found (record { stands = stands; front = front; none = none }) is.lexed (sentence_front is.lexemes is.sentence)

pub no_token_not_unexpected : (text : List ℕ) (place at : ℕ) → IsNoToken text place → IsUnexpected text at → ⊥
no_token_not_unexpected text place _ fault (at_token before found stands front none) =
    stop_not_fault text before found place (record { stands = stands; front = front; none = none false }) fault
no_token_not_unexpected text place _ fault (at_end ls lexed front none) = fault_not_lexed text place ls fault.fault lexed

pub no_token_not_past_limit : (text : List ℕ) (place at : ℕ) → IsNoToken text place → IsPastLimit text at → ⊥
no_token_not_past_limit text place _ fault (past_limit before found stands front leads none) =
    stop_not_fault text before found place (record { stands = stands; front = front; none = none }) fault

pub unexpected_not_past_limit : (text : List ℕ) (place at : ℕ) → IsUnexpected text place → IsPastLimit text at → ⊥
unexpected_not_past_limit text _ _ (at_token before found stands front none) (past_limit others next stand begun leads only) =
    let same = stop_once text before others found next (record { stands = stands; front = front; none = none false }) (record { stands = stand; front = begun; none = only }) in
    none true (subst (λ (next : Lexeme). LeadsOn before next.token true) (sym same.1) (subst (λ others. LeadsOn others next.token true) (sym same.0) leads))
unexpected_not_past_limit text _ _ (at_end ls lexed front none) (past_limit others next stand begun leads only) =
    stop_not_lexed text others ls next (record { stands = stand; front = begun; none = only }) lexed front

-- ---- one place

pub no_token_once : (text : List ℕ) (place at : ℕ) → IsNoToken text place → IsNoToken text at → place ≡ at
no_token_once text place at one other = fault_once text place at one.fault other.fault

pub unexpected_once : (text : List ℕ) (place at : ℕ) → IsUnexpected text place → IsUnexpected text at → place ≡ at
unexpected_once text _ _ (at_token before found stands front none) (at_token others next stand begun never) =
    let same = stop_once text before others found next (record { stands = stands; front = front; none = none false }) (record { stands = stand; front = begun; none = never false }) in
    ap (λ (l : Lexeme). l.place) same.1
unexpected_once text _ _ (at_token before found stands front none) (at_end ls lexed begun never) =
    absurd (stop_not_lexed text before ls found (record { stands = stands; front = front; none = none false }) lexed begun)
unexpected_once text _ _ (at_end ls lexed front none) (at_token others next stand begun never) =
    absurd (stop_not_lexed text others ls next (record { stands = stand; front = begun; none = never false }) lexed front)
unexpected_once text _ _ (at_end ls lexed front none) (at_end others other begun never) = refl

pub past_limit_once : (text : List ℕ) (place at : ℕ) → IsPastLimit text place → IsPastLimit text at → place ≡ at
past_limit_once text _ _ (past_limit before found stands front leads none) (past_limit others next stand begun goes never) =
    let same = stop_once text before others found next (record { stands = stands; front = front; none = none }) (record { stands = stand; front = begun; none = never }) in
    ap (λ (l : Lexeme). l.place) same.1
