-- A text has one list of tokens, or one fault.
use Rattle.std.proofs.Common.{◌≡◌, ℕ, ◌+◌, List, [], ◌∷◌, ◌++◌, length, Bool, true, false, ◌&&◌, refl, ap, ◌∙◌, sym, subst, map, ◌⊎◌, inl, inr}
use Rattle.dsr_tree.specs.declared.tokens.Token.{Token}
use Rattle.dsr_tree.specs.declared.tokens.Token.TheVariants as token
use Rattle.std.proofs.lemmas.List.{append-nil}
use Rattle.dsr_tree.specs.declared.tokens.Lexeme.{Lexeme}
use Rattle.dsr_syntax_theory.specs.Tokens.{is_version, is_two, is_second_version, Begins, a_blank, a_comment, a_token, IsCut, here, further, IsLexed, HasTokenFault}
use Rattle.dsr_lexer.proofs.Cuts.{cut_more, cut_once, SameCut, Stops, end_stops}
use Rattle.dsr_lexer.proofs.Shapes.{both}
use Rattle.dsr_lexer.proofs.Versions.{marked, marked_lexeme, cut_marked, stops_marked, marked_second}

-- a text read as far as it can be
pub record IsRead (text : List ℕ) (lexemes : List Lexeme) (place : ℕ) (left : List ℕ) : Type 0 where
  pub cut : IsCut (is_second_version lexemes) 0 text lexemes place left
  pub stops : Stops (is_second_version lexemes) place left

pub read_lexed : (text : List ℕ) (lexemes : List Lexeme) → IsLexed text lexemes → IsRead text lexemes (length text) []
read_lexed text lexemes lexed = record { cut = lexed.cut; stops = end_stops (is_second_version lexemes) (length text) }

pub read_fault : (text : List ℕ) (place : ℕ) (fault : HasTokenFault text place) → IsRead text fault.before place fault.left
read_fault text place fault = record { cut = fault.cut; stops = fault.none }

-- a text of version 2 has no reading as one of version 1
other_version : (text : List ℕ) (a b : List Lexeme) (to at : ℕ) (left rest : List ℕ) → IsRead text a to left → IsRead text b at rest → is_second_version a ≡ true → is_second_version b ≡ false → ⊥
other_version text a b to at left rest one other v w =
    let second : IsCut true 0 text a to left = subst (λ second. IsCut second 0 text a to left) v one.cut in
    let first : IsCut false 0 text b at rest = subst (λ second. IsCut second 0 text b at rest) w other.cut in
    let stops : Stops true to left = subst (λ second. Stops second to left) v one.stops in
    let ends : Stops true at rest = stops_marked at rest (subst (λ second. Stops second at rest) w other.stops) in
    let same = cut_once true second (cut_marked first) refl refl stops ends in
    let clash : true ≡ false = sym v ∙ (ap is_second_version same.lexemes_same ∙ (marked_second b ∙ w)) in
    absurd cc

read_once : (text : List ℕ) (a b : List Lexeme) (to at : ℕ) (left rest : List ℕ) → IsRead text a to left → IsRead text b at rest → SameCut a b to at left rest
read_once text a b to at left rest one other =
    elim (is_second_version a) as (λ v. is_second_version a ≡ v → SameCut a b to at left rest) [
      | true ↦ λ v. elim (is_second_version b) as (λ w. is_second_version b ≡ w → SameCut a b to at left rest) [
        | true ↦ λ w. agree (v ∙ sym w)
        | false ↦ λ w. absurd (other_version text a b to at left rest one other v w)
      ] refl
      | false ↦ λ v. elim (is_second_version b) as (λ w. is_second_version b ≡ w → SameCut a b to at left rest) [
        | true ↦ λ w. absurd (other_version text b a at to rest left other one w v)
        | false ↦ λ w. agree (v ∙ sym w)
      ] refl
    ] refl
  where
    agree : is_second_version a ≡ is_second_version b → SameCut a b to at left rest
    agree same = cut_once (is_second_version b)
        (subst (λ second. IsCut second 0 text a to left) same one.cut) other.cut refl refl
        (subst (λ second. Stops second to left) same one.stops) other.stops

-- a text has one list of tokens
pub lexed_once : (text : List ℕ) (a b : List Lexeme) → IsLexed text a → IsLexed text b → a ≡ b
lexed_once text a b one other = (read_once text a b (length text) (length text) [] [] (read_lexed text a one) (read_lexed text b other)).lexemes_same

-- a text with a fault has no list of tokens
pub fault_not_lexed : (text : List ℕ) (place : ℕ) (lexemes : List Lexeme) → HasTokenFault text place → IsLexed text lexemes → ⊥
fault_not_lexed text place lexemes fault lexed =
    fault.some (read_once text fault.before lexemes place (length text) fault.left [] (read_fault text place fault) (read_lexed text lexemes lexed)).left_same

-- a text has one fault
pub fault_once : (text : List ℕ) (place at : ℕ) → HasTokenFault text place → HasTokenFault text at → place ≡ at
fault_once text place at one other = (read_once text one.before other.before place at one.left other.left (read_fault text place one) (read_fault text at other)).place_same

pub version_unmarked : (t : Token) → is_version t ≡ true → marked t ≡ t
version_unmarked (token.Keyword k) v = refl
version_unmarked (token.Name word) v = absurd cc
version_unmarked (token.Number n) v = refl
version_unmarked (token.Sign s) v = refl

two_unmarked : (t : Token) → is_two t ≡ true → marked t ≡ t
two_unmarked (token.Keyword k) v = refl
two_unmarked (token.Name word) v = absurd cc
two_unmarked (token.Number n) v = refl
two_unmarked (token.Sign s) v = refl

-- the second token of a text settles its version; the first two are none that `except` could be
version_settled : (lexemes : List Lexeme) (next : Lexeme) → (is_second_version (lexemes ++ next ∷ []) ≡ is_second_version lexemes) ⊎ ((is_second_version lexemes ≡ false) × (is_second_version (lexemes ++ next ∷ []) ≡ true) × (map marked_lexeme (lexemes ++ next ∷ []) ≡ lexemes ++ next ∷ []))
version_settled [] next = inl refl
version_settled (a ∷ []) next = elim (is_version a.token && is_two next.token) as (λ both. (is_version a.token && is_two next.token) ≡ both → (both ≡ false) ⊎ ((false ≡ false) × (both ≡ true) × (map marked_lexeme (a ∷ next ∷ []) ≡ a ∷ next ∷ []))) [
  | true ↦ λ e. (
      let parts = both (is_version a.token) (is_two next.token) e in
      let first : marked a.token ≡ a.token = version_unmarked a.token parts.0 in
      let second : marked next.token ≡ next.token = two_unmarked next.token parts.1 in
      inr (refl, refl, rw (first, second) refl))
  | false ↦ λ _. inl refl
] refl
version_settled (a ∷ b ∷ lexemes) next = inl refl

grown : (second : Bool) (text bytes rest : List ℕ) (lexemes found : List Lexeme) (place : ℕ) → IsCut second 0 text lexemes place (bytes ++ rest) → Begins second place bytes rest found → IsCut second 0 text (lexemes ++ found) (place + length bytes) rest
grown second text bytes rest lexemes found place cut begins =
    subst (λ found. IsCut second 0 text (lexemes ++ found) (place + length bytes) rest) (append-nil found) (cut_more second cut (further begins here))

-- one thing more behind a cut
pub cut_step : (text bytes rest : List ℕ) (lexemes found : List Lexeme) (place : ℕ) → IsCut (is_second_version lexemes) 0 text lexemes place (bytes ++ rest) → Begins (is_second_version lexemes) place bytes rest found → IsCut (is_second_version (lexemes ++ found)) 0 text (lexemes ++ found) (place + length bytes) rest
cut_step text bytes rest lexemes found place cut begins = go begins more
  where
    more : IsCut (is_second_version lexemes) 0 text (lexemes ++ found) (place + length bytes) rest
    more = grown (is_second_version lexemes) text bytes rest lexemes found place cut begins

    none : (to : ℕ) → IsCut (is_second_version lexemes) 0 text (lexemes ++ []) to rest → IsCut (is_second_version (lexemes ++ [])) 0 text (lexemes ++ []) to rest
    none to cut = subst (λ whole. IsCut (is_second_version whole) 0 text (lexemes ++ []) to rest) (sym (append-nil lexemes)) cut

    one : (to : ℕ) (next : Lexeme) → IsCut (is_second_version lexemes) 0 text (lexemes ++ next ∷ []) to rest → IsCut (is_second_version (lexemes ++ next ∷ [])) 0 text (lexemes ++ next ∷ []) to rest
    one to next cut = elim (version_settled lexemes next) as (λ _. IsCut (is_second_version (lexemes ++ next ∷ [])) 0 text (lexemes ++ next ∷ []) to rest) [
      | inl same ↦ subst (λ second. IsCut second 0 text (lexemes ++ next ∷ []) to rest) (sym same) cut
      | inr is ↦ (
          let first : IsCut false 0 text (lexemes ++ next ∷ []) to rest = subst (λ second. IsCut second 0 text (lexemes ++ next ∷ []) to rest) is.0 cut in
          let second : IsCut true 0 text (lexemes ++ next ∷ []) to rest = subst (λ whole. IsCut true 0 text whole to rest) is.2 (cut_marked first) in
          subst (λ second. IsCut second 0 text (lexemes ++ next ∷ []) to rest) (sym is.1) second)
    ]

    go : {bytes left : List ℕ} {found : List Lexeme} → Begins (is_second_version lexemes) place bytes left found → IsCut (is_second_version lexemes) 0 text (lexemes ++ found) (place + length bytes) rest → IsCut (is_second_version (lexemes ++ found)) 0 text (lexemes ++ found) (place + length bytes) rest
    go (a_blank b _ _) cut = none (place + 1) cut
    go (a_comment bytes _ _ _) cut = none (place + length (35 ∷ bytes)) cut
    go (a_token bytes _ t _) cut = one (place + length bytes) (record { token = t; place = place }) cut
