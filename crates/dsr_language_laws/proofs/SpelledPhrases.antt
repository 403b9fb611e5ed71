-- Where tokens stand in a text, their names are spelled as the grammar spells them; so are those of a phrase that they say.
use Rattle.std.proofs.Common.{ℕ, Bool, List, [], ◌∷◌, ◌++◌, All}
use Rattle.std.proofs.lemmas.List.Elements.{All-cons, All-nil}
use Rattle.dsr_tree.specs.declared.tokens.Lexeme.{Lexeme}
use Rattle.dsr_tree.specs.declared.tokens.Token.{Token}
use Rattle.dsr_tree.specs.declared.tokens.Token.TheVariants as token
use Rattle.dsr_syntax_theory.specs.Phrases.{Phrase, silent, said, said_at, ◌▸◌, in_turn, Says, says_nothing, says, says_at, says_both}
use Rattle.dsr_syntax_theory.specs.Tokens.{Spells, a_keyword, a_name, a_decimal, a_hexadecimal, a_sign, Begins, a_blank, a_comment, a_token, IsCut, here, further}
use Rattle.dsr_language_laws.specs.Spellings.{IsSpelled, spelled}

-- a name is spelled as one
abbrev pub IsWellNamed : Token → Type 0
IsWellNamed (token.Name q) = IsSpelled q
IsWellNamed _ = Unit {0}

abbrev pub AreWellNamed : List Lexeme → Type 0
AreWellNamed [] = Unit {0}
AreWellNamed (l ∷ ls) = IsWellNamed l.token × AreWellNamed ls

-- so is each name of a phrase
abbrev pub IsNamedPhrase : Phrase → Type 0
IsNamedPhrase silent = Unit {0}
IsNamedPhrase (said t) = IsWellNamed t
IsNamedPhrase (said_at t place) = IsWellNamed t
IsNamedPhrase (a ▸ b) = IsNamedPhrase a × IsNamedPhrase b

well_named : {second : Bool} {bytes : List ℕ} {t : Token} → Spells second bytes t → IsWellNamed t
well_named (a_keyword k is) = tt
well_named (a_name b bytes letter word other) = spelled b bytes letter word
well_named (a_decimal d digits are) = tt
well_named (a_hexadecimal d digits are) = tt
well_named (a_sign s) = tt

well_begun : {second : Bool} {place : ℕ} {bytes rest : List ℕ} {found : List Lexeme} → Begins second place bytes rest found → AreWellNamed found
well_begun (a_blank b rest is) = tt
well_begun (a_comment bytes rest is ends) = tt
well_begun (a_token bytes rest found stands) = (well_named stands.spelled, tt)

well_joined : (found more : List Lexeme) → AreWellNamed found → AreWellNamed more → AreWellNamed (found ++ more)
well_joined [] more are rest = rest
well_joined (l ∷ ls) more are rest = (are.0, well_joined ls more are.1 rest)

-- the tokens of a text
pub well_cut : {second : Bool} {place : ℕ} {text : List ℕ} {lexemes : List Lexeme} {to : ℕ} {left : List ℕ} → IsCut second place text lexemes to left → AreWellNamed lexemes
well_cut here = tt
well_cut (further {found = found} {more = more} begins cut) = well_joined found more (well_begun begins) (well_cut cut)

-- what a phrase takes of them, and what it leaves
pub record IsWellSaid (p : Phrase) (rest : List Lexeme) : Type 0 where
  pub phrase : IsNamedPhrase p
  pub rest_named : AreWellNamed rest

pub well_said : {p : Phrase} {before rest : List Lexeme} → Says p before rest → AreWellNamed before → IsWellSaid p rest
well_said (says_nothing rest) are = record { phrase = tt; rest_named = are }
well_said (says t place rest) are = record { phrase = are.0; rest_named = are.1 }
well_said (says_at t place rest) are = record { phrase = are.0; rest_named = are.1 }
well_said (says_both first second) are =
    let front = well_said first are in
    let back = well_said second front.rest_named in
    record { phrase = (front.phrase, back.phrase); rest_named = back.rest_named }

-- what the phrase of each item gives holds of all
pub all_named : {X : Type 0} (phrase : X → Phrase) (P : X → Type 0) → ((x : X) → IsNamedPhrase (phrase x) → P x) → (xs : List X) → IsNamedPhrase (in_turn phrase xs) → All P xs
all_named phrase P each [] are = All-nil P
all_named phrase P each (x ∷ xs) are = All-cons P x xs (each x are.0) (all_named phrase P each xs are.1)
