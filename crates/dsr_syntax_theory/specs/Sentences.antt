-- Which texts are specifications by the grammar and its limits, and where another text first is
-- none.
use Rattle.std.specs.Prelude.{ℕ, List, [], ◌∷◌, ◌++◌, length, Bool, true, false}
use Rattle.dsr_tree.specs.declared.tokens.Lexeme.{Lexeme}
use Rattle.dsr_tree.specs.declared.tokens.Token.{Token}
use Rattle.dsr_syntax_theory.specs.Grammar.{rule_of, spec}
use Rattle.dsr_syntax_theory.specs.Syntax.{Marked, Derives}
use Rattle.dsr_syntax_theory.specs.Tokens.{IsCut, IsLexed, HasTokenFault, is_second_version}

-- tokens, none of which goes over a limit
abbrev pub within : List Lexeme → List Marked
within [] = []
within (l ∷ ls) = record { token = l.token; over = false } ∷ within ls

-- the tokens are a specification's, within the limits
pub record IsSentence (ls : List Lexeme) : Type 0 where
  pub count : ℕ
  pub derived : Derives rule_of spec 0 count (within ls)

-- some text of the grammar begins with the tokens, within the limits
pub record IsFront (ls : List Lexeme) : Type 0 where
  pub count : ℕ
  pub more : List Marked
  pub derived : Derives rule_of spec 0 count (within ls ++ more)

-- some text of the grammar begins with the tokens, within the
-- limits, and then has this one, which goes over a limit or doesn't
pub record LeadsOn (ls : List Lexeme) (t : Token) (over : Bool) : Type 0 where
  pub count : ℕ
  pub more : List Marked
  pub derived : Derives rule_of spec 0 count (within ls ++ record { token = t; over = over } ∷ more)

-- the tokens stand first in the text
pub record StandFirst (text : List ℕ) (ls : List Lexeme) : Type 0 where
  pub to : ℕ
  pub left : List ℕ
  pub cut : IsCut (is_second_version ls) 0 text ls to left

-- the tokens of the text are a specification's, within the limits
pub record IsSpecText (text : List ℕ) : Type 0 where
  pub lexemes : List Lexeme
  pub lexed : IsLexed text lexemes
  pub sentence : IsSentence lexemes

-- the place of the first bytes that are no token, behind tokens with which some text of the grammar
-- begins
pub record IsNoToken (text : List ℕ) (place : ℕ) : Type 0 where
  pub fault : HasTokenFault text place
  pub front : IsFront fault.before

-- the place of the first token that continues no text of the grammar,
-- whatever the limits; or the text's end, where its tokens only begin one
pub data IsUnexpected (text : List ℕ) : ℕ → Type 0 where
  at_token :
      (before : List Lexeme) (found : Lexeme) → StandFirst text (before ++ found ∷ [])
      → IsFront before → ((over : Bool) → LeadsOn before found.token over → ⊥)
      → IsUnexpected text found.place
  at_end :
      (ls : List Lexeme) → IsLexed text ls → IsFront ls → (IsSentence ls → ⊥)
      → IsUnexpected text (length text)

-- the place of the first token that continues some text of the grammar, and always goes over a
-- limit
pub data IsPastLimit (text : List ℕ) : ℕ → Type 0 where
  past_limit :
      (before : List Lexeme) (found : Lexeme) → StandFirst text (before ++ found ∷ [])
      → IsFront before → LeadsOn before found.token true → (LeadsOn before found.token false → ⊥)
      → IsPastLimit text found.place
