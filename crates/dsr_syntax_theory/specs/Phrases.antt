-- Tokens in the order of a text, in groups, with those places that a tree keeps.
use Rattle.std.specs.Prelude.{ℕ, List, [], ◌∷◌, ◌++◌}
use Rattle.dsr_tree.specs.declared.tokens.Lexeme.{Lexeme}
use Rattle.dsr_tree.specs.declared.tokens.Token.{Token}

infixr 20 ◌▸◌
pub data Phrase : Type 0 where
  silent : Phrase
  -- a token whose place isn't kept
  said : (t : Token) → Phrase
  -- a token at its place
  said_at : (t : Token) (place : ℕ) → Phrase
  ◌▸◌ : (a b : Phrase) → Phrase

-- the tokens of a phrase
abbrev pub tokens_of : Phrase → List Token
tokens_of silent = []
tokens_of (said t) = t ∷ []
tokens_of (said_at t place) = t ∷ []
tokens_of (a ▸ b) = tokens_of a ++ tokens_of b

-- one phrase for each item, one after the other
abbrev pub in_turn : {X : Type 0} → (X → Phrase) → List X → Phrase
in_turn phrase [] = silent
in_turn phrase (x ∷ xs) = phrase x ▸ in_turn phrase xs

-- the phrase stands first among tokens, which go on with the
-- others: its tokens are these, at the places that it keeps
pub data Says : Phrase → List Lexeme → List Lexeme → Type 0 where
  says_nothing : (rest : List Lexeme) → Says silent rest rest
  says :
      (t : Token) (place : ℕ) (rest : List Lexeme)
      → Says (said t) (record { token = t; place = place } ∷ rest) rest
  says_at :
      (t : Token) (place : ℕ) (rest : List Lexeme)
      → Says (said_at t place) (record { token = t; place = place } ∷ rest) rest
  says_both : {a b : Phrase} {x y z : List Lexeme} → Says a x y → Says b y z → Says (a ▸ b) x z
