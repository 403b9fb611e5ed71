-- A text that has these tokens.
use Rattle.std.specs.Prelude.{◌≡◌, ℕ, List, map}
use Rattle.dsr_tree.specs.declared.tokens.Lexeme.{Lexeme}
use Rattle.dsr_tree.specs.declared.tokens.Token.{Token}
use Rattle.dsr_syntax_theory.specs.Tokens.{IsLexed}

-- the tokens of the text are these, wherever they stand
pub record Relexed (text : List ℕ) (ts : List Token) : Type 0 where
  pub lexemes : List Lexeme
  pub lexed : IsLexed text lexemes
  pub same : map (λ l. l.token) lexemes ≡ ts
