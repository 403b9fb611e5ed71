-- What is written behind a text, step by step.
use Rattle.std.specs.Prelude.{◌≡◌, ℕ, List, [], ◌∷◌, ◌++◌}
use Rattle.dsr_tree.specs.Trees.{ExprTree, FormulaTree, JoinTree, UnitTree}
use Rattle.dsr_tree.specs.declared.tokens.Keyword.TheVariants as keyword
use Rattle.dsr_tree.specs.declared.tokens.Sign.TheVariants as sign
use Rattle.dsr_tree.specs.declared.tokens.Token.{Token}
use Rattle.dsr_tree.specs.declared.tree.PlacedName.{PlacedName}
use Rattle.dsr_tree.specs.declared.tree.Var.{Var}
use Rattle.dsr_syntax_theory.specs.Canonical.{token_spelling, line_of}
use Rattle.dsr_syntax_theory.specs.Phrases.{Phrase, tokens_of, ◌▸◌}
use Rattle.dsr_syntax_theory.specs.TreeTexts.{word, mark, name_text, var_text, expr_text, formula_text, join_text, unit_text}

-- tokens with a space before each
abbrev pub spaced : List Token → List ℕ
spaced [] = []
spaced (t ∷ ts) = 32 ∷ token_spelling t ++ spaced ts

-- the tokens of a phrase are written, with a space before each
pub record Adds (p : Phrase) (old new : List ℕ) : Type 0 where
  pub is : new ≡ old ++ spaced (tokens_of p)

-- the first token of a line is written
pub record Begins (t : Token) (old new : List ℕ) : Type 0 where
  pub is : new ≡ old ++ token_spelling t

-- a line feed is written
pub record Ends (old new : List ℕ) : Type 0 where
  pub is : new ≡ old ++ 10 ∷ []

-- the line of a declaration is written
pub record AddsLine (p : Phrase) (old new : List ℕ) : Type 0 where
  pub is : new ≡ old ++ line_of p

-- a join behind the first one
abbrev pub behind_or : JoinTree → Phrase
behind_or join = word keyword.Or ▸ join_text join

-- a unit behind the first one
abbrev pub behind_and : UnitTree → Phrase
behind_and unit = word keyword.And ▸ unit_text unit

-- ---- phrases of the code's own functions, which know no place

abbrev pub group_text : ExprTree → Phrase
group_text inner = mark sign.OpenParenthesis ▸ expr_text inner ▸ mark sign.CloseParenthesis

abbrev pub not_text : UnitTree → Phrase
not_text unit = word keyword.Not ▸ unit_text unit

abbrev pub given_text : UnitTree → Phrase
given_text unit = word keyword.Given ▸ unit_text unit

abbrev pub parenthesized_text : FormulaTree → Phrase
parenthesized_text formula =
    mark sign.OpenParenthesis ▸ formula_text formula ▸ mark sign.CloseParenthesis

abbrev pub skipped_text : ExprTree → Phrase
skipped_text length = (word keyword.Skip ▸ expr_text length) ▸ mark sign.Semicolon

abbrev pub pair_text : Var → Var → PlacedName → Phrase
pair_text first second relation =
    mark sign.Less ▸ var_text first ▸ mark sign.Comma ▸ var_text second ▸ mark sign.Greater
    ▸ word keyword.In ▸ name_text relation
