-- What the tree of a text is, and what becomes of a text that is printed from its tree.
use Rattle.std.specs.Prelude.{◌≡◌, ℕ, List, [], map}
use Rattle.dsr_tree.specs.Trees.{TreeShape}
use Rattle.dsr_tree.specs.declared.tokens.Lexeme.{Lexeme}
use Rattle.dsr_syntax_theory.specs.Bare.{bare_tree}
use Rattle.dsr_syntax_theory.specs.Phrases.{Says}
use Rattle.dsr_syntax_theory.specs.Sentences.{IsSentence, IsSpecText}
use Rattle.dsr_syntax_theory.specs.Tokens.{IsLexed}
use Rattle.dsr_syntax_theory.specs.TreeTexts.{tree_text}

-- the text is a specification's, and the tree has exactly its tokens, at their places
pub record IsTreeOf (text : List ℕ) (tree : TreeShape) : Type 0 where
  pub lexemes : List Lexeme
  pub lexed : IsLexed text lexemes
  pub sentence : IsSentence lexemes
  pub says : Says (tree_text tree) lexemes []

-- two texts have the same tokens, whatever their places
pub record HaveSameTokens (a b : List ℕ) : Type 0 where
  pub before : List Lexeme
  pub after : List Lexeme
  pub lexed_before : IsLexed a before
  pub lexed_after : IsLexed b after
  pub same : map (λ l. l.token) before ≡ map (λ l. l.token) after

-- the second text is a specification's with the tokens of the first, and each tree of it is this
-- one but for places
pub record IsReprinted (text printed : List ℕ) (tree : TreeShape) : Type 0 where
  pub tokens : HaveSameTokens text printed
  pub is_spec : IsSpecText printed
  pub again : (other : TreeShape) → IsTreeOf printed other → bare_tree other ≡ bare_tree tree
