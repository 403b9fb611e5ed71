-- The canonical text of a tree: a line for each declaration, its tokens joined by single spaces.
use Rattle.std.specs.Prelude.{ℕ, List, [], ◌∷◌, ◌++◌, flat_map}
use Rattle.std.specs.Fmt.{decimal}
use Rattle.dsr_tree.specs.Trees.{TreeShape}
use Rattle.dsr_tree.specs.declared.tokens.Token.{Token}
use Rattle.dsr_tree.specs.declared.tokens.Token.TheVariants as token
use Rattle.dsr_syntax_theory.specs.Phrases.{Phrase, tokens_of}
use Rattle.dsr_syntax_theory.specs.Tokens.{keyword_spelling, sign_spelling}
use Rattle.dsr_syntax_theory.specs.TreeTexts.{version_text, order_text, structure_text, pool_text, set_text, relation_text, fresh_text, rule_text, constraint_text}

-- how a token is written, a number in decimal
abbrev pub token_spelling : Token → List ℕ
token_spelling (token.Keyword k) = keyword_spelling k
token_spelling (token.Name name) = name
token_spelling (token.Number n) = decimal n
token_spelling (token.Sign s) = sign_spelling s

-- tokens with a space between two
abbrev pub joined : List Token → List ℕ
joined [] = []
joined (t ∷ []) = token_spelling t
joined (t ∷ u ∷ ts) = token_spelling t ++ 32 ∷ joined (u ∷ ts)

-- the line of a declaration, with its line feed
abbrev pub line_of : Phrase → List ℕ
line_of p = joined (tokens_of p) ++ 10 ∷ []

-- the lines of several
abbrev pub lines_of : {X : Type 0} → (X → Phrase) → List X → List ℕ
lines_of phrase xs = flat_map (λ x. line_of (phrase x)) xs

-- the canonical text
abbrev pub canonical : TreeShape → List ℕ
canonical t =
    line_of (version_text t)
    ++ line_of (order_text t.order)
    ++ lines_of structure_text t.structures
    ++ lines_of pool_text t.pools
    ++ lines_of set_text t.sets
    ++ lines_of relation_text t.relations
    ++ lines_of fresh_text t.supplies
    ++ lines_of rule_text t.rules
    ++ lines_of constraint_text t.constraints
