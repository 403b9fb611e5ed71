-- The canonical text of a tree has the tree's tokens.
use Rattle.std.proofs.Common.{◌≡◌, ℕ, List, [], ◌∷◌, ◌++◌, length, Bool, false, ◌&&◌, refl, ap, ◌∙◌, sym, subst, map, append_assoc, arith}
use Rattle.dsr_tree.specs.Trees.{TreeShape}
use Rattle.dsr_tree.specs.declared.tokens.Lexeme.{Lexeme}
use Rattle.dsr_tree.specs.declared.tokens.Token.{Token}
use Rattle.dsr_syntax_theory.specs.Canonical.{canonical}
use Rattle.dsr_syntax_theory.specs.Phrases.{Phrase, tokens_of, Says, says_nothing, says, says_at, says_both}
use Rattle.dsr_syntax_theory.specs.Sentences.{within}
use Rattle.dsr_syntax_theory.specs.Syntax.{Marked}
use Rattle.dsr_syntax_theory.specs.Tokens.{is_version, is_two, is_second_version, IsCut, IsLexed}
use Rattle.dsr_syntax_theory.specs.TreeTexts.{tree_text}
use Rattle.dsr_print.specs.Relexed.{Relexed}
use Rattle.dsr_print.proofs.Spacing.{canonical_spaced}
use Rattle.dsr_print.proofs.Spaces.{AreWell, well_cut, Spaced, placed, placed_tokens, cut_spaced}

-- the tokens that a phrase says, before those of the rest
pub tokens_said : (p : Phrase) (x y : List Lexeme) → Says p x y → map (λ l. l.token) x ≡ tokens_of p ++ map (λ l. l.token) y
tokens_said p x y s = go s
  where
    go : {p : Phrase} {x y : List Lexeme} → Says p x y → map (λ l. l.token) x ≡ tokens_of p ++ map (λ l. l.token) y
    go (says_nothing rest) = refl
    go (says t place rest) = refl
    go (says_at t place rest) = refl
    go (says_both {a = a} {b = b} {z = z} first next) = go first ∙ (ap (λ ts. tokens_of a ++ ts) (go next) ∙ sym (append_assoc (tokens_of a) (tokens_of b) (map (λ l. l.token) z)))

-- whether tokens begin with `version` and `2`
abbrev are_second : List Token → Bool
are_second (a ∷ b ∷ _) = is_version a && is_two b
are_second _ = false

second_tokens : (ls : List Lexeme) → is_second_version ls ≡ are_second (map (λ l. l.token) ls)
second_tokens [] = refl
second_tokens (a ∷ []) = refl
second_tokens (a ∷ b ∷ ls) = refl

-- the version depends on the tokens alone
pub second_same : (ls ms : List Lexeme) → map (λ l. l.token) ls ≡ map (λ l. l.token) ms → is_second_version ls ≡ is_second_version ms
second_same ls ms e = second_tokens ls ∙ (ap are_second e ∙ sym (second_tokens ms))

-- tokens, none of which goes over a limit
abbrev marked : List Token → List Marked
marked [] = []
marked (t ∷ ts) = record { token = t; over = false } ∷ marked ts

within_tokens : (ls : List Lexeme) → within ls ≡ marked (map (λ l. l.token) ls)
within_tokens [] = refl
within_tokens (l ∷ ls) = ap (λ ts. record { token = l.token; over = false } ∷ ts) (within_tokens ls)

-- so do the tokens that the grammar reads
pub within_same : (ls ms : List Lexeme) → map (λ l. l.token) ls ≡ map (λ l. l.token) ms → within ls ≡ within ms
within_same ls ms e = within_tokens ls ∙ (ap marked e ∙ sym (within_tokens ms))

-- a text whose tokens are those of another text, with a blank behind each, has the same tokens
pub spaced_lexed : (text bytes : List ℕ) (ls : List Lexeme) (ts : List Token) → IsLexed text ls → map (λ l. l.token) ls ≡ ts → Spaced ts bytes → Relexed bytes ts
spaced_lexed text bytes ls ts lexed e s =
    let tokens : map (λ l. l.token) (placed 0 ts) ≡ ts = placed_tokens 0 ts in
    let second : is_second_version ls ≡ is_second_version (placed 0 ts) = second_same ls (placed 0 ts) (e ∙ sym tokens) in
    let are : AreWell (is_second_version ls) ts = subst (λ ts. AreWell (is_second_version ls) ts) e (well_cut lexed.cut) in
    let cut : IsCut (is_second_version ls) 0 bytes (placed 0 ts) (length bytes) [] = cut_spaced (is_second_version ls) 0 (length bytes) s are (omega arith) in
    record {
      lexemes = placed 0 ts;
      lexed = record { cut = subst (λ second. IsCut second 0 bytes (placed 0 ts) (length bytes) []) second cut };
      same = tokens;
    }

-- where a text has the tree's tokens, the canonical text has them too
pub relexed : (text : List ℕ) (ls : List Lexeme) (t : TreeShape) → IsLexed text ls → map (λ l. l.token) ls ≡ tokens_of (tree_text t) → Relexed (canonical t) (tokens_of (tree_text t))
relexed text ls t lexed e = spaced_lexed text (canonical t) ls (tokens_of (tree_text t)) lexed e (canonical_spaced t)
