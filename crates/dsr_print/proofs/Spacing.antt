-- The canonical text has each token's spelling with a blank behind it.
use Rattle.std.proofs.Common.{◌≡◌, ℕ, List, [], ◌∷◌, ◌++◌, refl, sym, subst, append_assoc}
use Rattle.std.proofs.lemmas.List.{append-nil}
use Rattle.dsr_tree.specs.Trees.{TreeShape}
use Rattle.dsr_tree.specs.declared.tokens.Token.{Token}
use Rattle.dsr_syntax_theory.specs.Canonical.{token_spelling, joined, line_of, lines_of, canonical}
use Rattle.dsr_syntax_theory.specs.Phrases.{Phrase, tokens_of, in_turn}
use Rattle.dsr_syntax_theory.specs.TreeTexts.{version_text, order_text, structure_text, pool_text, set_text, relation_text, fresh_text, rule_text, constraint_text, tree_text}
use Rattle.dsr_print.proofs.Spaces.{Spaced, nothing, spaced}

-- the phrase has a token
record HasToken (p : Phrase) : Type 0 where
  pub first : Token
  pub more : List Token
  pub is : tokens_of p ≡ first ∷ more

joined_spaced : (t : Token) (ts others : List Token) (rest : List ℕ) → Spaced others rest → Spaced (t ∷ (ts ++ others)) (joined (t ∷ ts) ++ 10 ∷ rest)
joined_spaced t [] others rest s = spaced t 10 others rest refl s
joined_spaced t (u ∷ ts) others rest s =
    subst (λ bytes. Spaced (t ∷ u ∷ (ts ++ others)) bytes) (sym (append_assoc (token_spelling t) (32 ∷ joined (u ∷ ts)) (10 ∷ rest)))
    (spaced t 32 (u ∷ (ts ++ others)) (joined (u ∷ ts) ++ 10 ∷ rest) refl (joined_spaced u ts others rest s))

line_spaced : (p : Phrase) (others : List Token) (rest : List ℕ) → HasToken p → Spaced others rest → Spaced (tokens_of p ++ others) (line_of p ++ rest)
line_spaced p others rest has s =
    subst (λ bytes. Spaced (tokens_of p ++ others) bytes) (sym (append_assoc (joined (tokens_of p)) (10 ∷ []) rest))
    (subst (λ ts. Spaced (ts ++ others) (joined ts ++ 10 ∷ rest)) (sym has.is) (joined_spaced has.first has.more others rest s))

lines_spaced : {X : Type 0} (phrase : X → Phrase) (xs : List X) (others : List Token) (rest : List ℕ) → ((x : X) → HasToken (phrase x)) → Spaced others rest → Spaced (tokens_of (in_turn phrase xs) ++ others) (lines_of phrase xs ++ rest)
lines_spaced phrase [] others rest has s = s
lines_spaced phrase (x ∷ xs) others rest has s =
    rw (append_assoc (tokens_of (phrase x)) (tokens_of (in_turn phrase xs)) others, append_assoc (line_of (phrase x)) (lines_of phrase xs) rest)
    (line_spaced (phrase x) (tokens_of (in_turn phrase xs) ++ others) (lines_of phrase xs ++ rest) (has x) (lines_spaced phrase xs others rest has s))

last_lines : {X : Type 0} (phrase : X → Phrase) (xs : List X) → ((x : X) → HasToken (phrase x)) → Spaced (tokens_of (in_turn phrase xs)) (lines_of phrase xs)
last_lines phrase xs has =
    subst (λ ts. Spaced ts (lines_of phrase xs)) (append-nil (tokens_of (in_turn phrase xs)))
    (subst (λ bytes. Spaced (tokens_of (in_turn phrase xs) ++ []) bytes) (append-nil (lines_of phrase xs)) (lines_spaced phrase xs [] [] has nothing))

-- the parts of a text, from the back
regroup : (a b c d e f g h i : List ℕ) → a ++ b ++ c ++ d ++ e ++ f ++ g ++ h ++ i ≡ a ++ (b ++ (c ++ (d ++ (e ++ (f ++ (g ++ (h ++ i)))))))
regroup a b c d e f g h i = simp append_assoc

-- the canonical text's tokens are the tree's
pub canonical_spaced : (t : TreeShape) → Spaced (tokens_of (tree_text t)) (canonical t)
canonical_spaced t =
    subst (λ text. Spaced (tokens_of (tree_text t)) text)
    (sym (regroup (line_of (version_text t)) (line_of (order_text t.order)) (lines_of structure_text t.structures) (lines_of pool_text t.pools) (lines_of set_text t.sets) (lines_of relation_text t.relations) (lines_of fresh_text t.supplies) (lines_of rule_text t.rules) (lines_of constraint_text t.constraints)))
    (line_spaced (version_text t) _ _ (record { first = _; more = _; is = refl })
    (line_spaced (order_text t.order) _ _ (record { first = _; more = _; is = refl })
    (lines_spaced structure_text t.structures _ _ (λ x. record { first = _; more = _; is = refl })
    (lines_spaced pool_text t.pools _ _ (λ x. record { first = _; more = _; is = refl })
    (lines_spaced set_text t.sets _ _ (λ x. record { first = _; more = _; is = refl })
    (lines_spaced relation_text t.relations _ _ (λ x. record { first = _; more = _; is = refl })
    (lines_spaced fresh_text t.supplies _ _ (λ x. record { first = _; more = _; is = refl })
    (lines_spaced rule_text t.rules _ _ (λ x. record { first = _; more = _; is = refl })
    (last_lines constraint_text t.constraints (λ x. record { first = _; more = _; is = refl }))))))))))
