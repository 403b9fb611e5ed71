-- The lines of a tree, one behind the other.
use Rattle.std.specs.Prelude.{◌++◌}
use Rattle.std.proofs.Common.{◌≡◌, ℕ, List, [], ◌∷◌, map, refl, ap, ◌∙◌, append_assoc}
use Rattle.dsr_tree.specs.Trees.{structure_shape, pool_shape, constraint_shape, tree_shape}
use Rattle.dsr_tree.specs.declared.tree.Tree.{Tree}
use Rattle.dsr_syntax_theory.specs.Canonical.{line_of, lines_of, canonical}
use Rattle.dsr_syntax_theory.specs.Phrases.{Phrase}
use Rattle.dsr_syntax_theory.specs.TreeTexts.{version_text, order_text, structure_text, pool_text, set_text, relation_text, fresh_text, rule_text, constraint_text}
use Rattle.dsr_print.specs.Writing.{AddsLine}

-- a line is written behind others
pub added_line : {p : Phrase} {w x y : List ℕ} → x ≡ w → AddsLine p x y → y ≡ w ++ line_of p
added_line {p} e a = a.is ∙ ap (λ s. s ++ line_of p) e

lines_map : {X Y : Type 0} (phrase : Y → Phrase) (shape : X → Y) (xs : List X) → lines_of (λ x. phrase (shape x)) xs ≡ lines_of phrase (map shape xs)
lines_map phrase shape [] = refl
lines_map phrase shape (x ∷ xs) = ap (λ s. line_of (phrase (shape x)) ++ s) (lines_map phrase shape xs)

-- more lines are written behind others
behind : {a b w x y : List ℕ} → x ≡ w → y ≡ x ++ a → a ≡ b → y ≡ w ++ b
behind p q r = cc

regroup : (a b c d e f g h i : List ℕ) → ((((((((([] ++ a) ++ b) ++ c) ++ d) ++ e) ++ f) ++ g) ++ h) ++ i) ≡ a ++ b ++ c ++ d ++ e ++ f ++ g ++ h ++ i
regroup a b c d e f g h i = simp append_assoc

pub printed : (t : Tree) {a b c d e f g h i j : List ℕ} → a ≡ [] → AddsLine (version_text (tree_shape t)) a b → AddsLine (order_text t.order) b c
    → d ≡ c ++ lines_of (λ s. structure_text (structure_shape s)) t.structures → e ≡ d ++ lines_of (λ p. pool_text (pool_shape p)) t.pools → f ≡ e ++ lines_of set_text t.sets → g ≡ f ++ lines_of relation_text t.relations
    → h ≡ g ++ lines_of fresh_text t.supplies → i ≡ h ++ lines_of rule_text t.rules → j ≡ i ++ lines_of (λ c. constraint_text (constraint_shape c)) t.constraints
    → j ≡ canonical (tree_shape t)
printed t empty version order structures pools sets relations supplies rules constraints =
    behind (behind (behind (behind (behind (behind (behind (added_line (added_line empty version) order) structures (lines_map structure_text structure_shape t.structures)) pools (lines_map pool_text pool_shape t.pools)) sets refl) relations refl) supplies refl) rules refl) constraints (lines_map constraint_text constraint_shape t.constraints)
    ∙ regroup (line_of (version_text (tree_shape t))) (line_of (order_text t.order)) (lines_of structure_text (map structure_shape t.structures)) (lines_of pool_text (map pool_shape t.pools)) (lines_of set_text t.sets) (lines_of relation_text t.relations) (lines_of fresh_text t.supplies) (lines_of rule_text t.rules) (lines_of constraint_text (map constraint_shape t.constraints))
