-- The tokens of a text determine its tree but for places.
use Rattle.std.proofs.Common.{◌≡◌, List, [], ◌∷◌, ◌++◌, Bool, true, false, refl, sym, ap, ◌∙◌}
use Rattle.dsr_tree.specs.Trees.{FormulaTree, formula_tree, join_tree, UnitTree, not_tree, given_tree, parenthesized_tree, atom_tree, TreeShape}
use Rattle.dsr_ir.specs.declared.declarations.Order.TheVariants.{Little, Big}
use Rattle.dsr_tree.specs.declared.tokens.Keyword.TheVariants as keyword
use Rattle.dsr_tree.specs.declared.tokens.Sign.TheVariants as sign
use Rattle.dsr_tree.specs.declared.tokens.Token.{Token}
use Rattle.dsr_tree.specs.declared.tokens.Token.TheVariants as token
use Rattle.dsr_tree.specs.declared.tree.Atom.{Atom}
use Rattle.dsr_tree.specs.declared.tree.Atom.TheVariants as atoms
use Rattle.dsr_tree.specs.declared.tree.Binder.TheVariants as binders
use Rattle.dsr_tree.specs.declared.tree.Var.{Var}
use Rattle.dsr_tree.specs.declared.tree.Var.TheVariants as vars
use Rattle.dsr_syntax_theory.specs.Bare.{bare_structure, bare_pool, bare_set, bare_relation, bare_fresh, bare_rule, bare_binder, bare_quantifier, bare_constraint, bare_tree}
use Rattle.dsr_syntax_theory.specs.Phrases.{tokens_of, in_turn}
use Rattle.dsr_syntax_theory.specs.TreeTexts.{var_text, atom_text, unit_text, formula_text, structure_text, pool_text, set_text, relation_text, fresh_text, rule_text, binder_text, quantifier_text, constraint_text, endian_text, tree_text}
use Rattle.dsr_print.proofs.After.{after, spoken, begins, Once, maybe_once, past, in_turn_once, rest, past_four}
use Rattle.dsr_print.proofs.OnceExprs.{name_once}
use Rattle.dsr_print.proofs.OnceFormulas.{formula_once}
use Rattle.dsr_print.proofs.OncePools.{pool_once, set_once, relation_once, fresh_once}
use Rattle.dsr_print.proofs.OnceRules.{rule_once}
use Rattle.dsr_print.proofs.OnceStructures.{structure_once}

-- ---- constraints

binder_once : Once binder_text bare_binder
binder_once (binders.One a) (binders.One b) r s e = let d = name_once a b r s e in (ap binders.One d.0, d.1)
binder_once (binders.Pair p a x) (binders.Pair q b y) r s e =
    let d = name_once a b _ _ (rest e) in
    let h = name_once x y _ _ (rest d.1) in (cc, rest h.1)
binder_once (binders.One a) (binders.Pair q b y) r s e = absurd cc
binder_once (binders.Pair p a x) (binders.One b) r s e = absurd cc

quantifier_once : Once quantifier_text bare_quantifier
quantifier_once a b r s e =
    let p = binder_once a.binder b.binder _ _ (rest e) in
    let n = name_once a.symbol b.symbol _ _ (rest p.1) in (cc, rest n.1)

abbrev is_forall : Token → Bool
is_forall (token.Keyword keyword.Forall) = true
is_forall _ = false

var_plain : (x : Var) (r : List Token) → begins is_forall (after (var_text x) r) ≡ false
var_plain (vars.Head p) r = refl
var_plain (vars.Name n) r = refl

atom_plain : (x : Atom) (r : List Token) → begins is_forall (after (atom_text x) r) ≡ false
atom_plain (atoms.Count a x m) r = refl
atom_plain (atoms.Pair p a x m) r = refl
atom_plain (atoms.Member a m) r = var_plain a _
atom_plain (atoms.Value a m x i) r = var_plain a _

unit_plain : (x : UnitTree) (r : List Token) → begins is_forall (after (unit_text x) r) ≡ false
unit_plain (not_tree p a) r = refl
unit_plain (given_tree p a) r = refl
unit_plain (parenthesized_tree p a) r = refl
unit_plain (atom_tree a) r = atom_plain a r

formula_plain : (x : FormulaTree) (r : List Token) → begins is_forall (after (formula_text x) r) ≡ false
formula_plain (formula_tree (join_tree a xs) ys) r = unit_plain a _

constraint_once : Once constraint_text bare_constraint
constraint_once a b r s e =
    let n : a.name.name ≡ b.name.name = cc in
    let p = maybe_once quantifier_text bare_quantifier is_forall quantifier_once (λ z t. refl) a.quantifier b.quantifier _ _ (formula_plain a.formula _) (formula_plain b.formula _) (rest (rest (rest e))) in
    let q = formula_once a.formula b.formula (token.Sign sign.Semicolon ∷ r) (token.Sign sign.Semicolon ∷ s) refl refl p.1 in
    (cc, rest q.1)

-- ---- a whole tree

endian_once : Once endian_text (λ x. x)
endian_once Little Little r s e = (refl, rest e)
endian_once Big Big r s e = (refl, rest e)
endian_once Little Big r s e = absurd cc
endian_once Big Little r s e = absurd cc

-- how each kind of declaration begins
abbrev is_structure : Token → Bool
is_structure (token.Keyword keyword.Structure) = true
is_structure _ = false

abbrev is_pool : Token → Bool
is_pool (token.Keyword keyword.Pool) = true
is_pool _ = false

abbrev is_set : Token → Bool
is_set (token.Keyword keyword.Set) = true
is_set _ = false

abbrev is_relation : Token → Bool
is_relation (token.Keyword keyword.Relation) = true
is_relation _ = false

abbrev is_fresh : Token → Bool
is_fresh (token.Keyword keyword.Fresh) = true
is_fresh _ = false

abbrev is_rule : Token → Bool
is_rule (token.Keyword keyword.Rule) = true
is_rule _ = false

abbrev is_constraint : Token → Bool
is_constraint (token.Keyword keyword.Constraint) = true
is_constraint _ = false

-- the tokens of a tree from a kind of declaration on
abbrev from_constraints : TreeShape → List Token
from_constraints t = after (in_turn constraint_text t.constraints) []

abbrev from_rules : TreeShape → List Token
from_rules t = after (in_turn rule_text t.rules) (from_constraints t)

abbrev from_supplies : TreeShape → List Token
from_supplies t = after (in_turn fresh_text t.supplies) (from_rules t)

abbrev from_relations : TreeShape → List Token
from_relations t = after (in_turn relation_text t.relations) (from_supplies t)

abbrev from_sets : TreeShape → List Token
from_sets t = after (in_turn set_text t.sets) (from_relations t)

abbrev from_pools : TreeShape → List Token
from_pools t = after (in_turn pool_text t.pools) (from_sets t)

-- the declarations behind those of a kind begin otherwise
no_rule : (t : TreeShape) → begins is_rule (from_constraints t) ≡ false
no_rule t = past constraint_text is_rule (λ z r. refl) t.constraints _ refl

no_fresh : (t : TreeShape) → begins is_fresh (from_rules t) ≡ false
no_fresh t = past rule_text is_fresh (λ z r. refl) t.rules _ (past constraint_text is_fresh (λ z r. refl) t.constraints _ refl)

no_relation : (t : TreeShape) → begins is_relation (from_supplies t) ≡ false
no_relation t = past fresh_text is_relation (λ z r. refl) t.supplies _ (past rule_text is_relation (λ z r. refl) t.rules _ (past constraint_text is_relation (λ z r. refl) t.constraints _ refl))

no_set : (t : TreeShape) → begins is_set (from_relations t) ≡ false
no_set t = past relation_text is_set (λ z r. refl) t.relations _ (past fresh_text is_set (λ z r. refl) t.supplies _ (past rule_text is_set (λ z r. refl) t.rules _ (past constraint_text is_set (λ z r. refl) t.constraints _ refl)))

no_pool : (t : TreeShape) → begins is_pool (from_sets t) ≡ false
no_pool t = past set_text is_pool (λ z r. refl) t.sets _ (past relation_text is_pool (λ z r. refl) t.relations _ (past fresh_text is_pool (λ z r. refl) t.supplies _ (past rule_text is_pool (λ z r. refl) t.rules _ (past constraint_text is_pool (λ z r. refl) t.constraints _ refl))))

no_structure : (t : TreeShape) → begins is_structure (from_pools t) ≡ false
no_structure t = past pool_text is_structure (λ z r. refl) t.pools _ (past set_text is_structure (λ z r. refl) t.sets _ (past relation_text is_structure (λ z r. refl) t.relations _ (past fresh_text is_structure (λ z r. refl) t.supplies _ (past rule_text is_structure (λ z r. refl) t.rules _ (past constraint_text is_structure (λ z r. refl) t.constraints _ refl)))))

abbrev from_order : TreeShape → List Token
from_order t = after (endian_text t.order) (token.Sign sign.Semicolon ∷ after (in_turn structure_text t.structures) (from_pools t))

after_once : (t u : TreeShape) → after (tree_text t) [] ≡ after (tree_text u) [] → bare_tree t ≡ bare_tree u
after_once t u e =
    let n : t.version.number ≡ u.version.number = cc in
    let o = endian_once t.order u.order _ _ (past_four (from_order t) (from_order u) e) in
    let a = in_turn_once structure_text bare_structure is_structure structure_once (λ z r. refl) t.structures u.structures (from_pools t) (from_pools u) (no_structure t) (no_structure u) (rest o.1) in
    let b = in_turn_once pool_text bare_pool is_pool pool_once (λ z r. refl) t.pools u.pools (from_sets t) (from_sets u) (no_pool t) (no_pool u) a.1 in
    let c = in_turn_once set_text bare_set is_set set_once (λ z r. refl) t.sets u.sets (from_relations t) (from_relations u) (no_set t) (no_set u) b.1 in
    let d = in_turn_once relation_text bare_relation is_relation relation_once (λ z r. refl) t.relations u.relations (from_supplies t) (from_supplies u) (no_relation t) (no_relation u) c.1 in
    let f = in_turn_once fresh_text bare_fresh is_fresh fresh_once (λ z r. refl) t.supplies u.supplies (from_rules t) (from_rules u) (no_fresh t) (no_fresh u) d.1 in
    let g = in_turn_once rule_text bare_rule is_rule rule_once (λ z r. refl) t.rules u.rules (from_constraints t) (from_constraints u) (no_rule t) (no_rule u) f.1 in
    let h = in_turn_once constraint_text bare_constraint is_constraint constraint_once (λ z r. refl) t.constraints u.constraints [] [] refl refl g.1 in
    cc

pub tree_once : (t u : TreeShape) → tokens_of (tree_text t) ≡ tokens_of (tree_text u) → bare_tree t ≡ bare_tree u
tree_once t u e = after_once t u (sym (spoken (tree_text t) []) ∙ ap (λ ts. ts ++ []) e ∙ spoken (tree_text u) [])
