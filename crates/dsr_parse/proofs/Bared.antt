-- Without its places, the phrase of a tree is that of the tree without places; and with the tokens at their places it is determined by that.
use Rattle.std.proofs.Common.{◌≡◌, ℕ, List, [], ◌∷◌, map, Option, Some, None, refl, sym, ap, ◌∙◌}
use Rattle.std.specs.Prelude.{option_map}
use Rattle.dsr_tree.specs.Trees.{expr_tree, no_terms, more_terms, term_tree, no_factors, more_factors, number_tree, name_tree, group_tree}
use Rattle.dsr_tree.specs.Trees.{formula_tree, no_joins, more_joins, join_tree, no_units, more_units, not_tree, given_tree, parenthesized_tree, atom_tree}
use Rattle.dsr_tree.specs.Trees.{NamedFieldTree, named, skipped, StructureTree, PoolTree, ConstraintTree, TreeShape}
use Rattle.dsr_tree.specs.declared.tokens.Lexeme.{Lexeme}
use Rattle.dsr_tree.specs.declared.tree.Atom.TheVariants as atoms
use Rattle.dsr_tree.specs.declared.tree.Binder.TheVariants as binders
use Rattle.dsr_tree.specs.declared.tree.Bound.TheVariants as bounds
use Rattle.dsr_tree.specs.declared.tree.Compare.TheVariants as compares
use Rattle.dsr_tree.specs.declared.tree.Content.TheVariants as contents
use Rattle.dsr_tree.specs.declared.tree.Guard.TheVariants as guards
use Rattle.dsr_tree.specs.declared.tree.Inclusion.TheVariants as inclusions
use Rattle.dsr_tree.specs.declared.tree.Index.TheVariants as indexes
use Rattle.dsr_tree.specs.declared.tree.Measure.TheVariants as measures
use Rattle.dsr_tree.specs.declared.tree.MemberPart.TheVariants as member_parts
use Rattle.dsr_tree.specs.declared.tree.Premise.TheVariants as premises
use Rattle.dsr_tree.specs.declared.tree.ProductSign.TheVariants as products
use Rattle.dsr_tree.specs.declared.tree.SumSign.TheVariants as sums
use Rattle.dsr_tree.specs.declared.tree.Target.TheVariants as targets
use Rattle.dsr_tree.specs.declared.tree.Term.TheVariants as terms
use Rattle.dsr_tree.specs.declared.tree.Var.TheVariants as vars
use Rattle.dsr_tree.specs.declared.tree.View.TheVariants as views
use Rattle.dsr_tree.specs.declared.tree.Width.TheVariants as widths
use Rattle.dsr_ir.specs.declared.declarations.Order.{Order}
use Rattle.dsr_ir.specs.declared.declarations.Order.TheVariants.{Little, Big}
use Rattle.dsr_tree.specs.declared.tree.SumSign.{SumSign}
use Rattle.dsr_tree.specs.declared.tree.ProductSign.{ProductSign}
use Rattle.dsr_tree.specs.declared.tree.Bound.{Bound}
use Rattle.dsr_tree.specs.declared.tree.Compare.{Compare}
use Rattle.dsr_syntax_theory.specs.Bare.{bare_name, bare_expr, bare_more_terms, bare_term2, bare_more_factors, bare_factor, bare_var, bare_size, bare_measure, bare_atom, bare_formula, bare_joins, bare_join, bare_units, bare_unit, bare_width, bare_content, bare_place, bare_named_field, bare_field, bare_structure, bare_pool, bare_view, bare_set, bare_target, bare_relation, bare_fresh, bare_path, bare_premise, bare_index, bare_span, bare_guard, bare_guards, bare_term, bare_member_part, bare_member, bare_inclusion, bare_rule, bare_binder, bare_quantifier, bare_constraint, bare_tree}
use Rattle.dsr_syntax_theory.specs.Phrases.{Phrase, silent, said, said_at, ◌▸◌, in_turn, Says, says_nothing, says, says_at, says_both}
use Rattle.dsr_syntax_theory.specs.TreeTexts.{maybe_text, sum_text, product_text, expr_text, more_terms_text, term2_text, more_factors_text, factor_text, var_text, bound_text, compare_text, size_part_text, size_text, measure_text, atom_text, formula_text, joins_text, join_text, units_text, unit_text, width_text, brackets_text, content_text, fixed_text, named_field_text, field_text, parent_text, structure_text, behind_text, pool_text, view_text, set_text, target_text, relation_text, more_name_text, fresh_text, index_text, path_text, premise_text, index_source_text, span_text, guard_text, more_guard_text, guards_text, term_text, member_part_text, member_text, inclusion_text, rule_text, binder_text, quantifier_text, constraint_text, endian_text, tree_text}
use Rattle.dsr_tree.specs.declared.tokens.Keyword.{Keyword}

-- a phrase with every place 0
abbrev pub unplaced : Phrase → Phrase
unplaced silent = silent
unplaced (said t) = said t
unplaced (said_at t place) = said_at t 0
unplaced (a ▸ b) = unplaced a ▸ unplaced b

heads : {l m : Lexeme} {r s : List Lexeme} → (l ∷ r) ≡ (m ∷ s) → l ≡ m
heads e = cc

-- two phrases that are the same but for places, over the same tokens at their places, are the same
pub placed_once : {p q : Phrase} {x w y z : List Lexeme} → x ≡ w → Says p x y → Says q w z → unplaced p ≡ unplaced q → (p ≡ q) × (y ≡ z)
placed_once e (says_nothing r) (says_nothing s) same = (refl, e)
placed_once e (says t place r) (says u at s) same = (cc, cc)
placed_once e (says_at t place r) (says_at u at s) same = let p : place ≡ at = ap (λ (x : Lexeme). x.place) (heads e) in (cc, cc)
placed_once e (says_both {a = a} {b = b} f g) (says_both {a = c} {b = d} h i) same =
    let first : unplaced a ≡ unplaced c = cc in
    let second : unplaced b ≡ unplaced d = cc in
    let p = placed_once e f h first in
    let q = placed_once p.1 g i second in (cc, q.1)
placed_once e (says_nothing r) (says u at s) same = absurd cc
placed_once e (says_nothing r) (says_at u at s) same = absurd cc
placed_once e (says_nothing r) (says_both h i) same = absurd cc
placed_once e (says t place r) (says_nothing s) same = absurd cc
placed_once e (says t place r) (says_at u at s) same = absurd cc
placed_once e (says t place r) (says_both h i) same = absurd cc
placed_once e (says_at t place r) (says_nothing s) same = absurd cc
placed_once e (says_at t place r) (says u at s) same = absurd cc
placed_once e (says_at t place r) (says_both h i) same = absurd cc
placed_once e (says_both f g) (says_nothing s) same = absurd cc
placed_once e (says_both f g) (says u at s) same = absurd cc
placed_once e (says_both f g) (says_at u at s) same = absurd cc

-- a part without places has the phrase without places
abbrev Bares : {X : Type 0} → (X → Phrase) → (X → X) → Type 0
Bares {X = X} phrase bare = (x : X) → unplaced (phrase x) ≡ phrase (bare x)

join : {a b c d : Phrase} → a ≡ c → b ≡ d → (a ▸ b) ≡ (c ▸ d)
join p q = cc

maybe_bares : {X : Type 0} (phrase : X → Phrase) (bare : X → X) → Bares phrase bare → Bares (maybe_text phrase) (option_map bare)
maybe_bares phrase bare item None = refl
maybe_bares phrase bare item (Some x) = item x

in_turn_bares : {X : Type 0} (phrase : X → Phrase) (bare : X → X) → Bares phrase bare → Bares (in_turn phrase) (map bare)
in_turn_bares phrase bare item [] = refl
in_turn_bares phrase bare item (x ∷ xs) = join (item x) (in_turn_bares phrase bare item xs)

-- ---- expressions

sum_bares : Bares sum_text (λ x. x)
sum_bares sums.Plus = refl
sum_bares sums.Minus = refl

product_bares : Bares product_text (λ x. x)
product_bares products.Times = refl
product_bares products.Over = refl

mutual
  expr_bares : Bares expr_text bare_expr
  expr_bares (expr_tree a xs) = join (term2_bares a) (more_terms_bares xs)

  more_terms_bares : Bares more_terms_text bare_more_terms
  more_terms_bares no_terms = refl
  more_terms_bares (more_terms x a xs) = join (join (sum_bares x) (term2_bares a)) (more_terms_bares xs)

  term2_bares : Bares term2_text bare_term2
  term2_bares (term_tree a xs) = join (factor_bares a) (more_factors_bares xs)

  more_factors_bares : Bares more_factors_text bare_more_factors
  more_factors_bares no_factors = refl
  more_factors_bares (more_factors x a xs) = join (join (product_bares x) (factor_bares a)) (more_factors_bares xs)

  factor_bares : Bares factor_text bare_factor
  factor_bares (number_tree a) = refl
  factor_bares (name_tree a) = refl
  factor_bares (group_tree p a) = join refl (join (expr_bares a) refl)

-- ---- formulas

var_bares : Bares var_text bare_var
var_bares (vars.Head p) = refl
var_bares (vars.Name n) = refl

bound_bares : Bares bound_text (λ x. x)
bound_bares bounds.AtMost = refl
bound_bares bounds.AtLeast = refl
bound_bares bounds.Equal = refl

compare_bares : Bares compare_text (λ x. x)
compare_bares compares.Equal = refl
compare_bares compares.Differs = refl
compare_bares compares.Less = refl
compare_bares compares.AtMost = refl
compare_bares compares.Greater = refl
compare_bares compares.AtLeast = refl

size_bares : Bares size_text bare_size
size_bares s = join refl (join refl (join (var_bares s.var) (join (maybe_bares size_part_text bare_name (λ n. refl) s.part) refl)))

measure_bares : Bares measure_text bare_measure
measure_bares (measures.Number n) = refl
measure_bares (measures.Size s) = size_bares s

atom_bares : Bares atom_text bare_atom
atom_bares (atoms.Count s b n) = join (size_bares s) (join (bound_bares b) refl)
atom_bares (atoms.Pair p v w r) = join refl (join (var_bares v) (join refl (join (var_bares w) refl)))
atom_bares (atoms.Member v s) = join (var_bares v) refl
atom_bares (atoms.Value v r c m) = join (var_bares v) (join refl (join refl (join (compare_bares c) (measure_bares m))))

mutual
  formula_bares : Bares formula_text bare_formula
  formula_bares (formula_tree a xs) = join (join_bares a) (joins_bares xs)

  joins_bares : Bares joins_text bare_joins
  joins_bares no_joins = refl
  joins_bares (more_joins a xs) = join (join refl (join_bares a)) (joins_bares xs)

  join_bares : Bares join_text bare_join
  join_bares (join_tree a xs) = join (unit_bares a) (units_bares xs)

  units_bares : Bares units_text bare_units
  units_bares no_units = refl
  units_bares (more_units a xs) = join (join refl (unit_bares a)) (units_bares xs)

  unit_bares : Bares unit_text bare_unit
  unit_bares (not_tree p u) = join refl (unit_bares u)
  unit_bares (given_tree p u) = join refl (unit_bares u)
  unit_bares (parenthesized_tree p f) = join refl (join (formula_bares f) refl)
  unit_bares (atom_tree a) = atom_bares a

-- ---- structures

width_bares : Bares width_text bare_width
width_bares (widths.U8 p) = refl
width_bares (widths.U16 p) = refl
width_bares (widths.U32 p) = refl
width_bares (widths.U64 p) = refl
width_bares (widths.Bits p n) = refl

brackets_bares : Bares brackets_text bare_expr
brackets_bares e = join (join refl (expr_bares e)) refl

content_bares : Bares content_text bare_content
content_bares (contents.Refers p n) = refl
content_bares (contents.Init p n) = refl

field_bares : Bares field_text bare_field
field_bares (named f) = join (maybe_bares fixed_text bare_place (λ p. refl) f.fixed) (join (width_bares f.width) (join refl (join (maybe_bares brackets_text bare_expr brackets_bares f.length) (join (maybe_bares content_text bare_content content_bares f.content) refl))))
field_bares (skipped p e) = join (join refl (expr_bares e)) refl

structure_bares : Bares structure_text bare_structure
structure_bares s = join refl (join refl (join (maybe_bares parent_text bare_name (λ n. refl) s.parent) (join refl (join (in_turn_bares field_text bare_field field_bares s.fields) refl))))

-- ---- pools, sets, relations, supplies

behind_bares : (k : Keyword) → Bares (behind_text k) bare_expr
behind_bares k e = join refl (expr_bares e)

pool_bares : Bares pool_text bare_pool
pool_bares p = join refl (join refl (join refl (join refl (join (brackets_bares p.count) (join (maybe_bares (behind_text _) bare_expr (behind_bares _) p.slot) (join (behind_bares _ p.start) (join (behind_bares _ p.code) (join (behind_bares _ p.step) (join (behind_bares _ p.none) refl)))))))))

view_bares : Bares view_text bare_view
view_bares (views.As p n) = refl
view_bares (views.Except p n) = refl

set_bares : Bares set_text bare_set
set_bares s = join refl (join refl (join refl (join refl (join (maybe_bares view_text bare_view view_bares s.view) refl))))

target_bares : Bares target_text bare_target
target_bares (targets.Number p) = refl
target_bares (targets.Pool n) = refl

relation_bares : Bares relation_text bare_relation
relation_bares r = join refl (join refl (join refl (join (var_bares r.source) (join refl (join (target_bares r.target) refl)))))

fresh_bares : Bares fresh_text bare_fresh
fresh_bares f = join refl (join refl (join refl (join refl (join (in_turn_bares more_name_text bare_name (λ n. refl) f.rest) refl))))

-- ---- rules

index_bares : Bares (maybe_text index_text) (option_map bare_name)
index_bares = maybe_bares index_text bare_name (λ n. refl)

path_bares : Bares path_text bare_path
path_bares p = join (var_bares p.var) (join refl (join refl (index_bares p.index)))

premise_bares : Bares premise_text bare_premise
premise_bares (premises.Head p) = refl
premise_bares (premises.Member n s) = refl

index_source_bares : Bares index_source_text bare_index
index_source_bares (indexes.Pool p n) = refl
index_source_bares (indexes.Array n) = refl

span_bares : Bares span_text bare_span
span_bares s = join refl (join refl (join refl (index_source_bares s.index)))

guard_bares : Bares guard_text bare_guard
guard_bares (guards.Tested p t q) = join refl (join refl (join (path_bares q) refl))
guard_bares (guards.Compared q c n) = join (path_bares q) (join (compare_bares c) refl)

guards_bares : Bares guards_text bare_guards
guards_bares g = join refl (join (guard_bares g.first) (in_turn_bares more_guard_text bare_guard (λ x. join refl (guard_bares x)) g.rest))

term_bares : Bares term_text bare_term
term_bares (terms.Head p) = refl
term_bares (terms.Named n i) = join refl (index_bares i)

member_part_bares : Bares member_part_text bare_member_part
member_part_bares (member_parts.Field n i) = join refl (join refl (index_bares i))
member_part_bares (member_parts.Slot n) = refl

member_bares : Bares member_text bare_member
member_bares m = join (var_bares m.var) (maybe_bares member_part_text bare_member_part member_part_bares m.part)

inclusion_bares : Bares inclusion_text bare_inclusion
inclusion_bares (inclusions.Pair p t q r) = join refl (join (term_bares t) (join refl (join (path_bares q) refl)))
inclusion_bares (inclusions.Member m s) = join (member_bares m) refl

rule_bares : Bares rule_text bare_rule
rule_bares r = join refl (join (premise_bares r.premise) (join (maybe_bares span_text bare_span span_bares r.span) (join (maybe_bares guards_text bare_guards guards_bares r.guards) (join refl (join (inclusion_bares r.inclusion) refl)))))

-- ---- constraints, and the whole

binder_bares : Bares binder_text bare_binder
binder_bares (binders.One n) = refl
binder_bares (binders.Pair p n m) = refl

quantifier_bares : Bares quantifier_text bare_quantifier
quantifier_bares q = join refl (join (binder_bares q.binder) refl)

constraint_bares : Bares constraint_text bare_constraint
constraint_bares c = join refl (join refl (join refl (join (maybe_bares quantifier_text bare_quantifier quantifier_bares c.quantifier) (join (formula_bares c.formula) refl))))

endian_bares : (order : Order) → unplaced (endian_text order) ≡ endian_text order
endian_bares Little = refl
endian_bares Big = refl

pub tree_bares : Bares tree_text bare_tree
tree_bares t = join refl (join (join refl (join (endian_bares t.order) refl)) (join (in_turn_bares structure_text bare_structure structure_bares t.structures) (join (in_turn_bares pool_text bare_pool pool_bares t.pools) (join (in_turn_bares set_text bare_set set_bares t.sets) (join (in_turn_bares relation_text bare_relation relation_bares t.relations) (join (in_turn_bares fresh_text bare_fresh fresh_bares t.supplies) (join (in_turn_bares rule_text bare_rule rule_bares t.rules) (in_turn_bares constraint_text bare_constraint constraint_bares t.constraints))))))))
