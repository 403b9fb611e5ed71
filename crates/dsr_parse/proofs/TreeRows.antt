-- The phrase of an expression, a formula or their parts, by the lists in it.
use Rattle.std.proofs.Common.{◌≡◌, map, ap, ◌∙◌}
use Rattle.dsr_tree.specs.declared.tree.Expr.{Expr, Expr-F, roll-Expr, out-roll-Expr}
use Rattle.dsr_tree.specs.declared.tree.Formula.{Formula, Formula-F, roll-Formula, out-roll-Formula}
use Rattle.dsr_tree.specs.declared.tree.Join.{Join}
use Rattle.dsr_tree.specs.declared.tree.MoreTerm.{MoreTerm, roll-MoreTerm, rolls-MoreTerm'}
use Rattle.dsr_tree.specs.declared.tree.Factor.{Factor}
use Rattle.dsr_tree.specs.declared.tree.MoreFactor.{MoreFactor}
use Rattle.dsr_tree.specs.declared.tree.SumSign.{SumSign}
use Rattle.dsr_tree.specs.declared.tree.Term2.{Term2, Term2-F, roll-Term2, out-roll-Term2}
use Rattle.dsr_tree.specs.declared.tree.Unit.{Unit as UnitOf}
use Rattle.dsr_tree.specs.Trees.{formula_shape, join_shape, unit_shape}
use Rattle.dsr_tree.specs.Trees.{expr_shape, term_shape, factor_shape, more_term_shape, more_factor_shape}
use Rattle.dsr_syntax_theory.specs.Phrases.{◌▸◌, in_turn}
use Rattle.dsr_syntax_theory.specs.TreeTexts.{formula_text, join_text, unit_text, more_join_text, more_unit_text}
use Rattle.dsr_syntax_theory.specs.TreeTexts.{expr_text, term2_text, factor_text, more_term_text, more_factor_text, sum_text}
use Rattle.dsr_print.proofs.Rows.{expr_is, term_is, formula_is, join_is}
use Rattle.dsr_parse.proofs.Taking.{in_turn_mapped}

-- the phrase of an expression that is made of these
pub expr_made : (x : Expr-F Factor Expr MoreFactor MoreTerm Term2) → expr_text (expr_shape (roll-Expr x)) ≡ term2_text (term_shape x.first) ▸ in_turn (λ m. more_term_text (more_term_shape m)) x.rest.items
expr_made x = expr_is (roll-Expr x) ∙ ap (λ y. term2_text (term_shape y.first) ▸ in_turn more_term_text (map more_term_shape y.rest.items)) (out-roll-Expr x) ∙ ap (λ p. term2_text (term_shape x.first) ▸ p) (in_turn_mapped more_term_text more_term_shape x.rest.items)

pub term_made : (x : Term2-F Factor Expr MoreFactor MoreTerm Term2) → term2_text (term_shape (roll-Term2 x)) ≡ factor_text (factor_shape x.first) ▸ in_turn (λ m. more_factor_text (more_factor_shape m)) x.rest.items
term_made x = term_is (roll-Term2 x) ∙ ap (λ y. factor_text (factor_shape y.first) ▸ in_turn more_factor_text (map more_factor_shape y.rest.items)) (out-roll-Term2 x) ∙ ap (λ p. factor_text (factor_shape x.first) ▸ p) (in_turn_mapped more_factor_text more_factor_shape x.rest.items)

pub more_term_made : (sign : SumSign) (term : Term2) → more_term_text (more_term_shape (roll-MoreTerm (record { sign = sign; term = term }))) ≡ sum_text sign ▸ term2_text (term_shape term)
more_term_made sign term = ap (λ m. more_term_text (more_term_shape m)) (rolls-MoreTerm' (record { sign = sign; term = term }))

pub formula_made : (x : Formula-F UnitOf Formula Join) → formula_text (formula_shape (roll-Formula x)) ≡ join_text (join_shape x.first) ▸ in_turn (λ j. more_join_text (join_shape j)) x.rest.items
formula_made x = formula_is (roll-Formula x) ∙ ap (λ y. join_text (join_shape y.first) ▸ in_turn more_join_text (map join_shape y.rest.items)) (out-roll-Formula x) ∙ ap (λ p. join_text (join_shape x.first) ▸ p) (in_turn_mapped more_join_text join_shape x.rest.items)

pub join_made : (j : Join) → join_text (join_shape j) ≡ unit_text (unit_shape j.first) ▸ in_turn (λ u. more_unit_text (unit_shape u)) j.rest.items
join_made j = join_is j ∙ ap (λ p. unit_text (unit_shape j.first) ▸ p) (in_turn_mapped more_unit_text unit_shape j.rest.items)
