use Rattle.std.proofs.Common.{map, take}
use Rattle.dsr_tree.specs.Trees.{more_term_shape, more_factor_shape}
use Rattle.dsr_syntax_theory.specs.Phrases.{in_turn}
use Rattle.dsr_syntax_theory.specs.TreeTexts.{more_term_text, more_factor_text}
use Rattle.dsr_print.specs.Writing.{Adds}
use Rattle.dsr_print.proofs.expressions.+expression.Given as goal

abbrev pub invariant-add_more_terms-loop-more : goal.invariant-add_more_terms-loop-more
invariant-add_more_terms-loop-more l = Adds (in_turn more_term_text (map more_term_shape (take l.more-index l.terms))) l.fn.text.items l.text.items

abbrev pub invariant-add_more_factors-loop-more : goal.invariant-add_more_factors-loop-more
invariant-add_more_factors-loop-more l = Adds (in_turn more_factor_text (map more_factor_shape (take l.more-index l.factors))) l.fn.text.items l.text.items
