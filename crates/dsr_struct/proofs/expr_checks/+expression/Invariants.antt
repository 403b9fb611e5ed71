use Rattle.std.proofs.Common.{map, take}
use Rattle.std.specs.Str.{bytes_eq}
use Rattle.indexmap.specs.IndexMap.{get}
use Rattle.dsr_tree.specs.Trees.{more_term_shape, more_factor_shape, in_terms, in_factors}
use Rattle.dsr_language_theory.specs.Declarations.{more_terms_faults, more_factors_faults}
use Rattle.dsr_names.specs.Telling.{Finds}
use Rattle.dsr_struct.proofs.expr_checks.+expression.Given as goal

abbrev pub invariant-check_more_terms-loop-more : goal.invariant-check_more_terms-loop-more
invariant-check_more_terms-loop-more l = Finds (more_terms_faults (get bytes_eq l.fixed) (in_terms (map more_term_shape (take l.more-index l.terms)))) l.fn.told.fault l.told.fault

abbrev pub invariant-check_more_factors-loop-more : goal.invariant-check_more_factors-loop-more
invariant-check_more_factors-loop-more l = Finds (more_factors_faults (get bytes_eq l.fixed) (in_factors (map more_factor_shape (take l.more-index l.factors)))) l.fn.told.fault l.told.fault
