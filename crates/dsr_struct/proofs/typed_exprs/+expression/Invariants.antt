use Rattle.std.proofs.Common.{◌≡◌, map, take}
use Rattle.std.specs.Str.{bytes_eq}
use Rattle.indexmap.specs.IndexMap.{get}
use Rattle.dsr_tree.specs.Trees.{more_term_shape, more_factor_shape, in_terms, in_factors}
use Rattle.dsr_language_theory.specs.Tables.{typed_sum, typed_product}
use Rattle.dsr_struct.proofs.typed_exprs.+expression.Given as goal

abbrev pub invariant-typed_sum-loop-more : goal.invariant-typed_sum-loop-more
invariant-typed_sum-loop-more l = l.sum ≡ typed_sum (get bytes_eq l.fixed) l.fn.first (in_terms (map more_term_shape (take l.more-index l.rest)))

abbrev pub invariant-typed_product-loop-more : goal.invariant-typed_product-loop-more
invariant-typed_product-loop-more l = l.product ≡ typed_product (get bytes_eq l.fixed) l.fn.first (in_factors (map more_factor_shape (take l.more-index l.rest)))
