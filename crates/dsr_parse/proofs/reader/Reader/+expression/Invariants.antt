use Rattle.std.proofs.Common.{◌+◌, ◌*◌, length}
use Rattle.dsr_syntax_theory.specs.Grammar.{more_term, more_factor}
use Rattle.dsr_parse.specs.Reading.{ReadsItems, said_term, said_factor}
use Rattle.dsr_parse.proofs.reader.Reader.+expression.Given as goal

abbrev pub decreases-expr : goal.decreases-expr
decreases-expr l = 8 * length l.self.now.rest + 4

abbrev pub decreases-term2 : goal.decreases-term2
decreases-term2 l = 8 * length l.self.now.rest + 3

abbrev pub decreases-factor : goal.decreases-factor
decreases-factor l = 8 * length l.self.now.rest + 2

abbrev pub decreases-more_terms : goal.decreases-more_terms
decreases-more_terms l = 8 * length l.self.now.rest + 1

abbrev pub decreases-more_factors : goal.decreases-more_factors
decreases-more_factors l = 8 * length l.self.now.rest + 1

abbrev pub invariant-more_terms-loop-terms : goal.invariant-more_terms-loop-terms
invariant-more_terms-loop-terms l = ReadsItems (more_term l.depth) said_term l.terms.items l.fn.self l.self

abbrev pub decreases-more_terms-loop-terms : goal.decreases-more_terms-loop-terms
decreases-more_terms-loop-terms l = length l.self.rest

abbrev pub invariant-more_factors-loop-factors : goal.invariant-more_factors-loop-factors
invariant-more_factors-loop-factors l = ReadsItems (more_factor l.depth) said_factor l.factors.items l.fn.self l.self

abbrev pub decreases-more_factors-loop-factors : goal.decreases-more_factors-loop-factors
decreases-more_factors-loop-factors l = length l.self.rest
