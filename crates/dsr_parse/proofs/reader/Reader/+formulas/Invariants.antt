use Rattle.std.proofs.Common.{◌+◌, ◌*◌, length}
use Rattle.dsr_syntax_theory.specs.Grammar.{more_join, more_unit}
use Rattle.dsr_parse.specs.Reading.{ReadsItems, said_join, said_unit}
use Rattle.dsr_parse.proofs.reader.Reader.+formulas.Given as goal

abbrev pub decreases-formula : goal.decreases-formula
decreases-formula l = 8 * length l.self.now.rest + 4

abbrev pub decreases-join : goal.decreases-join
decreases-join l = 8 * length l.self.now.rest + 3

abbrev pub decreases-unit : goal.decreases-unit
decreases-unit l = 8 * length l.self.now.rest + 2

abbrev pub decreases-not_unit : goal.decreases-not_unit
decreases-not_unit l = 8 * length l.self.now.rest + 1

abbrev pub decreases-given_unit : goal.decreases-given_unit
decreases-given_unit l = 8 * length l.self.now.rest + 1

abbrev pub decreases-group : goal.decreases-group
decreases-group l = 8 * length l.self.now.rest + 1

abbrev pub decreases-more_joins : goal.decreases-more_joins
decreases-more_joins l = 8 * length l.self.now.rest + 1

abbrev pub decreases-more_units : goal.decreases-more_units
decreases-more_units l = 8 * length l.self.now.rest + 1

abbrev pub invariant-more_joins-loop-joins : goal.invariant-more_joins-loop-joins
invariant-more_joins-loop-joins l = ReadsItems (more_join l.depth) said_join l.joins.items l.fn.self l.self

abbrev pub decreases-more_joins-loop-joins : goal.decreases-more_joins-loop-joins
decreases-more_joins-loop-joins l = length l.self.rest

abbrev pub invariant-more_units-loop-units : goal.invariant-more_units-loop-units
invariant-more_units-loop-units l = ReadsItems (more_unit l.depth) said_unit l.units.items l.fn.self l.self

abbrev pub decreases-more_units-loop-units : goal.decreases-more_units-loop-units
decreases-more_units-loop-units l = length l.self.rest
