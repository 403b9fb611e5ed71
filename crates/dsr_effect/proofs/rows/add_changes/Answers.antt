-- What `add_changes` leaves to show.
use Rattle.std.proofs.Common.{◌∙◌, sym}
use Rattle.dsr_effect.specs.Told.{change_of}
use Rattle.dsr_effect.proofs.ChangedRows.{both_added, none_added}
use Rattle.dsr_effect.proofs.rows.add_changes.Goals as goal

pub returns-then-is_some-clause-exactly : goal.returns-then-is_some-clause-exactly
returns-then-is_some-clause-exactly c = both_added (change_of c.args.change.now) c.args.rule.now c.args.rows.now c.add_change.new.rows c.add_change-then-is_some.new.rows c.add_change.ensures.exactly c.add_change-then-is_some.ensures.exactly

pub returns-else-is_some-clause-exactly : goal.returns-else-is_some-clause-exactly
returns-else-is_some-clause-exactly c = none_added (change_of c.args.change.now) c.args.rule.now c.args.touch c.requires.touch (sym c.is_some.ensures ∙ c.if-is_some.false) c.args.rows.now
