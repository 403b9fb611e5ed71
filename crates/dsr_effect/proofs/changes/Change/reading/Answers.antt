-- What `reading` leaves to show.
use Rattle.std.proofs.Common.{◌∙◌, sym}
use Rattle.dsr_effect.specs.Told.{change_of}
use Rattle.dsr_effect.proofs.ReadParts.{still_reading, target_reading}
use Rattle.dsr_effect.proofs.changes.Change.reading.Goals as goal

pub returns-in-Some-target_reading : goal.returns-in-Some-target_reading
returns-in-Some-target_reading c =
    target_reading (change_of c.args.self.now) c.args.rule.now c.guards_reading-guards.result c.guards_reading-guards.ensures c.in-Some.path (sym c.target.ensures ∙ c.in-Some.is)
    c.in-Some-target_reading.target c.both.result c.both.ensures c.in-Some-target_reading.ensures

pub returns-in-None : goal.returns-in-None
returns-in-None c =
    still_reading (change_of c.args.self.now) c.args.rule.now c.guards_reading-guards.result c.guards_reading-guards.ensures c.in-Some.path (sym c.target.ensures ∙ c.in-Some.is) c.in-None.ensures
