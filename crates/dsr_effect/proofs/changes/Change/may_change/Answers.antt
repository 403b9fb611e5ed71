use Rattle.dsr_effect.proofs.Tagged.{may_change_by}
use Rattle.dsr_effect.specs.Told.{change_of}
use Rattle.dsr_effect.proofs.changes.Change.may_change.Goals as goal

pub returns : goal.returns
returns c =
    may_change_by (change_of c.args.self.now) c.args.rule.now c.args.direction c.tags_at_w.result c.tags_at_f.result c.joined.result c.joined.ensures
    c.tags_at_w.ensures c.tags_at_f.ensures
