-- What `guards_reading` leaves to show.
use Rattle.std.proofs.Common.{take, ◌∙◌, arith}
use Rattle.std.proofs.lemmas.Grind.{common_steps}
use Rattle.dsr_effect.specs.Told.{change_of}
use Rattle.dsr_effect.proofs.ReadParts.{next_guard, read_more, read_same}
use Rattle.dsr_effect.proofs.changes.Change.guards_reading.Goals as goal
use Rattle.dsr_effect.proofs.changes.Change.guards_reading.Goals.{in-Some, in_default}

pub loop-guard-preserved : goal.loop-guard-preserved
loop-guard-preserved c = elim c.match-guard_reading.branch [
  | in-Some w ↦
      read_more (change_of c.args.self.now) c.args.rule.now (take c.loop-guard.guard-index c.args.rule.now.guards) _ _
      (next_guard c.items-guard-items.result.now c.args.rule.now.guards c.items-guard-items.ensures c.loop-guard.guard-index _ c.loop-guard-test.true)
      c.loop-guard.reading c.loop-guard.invariant w.in-Some.one c.match-guard_reading.reading (w.reading-is ∙ w.both-reading.ensures) w.in-Some.ensures
  | in_default w ↦ rw w.reading-is (
      read_same (change_of c.args.self.now) c.args.rule.now (take c.loop-guard.guard-index c.args.rule.now.guards) _ _
      (next_guard c.items-guard-items.result.now c.args.rule.now.guards c.items-guard-items.ensures c.loop-guard.guard-index _ c.loop-guard-test.true)
      c.loop-guard.reading c.loop-guard.invariant w.in_default.ensures)
]

pub returns : goal.returns
returns c = grind (arith, common_steps)
