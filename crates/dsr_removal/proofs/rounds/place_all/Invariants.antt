use Rattle.std.proofs.Common.{◌≤◌, ◌+◌, length}
use Rattle.dsr_removal.specs.Rounds.{AreRounds, unplaced}
use Rattle.dsr_removal.proofs.rounds.place_all.Given as goal

abbrev pub invariant-loop-rounds : goal.invariant-loop-rounds
invariant-loop-rounds l =
    AreRounds l.spec l.rounds.items l.count × (l.count + unplaced l.rounds.items ≤ length l.spec.constraints)

abbrev pub decreases-loop-rounds : goal.decreases-loop-rounds
decreases-loop-rounds l = unplaced l.rounds.items
