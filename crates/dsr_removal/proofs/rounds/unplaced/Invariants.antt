use Rattle.std.proofs.Common.{◌≡◌, ◌≤◌, ◌+◌, drop}
use Rattle.dsr_removal.specs.Rounds as said
use Rattle.dsr_removal.proofs.rounds.unplaced.Given as goal

abbrev pub invariant-loop-round : goal.invariant-loop-round
invariant-loop-round l =
    (l.count + said.unplaced (drop l.round-index l.rounds) ≡ said.unplaced l.rounds) × (l.count ≤ l.round-index)
