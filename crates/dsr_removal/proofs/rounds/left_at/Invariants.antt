use Rattle.std.proofs.Common.{◌≡◌, map, take}
use Rattle.dsr_removal.specs.Rounds.{is_late}
use Rattle.dsr_removal.proofs.rounds.left_at.Given as goal

abbrev pub invariant-loop-round : goal.invariant-loop-round
invariant-loop-round l = l.left.items ≡ map (is_late l.number) (take l.round-index l.rounds)
