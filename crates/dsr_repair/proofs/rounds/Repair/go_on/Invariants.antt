-- The steps of a round so far, from which the repair may go on.
use Rattle.std.proofs.Common.{◌≡◌, ◌+◌, length}
use Rattle.dsr_repair.specs.Rounds.{IsRound, IsUnderWay}
use Rattle.dsr_repair.proofs.rounds.Repair.go_on.Given as goal

abbrev pub invariant-loop-made : goal.invariant-loop-made
invariant-loop-made g l = record {
  under_way : IsUnderWay l.plan.0 l.plan.1 l.layout (g.I.ImageBytes.bytes l.image) l.self;
  round : IsRound l.plan.0 l.plan.1 l.layout (g.I.ImageBytes.bytes l.fn.image) l.fn.log.entries (g.I.ImageBytes.bytes l.image) l.log.entries;
  count : length l.log.entries ≡ length l.fn.log.entries + l._made;
}
