use Rattle.dsr_overlay.proofs.Claimed.{Claims}
use Rattle.dsr_overlay.proofs.overlay.OverlayImageBytes.claim.Given as goal

abbrev pub invariant-loop-number : goal.invariant-loop-number
invariant-loop-number l = Claims l.at l.number l.initial.self l.self
