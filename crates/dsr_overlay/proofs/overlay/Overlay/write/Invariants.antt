use Rattle.dsr_overlay.proofs.Written.{Writes}
use Rattle.dsr_overlay.proofs.overlay.Overlay.write.Given as goal

abbrev pub invariant-loop-i : goal.invariant-loop-i
invariant-loop-i l = Writes l.first l.i l.part l.initial.self l.self
