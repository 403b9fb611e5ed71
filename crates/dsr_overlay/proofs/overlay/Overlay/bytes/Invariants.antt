use Rattle.std.proofs.Common.{◌≡◌, ◌*◌, take}
use Rattle.dsr_overlay.proofs.overlay.Overlay.bytes.Given as goal

abbrev pub invariant-loop-number : goal.invariant-loop-number
invariant-loop-number l = l.copy.items ≡ take (4096 * l.number) l.self.bytes
