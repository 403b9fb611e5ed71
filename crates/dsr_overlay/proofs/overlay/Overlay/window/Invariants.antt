use Rattle.std.proofs.Common.{◌≡◌, ◌<◌, ◌+◌, ℕ, get_or, length}
use Rattle.dsr_overlay.proofs.overlay.Overlay.window.Given as goal

abbrev pub invariant-loop-i : goal.invariant-loop-i
invariant-loop-i l = record {
  bytes : (q : ℕ) → q < l.i → get_or l.part q 0 ≡ get_or l.self.bytes (l.first + q) 0;
  eight : length l.part ≡ 8;
}
