use Rattle.std.proofs.Common.{◌≡◌, None, replicate}
use Rattle.dsr_overlay.proofs.overlay.Overlay.new.Given as goal

abbrev pub invariant-loop : goal.invariant-loop
invariant-loop l = l.pages.items ≡ replicate l.counter None
