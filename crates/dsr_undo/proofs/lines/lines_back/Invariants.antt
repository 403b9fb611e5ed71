use Rattle.std.proofs.Common.{◌≡◌, ◌-◌, drop, length}
use Rattle.dsr_undo_laws.specs.TakingBack.{AreLinesBack}
use Rattle.dsr_undo.proofs.lines.lines_back.Given as goal

-- the last lines are taken back
abbrev pub invariant-loop-done : goal.invariant-loop-done
invariant-loop-done g l = record {
  back : AreLinesBack l.fixed (drop (length l.lines - l.done) l.lines) (g.I.ImageBytes.bytes l.fn.image) (g.I.ImageBytes.bytes l.image);
  long : length (g.I.ImageBytes.bytes l.image) ≡ length (g.I.ImageBytes.bytes l.fn.image);
  kept : g.I.ImageBytes.claimed l.image ≡ g.I.ImageBytes.claimed l.fn.image;
}
