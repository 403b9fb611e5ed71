use Rattle.std.proofs.Common.{◌≡◌, ◌-◌, length}
use Rattle.dsr_undo.proofs.Walking.{IsWalkedBack}
use Rattle.dsr_undo.proofs.undoing.undo.Given as goal

-- the last entries are taken back
abbrev pub invariant-loop-done : goal.invariant-loop-done
invariant-loop-done l = record {
  walked : IsWalkedBack l.spec.base l.log.entries l.entries l.fn.image l.image;
  left : length l.entries ≡ length l.log.entries - l.done;
  long : length l.image ≡ length l.fn.image;
}
