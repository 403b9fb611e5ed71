-- The structures that are reset already, and the measure.
use Rattle.std.proofs.Common.{suc}
use Rattle.std.specs.Option.{option_map_or}
use Rattle.dsr_step_theory.specs.Resets.{reset_puts}
use Rattle.dsr_update.proofs.Left.{line_puts}
use Rattle.dsr_update.proofs.Putting.{IsPutting}
use Rattle.dsr_update.proofs.RecordLines.{AreOfRecord}
use Rattle.dsr_update.proofs.resets.reset.Given as goal

-- the structures so far are reset, and those that are left are the record's
abbrev pub invariant-loop-next : goal.invariant-loop-next
invariant-loop-next g l =
    IsPutting (reset_puts l.spec.base l.layout l.elem) (line_puts l.spec.base l.layout l.elem l.next)
    (g.I.ImageBytes.bytes l.fn.image) (g.I.ImageBytes.bytes l.image) (g.I.ImageBytes.claimed l.fn.image) (g.I.ImageBytes.claimed l.image)
    × AreOfRecord l.spec l.elem l.next

abbrev pub decreases-loop-next : goal.decreases-loop-next
decreases-loop-next g l = option_map_or suc l.next 0
