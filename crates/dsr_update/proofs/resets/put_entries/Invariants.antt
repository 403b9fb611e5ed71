-- The entries that have the value already.
use Rattle.std.proofs.Common.{◌-◌}
use Rattle.dsr_update.proofs.Left.{entries_from}
use Rattle.dsr_update.proofs.Putting.{IsPutting}
use Rattle.dsr_update.proofs.resets.put_entries.Given as goal

-- the entries so far have the value
abbrev pub invariant-loop-index : goal.invariant-loop-index
invariant-loop-index g l =
    IsPutting (entries_from l.layout l.elem l.field l.value 0 l.count) (entries_from l.layout l.elem l.field l.value l.index (l.count - l.index))
    (g.I.ImageBytes.bytes l.fn.image) (g.I.ImageBytes.bytes l.image) (g.I.ImageBytes.claimed l.fn.image) (g.I.ImageBytes.claimed l.image)
