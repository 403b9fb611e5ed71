use Rattle.std.proofs.Common.{true, arith}
use Rattle.dsr_affected.proofs.Marking.{set_past}
use Rattle.dsr_affected.proofs.marks.set_mark.Goals as goal

pub returns-else-place-lt64 : goal.returns-else-place-lt64
returns-else-place-lt64 c = set_past c.args.marks.now c.args.number true (omega arith)
