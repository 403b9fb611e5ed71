use Rattle.std.proofs.Common.{take}
use Rattle.dsr_report_read.proofs.Sought.{NoneViewed}
use Rattle.dsr_report_read.proofs.fields.is_viewed.Given as goal

abbrev pub invariant-loop-set : goal.invariant-loop-set
invariant-loop-set l = NoneViewed l.base l.pool l.structure (take l.set-index l.base.sets)
