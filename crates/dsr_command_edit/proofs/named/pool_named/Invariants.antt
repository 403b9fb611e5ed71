use Rattle.dsr_command_edit.proofs.Sought.{NoPoolBefore}
use Rattle.dsr_command_edit.proofs.named.pool_named.Given as goal

abbrev pub invariant-loop-place : goal.invariant-loop-place
invariant-loop-place l = NoPoolBefore l.spec l.name l.place
