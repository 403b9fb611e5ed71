use Rattle.dsr_command_edit.proofs.Sought.{NoneBefore}
use Rattle.dsr_command_edit.proofs.named.field_named.Given as goal

-- no structure so far has such a field
abbrev pub invariant-loop-number : goal.invariant-loop-number
invariant-loop-number l = NoneBefore l.base l.pool l.name l.indexed l.number
