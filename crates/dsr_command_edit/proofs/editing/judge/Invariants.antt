use Rattle.std.proofs.Common.{map}
use Rattle.dsr_command_edit.proofs.Judged.{IsJudged}
use Rattle.dsr_edit_text.specs.Shown.{shown}
use Rattle.dsr_command_edit.proofs.editing.judge.Given as goal

abbrev pub invariant-loop-place : goal.invariant-loop-place
invariant-loop-place l = IsJudged l.spec l.session.1 (map shown l.group) l.place l.writes.items
