use Rattle.dsr_command_edit.proofs.Once.{edit_once}
use Rattle.dsr_command_edit.proofs.laws.edits_end_in_one_way.Goals as goal

pub returns : goal.returns
returns c = edit_once
