use Rattle.dsr_command_certify.proofs.Valid.{once_said, right_said}
use Rattle.dsr_command_certify.proofs.certificates.choices_are_read_back.Goals as goal

pub returns : goal.returns
returns c = record { right = right_said; read = once_said }
