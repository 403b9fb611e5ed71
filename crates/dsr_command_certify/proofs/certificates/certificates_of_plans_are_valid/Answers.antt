use Rattle.dsr_command_certify.proofs.Valid.{low_valid, taken_valid}
use Rattle.dsr_command_certify.proofs.certificates.certificates_of_plans_are_valid.Goals as goal

pub returns : goal.returns
returns c = record { plans = low_valid; taken = taken_valid }
