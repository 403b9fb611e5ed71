use Rattle.dsr_step_laws.proofs.Removed.{picked_fails}
use Rattle.dsr_step_laws.proofs.steps.picked_numbers_fail.Goals as goal

pub returns : goal.returns
returns c spec layout step field f test pick number legal = picked_fails spec layout legal step field f test pick number
