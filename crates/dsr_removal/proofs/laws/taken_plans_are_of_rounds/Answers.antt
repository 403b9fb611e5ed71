use Rattle.dsr_removal.proofs.ByRounds.{of_rounds}
use Rattle.dsr_removal.proofs.Ordered.{taken}
use Rattle.dsr_removal.proofs.laws.taken_plans_are_of_rounds.Goals as goal

pub returns-clause-rounds : goal.returns-clause-rounds
returns-clause-rounds c = λ spec choice taken. of_rounds spec choice taken

pub returns-clause-taken : goal.returns-clause-taken
returns-clause-taken c = λ spec choice its. taken spec its.rounds its.count its.settled.rounds_are choice.rows its.rows
