use Rattle.dsr_undo_laws.proofs.Outcomes.{entries_never, entries_one, entry_refused}
use Rattle.dsr_undo_laws.proofs.laws.taking_back_has_one_outcome.Goals as goal

pub returns : goal.returns
returns c = record {
  image = λ base es old new other. entries_one es old new other;
  either = λ base first es old new other fault. entries_never first es old new other fault;
  fault = λ base first es old new other fault cause. entry_refused first es old new other fault cause;
}
