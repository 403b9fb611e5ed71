use Rattle.dsr_graph_laws.proofs.Breaking.{was_violated}
use Rattle.dsr_graph_laws.proofs.tried_updates_break_nothing.Goals as goal

pub returns : goal.returns
returns c = was_violated
