use Rattle.dsr_graph_laws.proofs.Listed.{stays_true}
use Rattle.dsr_graph_laws.proofs.ways_that_falsify_nothing_keep_literals.Goals as goal

pub returns : goal.returns
returns c owner conj literal way template is_way none a is = stays_true owner conj literal way template is_way a is none
