use Rattle.dsr_graph_laws.proofs.Listed.{violates_no_more}
use Rattle.dsr_graph_laws.proofs.ways_that_break_nothing_violate_no_more.Goals as goal

pub returns : goal.returns
returns c owner conj literal way template is_way other its declared spared a is = violates_no_more owner conj literal way template is_way a is other its declared spared
