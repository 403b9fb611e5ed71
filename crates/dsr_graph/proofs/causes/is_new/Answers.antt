use Rattle.dsr_graph_theory.specs.contracts.causes.CausePartialEq.TheImpl as cause
use Rattle.dsr_graph.proofs.SameCauses.{cause_decides}
use Rattle.dsr_goal.proofs.Once.{tells_new}
use Rattle.dsr_graph.proofs.causes.is_new.Goals as goal

pub returns : goal.returns
returns c = tells_new cause.ghosts.eq cause_decides c.args.causes.now c.args.cause.now c.contains.result c.contains.ensures.value
