use Rattle.dsr_graph_laws.proofs.Falsifying.{others_stay_true}
use Rattle.dsr_graph_laws.proofs.tried_updates_falsify_nothing_else.Goals as goal

pub returns : goal.returns
returns c a is none n literal b other there = others_stay_true a is none n literal other there b
