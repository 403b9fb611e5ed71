use Rattle.dsr_graph_laws.proofs.Breaking.{was_violated}
use Rattle.dsr_graph_laws.proofs.Falsifying.{others_stay_true}
use Rattle.dsr_graph_laws.proofs.listed_updates_break_and_falsify_nothing.Goals as goal
use Rattle.dsr_template_laws.proofs.ListedTemplates.{listed_tried}

pub returns-clause-falsifies : goal.returns-clause-falsifies
returns-clause-falsifies c a number listed none n literal b other there = others_stay_true a (listed_tried a number listed) none n literal other there b

pub returns-clause-breaks : goal.returns-clause-breaks
returns-clause-breaks c a number listed = was_violated a (listed_tried a number listed)
