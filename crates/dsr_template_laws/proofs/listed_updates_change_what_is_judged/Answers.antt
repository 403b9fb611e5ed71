use Rattle.dsr_template_laws.proofs.ListedTemplates.{listed_tried}
use Rattle.dsr_template_laws.proofs.MadeAsJudged.{gains, losses}
use Rattle.dsr_template_laws.proofs.listed_updates_change_what_is_judged.Goals as goal

pub returns-clause-gains : goal.returns-clause-gains
returns-clause-gains c a number listed = gains a (listed_tried a number listed)

pub returns-clause-losses : goal.returns-clause-losses
returns-clause-losses c a number listed = losses a (listed_tried a number listed)
