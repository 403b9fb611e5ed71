use Rattle.dsr_template_laws.proofs.MadeAsJudged.{gains, losses}
use Rattle.dsr_template_laws.proofs.tried_updates_change_what_is_judged.Goals as goal

pub returns-clause-gains : goal.returns-clause-gains
returns-clause-gains c = gains

pub returns-clause-losses : goal.returns-clause-losses
returns-clause-losses c = losses
