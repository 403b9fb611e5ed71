use Rattle.dsr_command_laws.proofs.RepairsTakenBack.{undoes_audited}
use Rattle.dsr_command_laws.proofs.audits.sound_repairs_are_taken_back.Goals as goal

pub returns : goal.returns
returns c = λ words before after status runs.
    undoes_audited c.texts_have_one_meaning.ensures words before after status runs c.audited_repairs_are_taken_back.ensures
