use Rattle.dsr_command_laws.proofs.RepairsUndone.{undoes_nothing_else, undoes_repairs}
use Rattle.dsr_command_laws.proofs.undos.repairs_are_undone.Goals as goal

pub returns : goal.returns
returns c = record {
  repairs = undoes_repairs c.texts_have_one_meaning.ensures;
  nothing_else = undoes_nothing_else c.texts_have_one_meaning.ensures;
}
