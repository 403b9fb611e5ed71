use Rattle.dsr_command_laws.proofs.ImagesRepaired.{repairs_images, repairs_nothing_else}
use Rattle.dsr_command_laws.proofs.Lasting.{repairs_last}
use Rattle.dsr_command_laws.proofs.repairs.images_are_repaired.Goals as goal

pub returns : goal.returns
returns c = record {
  repairs = repairs_images c.texts_have_one_meaning.ensures;
  nothing_else = repairs_nothing_else c.texts_have_one_meaning.ensures;
  last = λ words before after status runs.
      repairs_last words before after status (repairs_images c.texts_have_one_meaning.ensures words before after status runs);
}
