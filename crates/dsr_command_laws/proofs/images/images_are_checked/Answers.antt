use Rattle.dsr_command_laws.proofs.ImagesChecked.{checks_images, checks_nothing_else}
use Rattle.dsr_command_laws.proofs.images.images_are_checked.Goals as goal

pub returns : goal.returns
returns c = record {
  images = checks_images c.texts_have_one_meaning.ensures;
  nothing_else = checks_nothing_else c.texts_have_one_meaning.ensures;
}
