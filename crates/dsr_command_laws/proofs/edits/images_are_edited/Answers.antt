use Rattle.dsr_command_laws.proofs.ImagesEdited.{edits_images, edits_nothing_else}
use Rattle.dsr_command_laws.proofs.edits.images_are_edited.Goals as goal

pub returns : goal.returns
returns c = record {
  edits = edits_images c.texts_have_one_meaning.ensures;
  nothing_else = edits_nothing_else c.texts_have_one_meaning.ensures;
}
