use Rattle.dsr_command_laws.proofs.TextsPrinted.{prints_texts}
use Rattle.dsr_command_laws.proofs.images.texts_are_printed.Goals as goal

pub returns : goal.returns
returns c = prints_texts
