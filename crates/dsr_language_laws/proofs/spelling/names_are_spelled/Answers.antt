use Rattle.dsr_language_laws.proofs.SpelledTrees.{names_spelled}
use Rattle.dsr_language_laws.proofs.spelling.names_are_spelled.Goals as goal

pub returns : goal.returns
returns c = names_spelled
