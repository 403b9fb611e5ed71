use Rattle.dsr_compile.proofs.Once.{not_refused, tree_unique}
use Rattle.dsr_compile_laws.proofs.texts_have_one_meaning.Goals as goal

pub returns : goal.returns
returns c = record { unique = tree_unique; not_refused = not_refused }
