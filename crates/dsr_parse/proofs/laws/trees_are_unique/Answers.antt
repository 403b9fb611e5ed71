use Rattle.dsr_parse.proofs.TreesOnce.{tree_unique}
use Rattle.dsr_parse.proofs.laws.trees_are_unique.Goals as goal

pub returns : goal.returns
returns c = tree_unique
