use Rattle.std.proofs.Common.{◌∙◌}
use Rattle.dsr_graph.proofs.Deciding.{different_if}
use Rattle.dsr_goal.specs.Knowing.{known_by}
use Rattle.dsr_compensate.specs.Owned.{owner_of}
use Rattle.dsr_graph.proofs.variables.are_different.Goals as goal

pub returns : goal.returns
returns c =
    different_if (owner_of c.args.owner.now) (owner_of c.args.other.now) c.items.result.now (known_by c.known.result.now) (known_by c.known-2.result.now) c.args.var c.args.at c.has_known_pair.result
    c.requires.same (c.items.ensures ∙ c.requires.facts.exclusive) c.known.ensures c.known-2.ensures c.has_known_pair.ensures
