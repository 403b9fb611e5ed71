use Rattle.dsr_graph.proofs.Deciding.{different_all}
use Rattle.dsr_compensate.specs.Owned.{owner_of}
use Rattle.dsr_graph.proofs.variables.Different.new.Goals as goal

pub returns : goal.returns
returns c =
    different_all (owner_of c.args.owner.now) (owner_of c.args.other.now)
    (record { first_first = c.are_different.result; first_second = c.are_different-2.result; second_first = c.are_different-3.result; second_second = c.are_different-4.result })
    c.are_different.ensures c.are_different-2.ensures c.are_different-3.ensures c.are_different-4.ensures
