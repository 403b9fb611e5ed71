use Rattle.std.proofs.Common.{length, ap, arith}
use Rattle.dsr_placement.proofs.Counted.{few_ways}
use Rattle.dsr_removal.proofs.ways.way_count.Goals as goal

pub returns-clause-all : goal.returns-clause-all
returns-clause-all c = λ owner in_graph.
    let few = few_ways c.args.graph.now c.args.at.constraint owner in_graph c.args.at.conj c.args.at.literal in
    let many = ap length c.ways-listed.ensures.ways in
    let least = c.min.ensures in
    omega (arith, few, many, least)
