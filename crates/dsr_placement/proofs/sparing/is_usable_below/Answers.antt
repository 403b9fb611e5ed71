use Rattle.std.proofs.Common.{arith}
use Rattle.dsr_graph.specs.Graphs.{ways_of}
use Rattle.dsr_placement.proofs.sparing.is_usable_below.Goals as goal
use Rattle.dsr_meaning.proofs.Items.{item_there}

pub returns : goal.returns
returns c = λ owner in_graph many count_is.
    let less = c.if-way-count.false in
    let its = item_there (ways_of c.args.graph.now c.args.at.constraint c.args.at.conj c.args.at.literal) c.args.way (omega (arith, less, count_is)) in (
      λ t. record {
        template = its.0;
        is_way = record { owner_in = in_graph; template_is = its.1 };
        usable = (c.is_usable.ensures owner its.0 (record { owner_in = in_graph; template_is = its.1 }) many).0 t;
      },
      λ usable. (c.is_usable.ensures owner usable.template usable.is_way many).1 usable.usable,
    )
