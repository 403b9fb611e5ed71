use Rattle.std.proofs.Common.{length, sym, ap, ◌∙◌, arith}
use Rattle.std.proofs.lemmas.Bool.{false≢true}
use Rattle.std.proofs.lemmas.Option.{slice_get_within}
use Rattle.dsr_graph.specs.Graphs.{ways_of}
use Rattle.dsr_placement.proofs.Counted.{few_ways}
use Rattle.dsr_placement.proofs.Left.{none_more}
use Rattle.dsr_placement.specs.Placing.{IsLeft, IsUsableWay}
use Rattle.dsr_placement.proofs.sparing.first_usable.Goals as goal

pub returns-then-is_usable_below : goal.returns-then-is_usable_below
returns-then-is_usable_below c = λ owner in_graph many. record {
  usable = (c.is_usable_below.ensures owner in_graph many (ap length c.ways-count.ensures.ways)).0 c.if-is_usable_below.true;
  none_before = c.loop-way.invariant owner in_graph many;
}

pub loop-way-preserved : goal.loop-way-preserved
loop-way-preserved c = λ owner in_graph many.
    none_more (IsUsableWay c.args.graph.now owner (IsLeft c.args.left.now) c.args.at) c.loop-way.way
    (λ usable. false≢true (sym c.if-is_usable_below.false ∙ (c.is_usable_below.ensures owner in_graph many (ap length c.ways-count.ensures.ways)).1 usable))
    (c.loop-way.invariant owner in_graph many)

pub returns : goal.returns
returns c = λ owner in_graph many has.
    let past = c.loop-way-test.false in
    let few = few_ways c.args.graph.now c.args.at.constraint owner in_graph c.args.at.conj c.args.at.literal in
    let below = slice_get_within (ways_of c.args.graph.now c.args.at.constraint c.args.at.conj c.args.at.literal) has.0 has.1.template has.1.is_way.template_is in
    c.loop-way.invariant owner in_graph many has.0 (omega (arith, past, few, below)) has.1
