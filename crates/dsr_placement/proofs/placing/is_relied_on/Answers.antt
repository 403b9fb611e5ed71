use Rattle.std.proofs.Common.{refl, sym, ◌∙◌, arith}
use Rattle.std.proofs.lemmas.Bool.{false≢true}
use Rattle.dsr_placement.proofs.Left.{left_below, none_more}
use Rattle.dsr_placement.specs.Placing.{IsLeft, ReliesLeft}
use Rattle.dsr_plan_theory.specs.Plans.{owner_at}
use Rattle.dsr_placement.proofs.placing.is_relied_on.Goals as goal
use Rattle.dsr_meaning.proofs.Items.{item_there}

pub returns-then-relies_left : goal.returns-then-relies_left
returns-then-relies_left c = λ owner in_graph many.
    let less = c.loop-who-test.true in
    let its = item_there owner.spec.constraints c.loop-who.who (omega (arith, less, many)) in
    let r = (c.relies_left.ensures.relies (owner_at owner.spec c.loop-who.who its.0) (record { graph_is = in_graph.graph_is; number_is = refl; constraint_is = its.1 })).0 c.if-relies_left.true in
    (c.loop-who.who, r.member, r.relies)

pub loop-who-preserved : goal.loop-who-preserved
loop-who-preserved c = λ owner in_graph many.
    let less = c.loop-who-test.true in
    let its = item_there owner.spec.constraints c.loop-who.who (omega (arith, less, many)) in
    none_more (λ m. ReliesLeft owner.spec (IsLeft c.args.left.now) m c.args.on) c.loop-who.who
    (λ r. false≢true (sym c.if-relies_left.false ∙ (c.relies_left.ensures.relies (owner_at owner.spec c.loop-who.who its.0) (record { graph_is = in_graph.graph_is; number_is = refl; constraint_is = its.1 })).1 r))
    (c.loop-who.invariant owner in_graph many)

pub returns : goal.returns
returns c = λ owner in_graph many m member relies.
    let past = c.loop-who-test.false in
    let below = left_below c.args.left.now m member in
    c.loop-who.invariant owner in_graph many m (omega (arith, past, below)) (record { member = member; relies = relies })
