use Rattle.std.proofs.Common.{length, ap, arith}
use Rattle.dsr_graph.proofs.Paired.{paired_all, paired_step}
use Rattle.dsr_graph.specs.Asking.{AreFactsAt}
use Rattle.dsr_graph.proofs.building.all_facts.Goals as goal
use Rattle.dsr_meaning.proofs.Items.{item_there}

pub loop-number-preserved : goal.loop-number-preserved
loop-number-preserved c =
    let spec = c.args.spec.now in
    let less = c.loop-number-test.true in
    let many = ap length c.items-number-end.ensures in
    let found = item_there spec.constraints c.loop-number.number (omega (arith, less, many)) in
    paired_step (λ n constraint its. AreFactsAt spec n its) spec.constraints c.loop-number.facts.items c.push.new.self.items c.loop-number.number found.0 c.in_ok-its.its found.1 c.in_ok-push.ensures.items
    (record { injective = c.in_ok-its.ensures.injective; exclusive = c.in_ok-its.ensures.exclusive; apart = c.in_ok-its.ensures.apart; from_is = c.in_ok-its.ensures.from })
    c.loop-number.invariant

pub returns : goal.returns
returns c =
    paired_all (λ n constraint its. AreFactsAt c.args.spec.now n its) c.items-number-end.result.now c.args.spec.now.constraints c.items-number-end.ensures c.loop-number.facts.items c.loop-number.number c.loop-number-test.false c.loop-number.invariant
