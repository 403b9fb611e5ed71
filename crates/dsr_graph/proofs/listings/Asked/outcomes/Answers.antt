use Rattle.std.proofs.Common.{arith}
use Rattle.dsr_compensate.proofs.Each.{item_at}
use Rattle.dsr_compensate.specs.Taking.{templates_of}
use Rattle.dsr_graph.proofs.Paired.{made_item, made_length, paired_step, paired_whole}
use Rattle.dsr_graph.specs.Graphs.{IsOutcomeOf}
use Rattle.dsr_compensate.specs.Owned.{owner_of}
use Rattle.dsr_graph.proofs.listings.Asked.outcomes.Goals as goal

pub loop-its-preserved : goal.loop-its-preserved
loop-its-preserved c =
    paired_step (λ n template outcome. IsOutcomeOf (owner_of c.args.self.now.owner.now) c.args.self.now.firsts.now template outcome) (templates_of c.args.judged.now) c.loop-its.outcomes.items c.push.new.self.items c.loop-its.its-index c.its-item.result.template c.in_ok-outcome.outcome
    (made_item (λ j. j.template) c.args.judged.now c.loop-its.its-index c.its-item.result (item_at c.args.judged.now c.loop-its.its-index c.its-item.result c.loop-its-test.true c.its-item.is))
    c.in_ok-push.ensures.items c.in_ok-outcome.ensures c.loop-its.invariant

pub returns : goal.returns
returns c =
    let many = made_length (λ j. j.template) c.args.judged.now in
    let past = c.loop-its-test.false in
    paired_whole (λ n template outcome. IsOutcomeOf (owner_of c.args.self.now.owner.now) c.args.self.now.firsts.now template outcome) (templates_of c.args.judged.now) c.loop-its.outcomes.items c.loop-its.its-index (omega (arith, many, past)) c.loop-its.invariant
