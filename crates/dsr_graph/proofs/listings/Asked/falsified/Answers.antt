use Rattle.std.proofs.Common.{◌↔◌, IsTrue, ◌∙◌, arith}
use Rattle.std.proofs.lemmas.List.Elements.{All-same}
use Rattle.dsr_graph_theory.specs.Breaks.{MayFalsify}
use Rattle.dsr_compensate.proofs.Each.{item_at}
use Rattle.dsr_graph.specs.Told.{IsOfDeclared}
use Rattle.dsr_graph.proofs.Breaking.{falsify_if}
use Rattle.dsr_graph.proofs.Paired.{paired_back, paired_step, paired_whole}
use Rattle.dsr_graph.specs.Asking.{AreOwnCausesOf}
use Rattle.dsr_compensate.specs.Owned.{owner_of}
use Rattle.dsr_graph.proofs.listings.Asked.falsified.Goals as goal

pub may_falsify-requires-clause-declared : goal.may_falsify-requires-clause-declared
may_falsify-requires-clause-declared c =
    let base = c.args.self.now.owner.now.spec.now.base in
    let its = paired_back (λ n first causes. AreOwnCausesOf base first causes) c.args.self.now.firsts.now c.args.self.now.own.now c.loop-causes.causes-index c.causes-item.result c.requires.asked.own
    (item_at c.args.self.now.own.now c.loop-causes.causes-index c.causes-item.result c.loop-causes-test.true c.causes-item.is) in
    All-same (IsOfDeclared base) c.items.result.now c.causes-item.result c.items.ensures its.2.declared

pub loop-causes-preserved : goal.loop-causes-preserved
loop-causes-preserved c =
    let owner = owner_of c.args.self.now.owner.now in
    let template = c.args.judged.now.template in
    let its = paired_back (λ n first causes. AreOwnCausesOf owner.spec.base first causes) c.args.self.now.firsts.now c.args.self.now.own.now c.loop-causes.causes-index c.causes-item.result c.requires.asked.own
    (item_at c.args.self.now.own.now c.loop-causes.causes-index c.causes-item.result c.loop-causes-test.true c.causes-item.is) in
    paired_step (λ n first mark. IsTrue mark ↔ MayFalsify owner template first.literal) c.args.self.now.firsts.now c.loop-causes.marks.items c.push.new.self.items c.loop-causes.causes-index its.0 c.may_falsify.result its.1 c.in_ok-push.ensures.items
    (falsify_if owner template its.0.literal c.items.result.now c.may_falsify.result (c.items.ensures ∙ its.2.are) c.may_falsify.ensures) c.loop-causes.invariant

pub returns : goal.returns
returns c =
    let owner = owner_of c.args.self.now.owner.now in
    let many = c.requires.asked.own.as_many in
    let past = c.loop-causes-test.false in
    paired_whole (λ n first mark. IsTrue mark ↔ MayFalsify owner c.args.judged.now.template first.literal) c.args.self.now.firsts.now c.loop-causes.marks.items c.loop-causes.causes-index (omega (arith, many, past)) c.loop-causes.invariant
