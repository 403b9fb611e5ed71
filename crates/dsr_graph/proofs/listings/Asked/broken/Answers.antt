use Rattle.std.proofs.Common.{sym, subst, arith}
use Rattle.dsr_graph_theory.specs.Breaks.{Breaks}
use Rattle.dsr_graph.proofs.Paired.{paired_step, paired_whole}
use Rattle.dsr_graph.specs.Graphs.{owner_at, reason_of}
use Rattle.dsr_compensate.specs.Owned.{owner_of}
use Rattle.dsr_graph.proofs.listings.Asked.broken.Goals as goal
use Rattle.dsr_meaning.proofs.Items.{item_there}

pub loop-other-preserved : goal.loop-other-preserved
loop-other-preserved c =
    let owner = owner_of c.args.self.now.owner.now in
    let template = c.args.judged.now.template in
    let other = c.loop-other.other in
    let less = c.loop-other-test.true in
    let many = c.requires.asked.excuses.as_many in
    let found = item_there owner.spec.constraints other (omega (arith, less, many)) in
    paired_step (λ n its edge. Breaks owner (owner_at owner.spec n its) template (reason_of edge)) owner.spec.constraints c.loop-other.edges.items c.push.new.self.items other found.0 c.new.result found.1 c.in_ok-push.ensures.items
    (subst (Breaks owner (owner_at owner.spec other found.0) template) (sym c.new.ensures) (c.reason.ensures.breaks found.0 found.1)) c.loop-other.invariant

pub returns : goal.returns
returns c =
    let owner = owner_of c.args.self.now.owner.now in
    let many = c.requires.asked.excuses.as_many in
    let past = c.loop-other-test.false in
    paired_whole (λ n its edge. Breaks owner (owner_at owner.spec n its) c.args.judged.now.template (reason_of edge)) owner.spec.constraints c.loop-other.edges.items c.loop-other.other (omega (arith, many, past)) c.loop-other.invariant
