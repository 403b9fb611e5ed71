use Rattle.std.proofs.Common.{subst, ap, arith}
use Rattle.dsr_compensate.proofs.Each.{item_at}
use Rattle.dsr_graph.specs.Told.{TellsExcuses}
use Rattle.dsr_graph.proofs.Paired.{paired_back, paired_step, paired_whole}
use Rattle.dsr_graph.specs.Asking.{IsOwnerAt}
use Rattle.dsr_graph.specs.Graphs.{owner_at}
use Rattle.dsr_compensate.specs.Owned.{owner_of}
use Rattle.dsr_graph.proofs.building.all_excuses.Goals as goal

pub new-requires-clause-other_sound : goal.new-requires-clause-other_sound
new-requires-clause-other_sound c =
    let spec = c.args.owner.now.spec.now in
    let its = paired_back (IsOwnerAt spec) spec.constraints c.args.owners.now c.loop-other.other-index c.other-item.result c.requires.owners (item_at c.args.owners.now c.loop-other.other-index c.other-item.result c.loop-other-test.true c.other-item.is) in
    its.2.sound

pub new-requires-clause-same : goal.new-requires-clause-same
new-requires-clause-same c =
    let spec = c.args.owner.now.spec.now in
    let its = paired_back (IsOwnerAt spec) spec.constraints c.args.owners.now c.loop-other.other-index c.other-item.result c.requires.owners (item_at c.args.owners.now c.loop-other.other-index c.other-item.result c.loop-other-test.true c.other-item.is) in
    ap (λ o. o.spec) its.2.owner_is

pub loop-other-preserved : goal.loop-other-preserved
loop-other-preserved c =
    let spec = c.args.owner.now.spec.now in
    let its = paired_back (IsOwnerAt spec) spec.constraints c.args.owners.now c.loop-other.other-index c.other-item.result c.requires.owners (item_at c.args.owners.now c.loop-other.other-index c.other-item.result c.loop-other-test.true c.other-item.is) in
    paired_step (λ n other e. TellsExcuses (owner_of c.args.owner.now) (owner_at spec n other) e) spec.constraints c.loop-other.all.items c.push.new.self.items c.loop-other.other-index its.0 c.new.result its.1 c.in_ok-push.ensures.items
    (subst (λ o. TellsExcuses (owner_of c.args.owner.now) o c.new.result) its.2.owner_is c.new.ensures) c.loop-other.invariant

pub returns : goal.returns
returns c =
    let spec = c.args.owner.now.spec.now in
    let many = c.requires.owners.as_many in
    let past = c.loop-other-test.false in
    paired_whole (λ n other e. TellsExcuses (owner_of c.args.owner.now) (owner_at spec n other) e) spec.constraints c.loop-other.all.items c.loop-other.other-index (omega (arith, many, past)) c.loop-other.invariant
