use Rattle.std.proofs.Common.{sym, ap, subst, ◌∙◌, arith}
use Rattle.dsr_compensate.proofs.Each.{item_at}
use Rattle.dsr_graph.specs.Told.{AreFactsOf}
use Rattle.dsr_graph.proofs.Paired.{paired_back, paired_step, paired_whole}
use Rattle.dsr_graph.specs.Asking.{AreCausesOf, AreFactsAt, IsOwnerAt}
use Rattle.dsr_graph.specs.Graphs.{IsNodeOf, owner_at}
use Rattle.dsr_graph.specs.Paired.{ArePaired}
use Rattle.dsr_update_theory.specs.Facts.{from}
use Rattle.dsr_graph.proofs.building.of_owners.Goals as goal

pub node-requires-clause-sound : goal.node-requires-clause-sound
node-requires-clause-sound c =
    let spec = c.args.spec.now in
    let its = paired_back (IsOwnerAt spec) spec.constraints c.args.owners.now c.loop-number.number c.index-owners-number.result c.requires.owners (item_at c.args.owners.now c.loop-number.number c.index-owners-number.result c.loop-number-test.true c.index-owners-number.is) in
    its.2.sound

pub node-requires-clause-facts : goal.node-requires-clause-facts
node-requires-clause-facts c =
    let spec = c.args.spec.now in
    let its = paired_back (IsOwnerAt spec) spec.constraints c.args.owners.now c.loop-number.number c.index-owners-number.result c.requires.owners (item_at c.args.owners.now c.loop-number.number c.index-owners-number.result c.loop-number-test.true c.index-owners-number.is) in
    let less = c.loop-number-test.true in
    let many = c.requires.owners.as_many in
    let also = c.requires.facts.as_many in
    let facts = paired_back (λ n constraint x. AreFactsAt spec n x) spec.constraints c.args.facts.now c.loop-number.number c.index-facts-number.result c.requires.facts (item_at c.args.facts.now c.loop-number.number c.index-facts-number.result (omega (arith, less, many, also)) c.index-facts-number.is) in
    subst (λ o. AreFactsOf o c.index-facts-number.result) (sym its.2.owner_is) (record { injective = facts.2.injective; exclusive = facts.2.exclusive; apart = facts.2.apart })

pub node-requires-clause-from : goal.node-requires-clause-from
node-requires-clause-from c =
    let spec = c.args.spec.now in
    let its = paired_back (IsOwnerAt spec) spec.constraints c.args.owners.now c.loop-number.number c.index-owners-number.result c.requires.owners (item_at c.args.owners.now c.loop-number.number c.index-owners-number.result c.loop-number-test.true c.index-owners-number.is) in
    let less = c.loop-number-test.true in
    let many = c.requires.owners.as_many in
    let also = c.requires.facts.as_many in
    let facts = paired_back (λ n constraint x. AreFactsAt spec n x) spec.constraints c.args.facts.now c.loop-number.number c.index-facts-number.result c.requires.facts (item_at c.args.facts.now c.loop-number.number c.index-facts-number.result (omega (arith, less, many, also)) c.index-facts-number.is) in
    facts.2.from_is ∙ sym (ap (λ o. from o.spec o.number) its.2.owner_is)

pub node-requires-clause-owners : goal.node-requires-clause-owners
node-requires-clause-owners c =
    let spec = c.args.spec.now in
    let its = paired_back (IsOwnerAt spec) spec.constraints c.args.owners.now c.loop-number.number c.index-owners-number.result c.requires.owners (item_at c.args.owners.now c.loop-number.number c.index-owners-number.result c.loop-number-test.true c.index-owners-number.is) in
    subst (λ s. ArePaired (IsOwnerAt s) s.constraints c.args.owners.now) (sym (ap (λ o. o.spec) its.2.owner_is)) c.requires.owners

pub node-requires-clause-causes : goal.node-requires-clause-causes
node-requires-clause-causes c =
    let spec = c.args.spec.now in
    let its = paired_back (IsOwnerAt spec) spec.constraints c.args.owners.now c.loop-number.number c.index-owners-number.result c.requires.owners (item_at c.args.owners.now c.loop-number.number c.index-owners-number.result c.loop-number-test.true c.index-owners-number.is) in
    subst (λ s. ArePaired (λ n constraint x. AreCausesOf s constraint x) s.constraints c.args.causes.now) (sym (ap (λ o. o.spec) its.2.owner_is)) c.requires.causes

pub loop-number-preserved : goal.loop-number-preserved
loop-number-preserved c =
    let spec = c.args.spec.now in
    let its = paired_back (IsOwnerAt spec) spec.constraints c.args.owners.now c.loop-number.number c.index-owners-number.result c.requires.owners (item_at c.args.owners.now c.loop-number.number c.index-owners-number.result c.loop-number-test.true c.index-owners-number.is) in
    paired_step (λ n constraint node. IsNodeOf (owner_at spec n constraint) node) spec.constraints c.loop-number.nodes.items c.push.new.self.items c.loop-number.number its.0 c.in_ok-next.next its.1 c.in_ok-push.ensures.items
    (subst (λ o. IsNodeOf o c.in_ok-next.next) its.2.owner_is c.in_ok-next.ensures) c.loop-number.invariant

pub returns : goal.returns
returns c =
    let spec = c.args.spec.now in
    let many = c.requires.owners.as_many in
    let past = c.loop-number-test.false in
    paired_whole (λ n constraint node. IsNodeOf (owner_at spec n constraint) node) spec.constraints c.loop-number.nodes.items c.loop-number.number (omega (arith, many, past)) c.loop-number.invariant
