use Rattle.std.proofs.Common.{◌≡◌, ◌<◌, Some, get_or, slice_get, length, ap, subst, arith}
use Rattle.dsr_compensate.proofs.Each.{item_at}
use Rattle.dsr_graph.proofs.Paired.{paired_all, paired_back, paired_push}
use Rattle.dsr_graph.specs.Asking.{AreFactsAt, IsOwnerAt}
use Rattle.dsr_graph.proofs.building.all_owners.Goals as goal

pub bounds-facts-number : goal.bounds-facts-number
bounds-facts-number c =
    let less = c.loop-number-test.true in
    let many = ap length c.items-constraint-items.ensures in
    let also = c.requires.facts.as_many in
    omega (arith, less, many, also)

pub new-owner-requires : goal.new-owner-requires
new-owner-requires c =
    let spec = c.args.spec.now in
    let n = c.loop-number.number in
    let less = c.loop-number-test.true in
    let many = ap length c.items-constraint-items.ensures in
    let also = c.requires.facts.as_many in
    let facts = paired_back (λ k constraint x. AreFactsAt spec k x) spec.constraints c.args.facts.now n c.index-facts-number.result c.requires.facts (item_at c.args.facts.now n c.index-facts-number.result (omega (arith, less, many, also)) c.index-facts-number.is) in
    record {
      typed = c.requires.typed;
      constraint = subst (λ xs. slice_get xs n ≡ Some c.constraint-item.result) c.items-constraint-items.ensures (item_at c.items-constraint-items.result.now n c.constraint-item.result less c.constraint-item.is);
      facts = facts.2.exclusive;
    }

pub returns : goal.returns
returns c =
    paired_all (IsOwnerAt c.args.spec.now) c.items-constraint-items.result.now c.args.spec.now.constraints c.items-constraint-items.ensures c.loop-number.owners.items c.loop-number.number c.loop-number-test.false c.loop-number.invariant

pub loop-number-preserved : goal.loop-number-preserved
loop-number-preserved c =
    paired_push (IsOwnerAt c.args.spec.now) c.items-constraint-items.result.now c.args.spec.now.constraints c.items-constraint-items.ensures c.loop-number.number c.loop-number-test.true c.constraint-item.result c.constraint-item.is
    c.loop-number.owners.items c.push.new.self.items c.new-owner.result c.in_ok-push.ensures.items
    (record {
      owner_is = λ i. record { spec = c.new-owner.ensures.spec i; number = c.new-owner.ensures.number i; constraint = c.new-owner.ensures.constraint i };
      sound = c.new-owner.ensures.sound;
    }) c.loop-number.invariant
