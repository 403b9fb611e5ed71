use Rattle.std.proofs.Common.{◌≡◌, Some, length, slice_get, refl, sym, ap, subst, arith}
use Rattle.dsr_compensate.proofs.Each.{item_at}
use Rattle.dsr_graph.specs.Graphs.{owner_at}
use Rattle.dsr_placement.proofs.Left.{left_below}
use Rattle.dsr_placement.specs.Placing.{IsLeft}
use Rattle.dsr_removal.proofs.StuckMembers.{members_whole, no_members}
use Rattle.dsr_removal.specs.Members.{AreMembersBelow}
use Rattle.dsr_removal.proofs.members.members.Goals as goal

pub loop-number-init : goal.loop-number-init
loop-number-init c = subst (AreMembersBelow c.args.spec.now (IsLeft c.args.left.now) 0) (sym c.new-members.ensures.items) (no_members c.args.spec.now (IsLeft c.args.left.now))

pub loop-number-preserved : goal.loop-number-preserved
loop-number-preserved c =
    let spec = c.args.spec.now in
    let i = c.loop-number.number in
    let constraint = c.constraint-item.result in
    let here : slice_get spec.constraints i ≡ Some constraint = subst (λ xs. slice_get xs i ≡ Some constraint) c.items-constraint-items.ensures (item_at c.items-constraint-items.result.now i constraint c.loop-number-test.true c.constraint-item.is) in
    c.in_ok-add_member.ensures (owner_at spec i constraint) (record { graph_is = c.requires.graph; number_is = refl; constraint_is = here }) c.requires.as_many refl c.loop-number.invariant

pub returns : goal.returns
returns c =
    let left = c.args.left.now in
    let past = c.loop-number-test.false in
    let long = ap length c.items-constraint-items.ensures in
    let many = c.requires.as_many in
    members_whole c.args.spec.now (IsLeft left) c.loop-number.number _ (λ m marked. let below = left_below left m marked in omega (arith, below, many, past, long)) c.loop-number.invariant
