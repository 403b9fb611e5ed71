use Rattle.std.proofs.Common.{sym, subst, ◌∙◌, ◌+◌}
use Rattle.std.proofs.lemmas.Bool.{false≢true}
use Rattle.dsr_placement.specs.Placing.{IsLeft}
use Rattle.dsr_removal.proofs.StuckMembers.{one_more, one_passed}
use Rattle.dsr_removal.specs.Members.{AreMembersBelow}
use Rattle.dsr_removal.proofs.members.add_member.Goals as goal

pub returns-then-not-is_left : goal.returns-then-not-is_left
returns-then-not-is_left c = λ owner in_graph many same before.
    one_passed owner.spec (IsLeft c.args.left.now) c.args.number _ (λ member. false≢true (sym c.if-not-is_left.true ∙ (c.is_left.ensures ∙ member))) before

pub returns : goal.returns
returns c = λ owner in_graph many same before.
    subst (AreMembersBelow owner.spec (IsLeft c.args.left.now) (c.args.number + 1)) (sym c.in_ok-push.ensures.items)
    (one_more owner.spec (IsLeft c.args.left.now) c.args.number _ _ (sym c.is_left.ensures ∙ c.if-not-is_left.false) (c.in_ok-member.ensures owner in_graph many same) before)
