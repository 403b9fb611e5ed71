use Rattle.std.proofs.Common.{sym, subst}
use Rattle.dsr_placement.specs.Placing.{IsLeft}
use Rattle.dsr_plan_theory.specs.StuckSets.{IsEnd, IsStuckSet}
use Rattle.dsr_removal.proofs.Whole.{whole}
use Rattle.dsr_removal.proofs.refusals.stuck_set.Goals as goal

pub returns : goal.returns
returns c =
    let spec = c.args.spec.now in
    let left = c.args.left.now in
    let end = c.in_ok-end.end in
    let ends = subst (λ ms. IsEnd spec (IsLeft left) ms end) c.deref.ensures.value c.in_ok-end.ensures in
    subst (λ ms. IsStuckSet spec (record { members = ms; end = end })) (sym c.new.ensures)
    (whole spec left c.in_ok-members.members.items end c.requires.largest c.in_ok-members.ensures ends)
