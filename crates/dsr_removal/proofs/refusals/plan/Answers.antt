use Rattle.std.proofs.Common.{subst}
use Rattle.dsr_removal.proofs.Whole.{no_plan}
use Rattle.dsr_removal.specs.Placements.{IsPlacementFor}
use Rattle.dsr_removal.proofs.refusals.plan.Goals as goal

pub returns-in_ok-stuck_set-in-Stuck-clause-refused : goal.returns-in_ok-stuck_set-in-Stuck-clause-refused
returns-in_ok-stuck_set-in-Stuck-clause-refused c =
    let spec = c.args.spec.now in
    let largest = subst (IsPlacementFor spec) c.in-Stuck.is c.in_ok-choice.ensures in
    (c.in_ok-stuck_set-in-Stuck.ensures, no_plan spec c.in-Stuck.left.items largest)
