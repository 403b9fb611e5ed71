use Rattle.std.proofs.Common.{sym, subst, arith}
use Rattle.std.proofs.lemmas.Grind.{common_steps}
use Rattle.dsr_placement.specs.Placing.{IsLeft}
use Rattle.dsr_plan_theory.specs.StuckSets.{FindsFirst, IsCycle, IsHopeless}
use Rattle.dsr_removal.proofs.StuckMembers.{each_waits}
use Rattle.dsr_removal.proofs.ends.end.Goals as goal

pub cycle-requires-clause-waits : goal.cycle-requires-clause-waits
cycle-requires-clause-waits c =
    let hopeless = IsHopeless c.args.spec.now (IsLeft c.args.left.now) in
    let none = subst (FindsFirst hopeless) c.in-None.is c.in_ok-number.ensures in
    each_waits c.args.spec.now (IsLeft c.args.left.now) c.args.members.now c.requires.largest.stuck c.requires.members none

pub returns-in_ok-cycle-in-None : goal.returns-in_ok-cycle-in-None
returns-in_ok-cycle-in-None c =
    let hopeless = IsHopeless c.args.spec.now (IsLeft c.args.left.now) in
    (subst (FindsFirst hopeless) c.in-None.is c.in_ok-number.ensures, subst (IsCycle c.args.members.now) (sym c.new.ensures) c.in_ok-cycle-in-None.ensures)

pub cycle-requires-clause-some : goal.cycle-requires-clause-some
cycle-requires-clause-some c = grind (arith, common_steps)
