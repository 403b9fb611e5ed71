use Rattle.std.proofs.Common.{refl, sym, subst}
use Rattle.dsr_placement.specs.Placing.{IsLeft}
use Rattle.dsr_plan_theory.specs.Plans.{owner_at}
use Rattle.dsr_plan_theory.specs.StuckSets.{AreStuckWays}
use Rattle.dsr_removal.proofs.members.member.Goals as goal

pub returns : goal.returns
returns c = λ owner in_graph many same.
    let left = IsLeft c.args.left.now in
    let ways = subst (AreStuckWays owner left) (sym c.new.ensures) (c.in_ok-ways.ensures owner in_graph many same) in
    record {
      number_is = refl;
      stuck = record {
        constraint = owner.constraint;
        constraint_is = in_graph.constraint_is;
        relied_by = c.relied_by.ensures owner in_graph many;
        ways = subst (λ n. AreStuckWays (owner_at owner.spec n owner.constraint) left c.new.result) in_graph.number_is ways;
      };
    }
