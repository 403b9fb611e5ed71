-- The whole stuck set, with members told by their numbers.
use Rattle.std.proofs.Common.{Bool, List}
use Rattle.dsr_ir.specs.declared.declarations.Spec.{Spec}
use Rattle.dsr_placement.specs.Placing.{IsLeft}
use Rattle.dsr_plan_theory.proofs.Descent.{no_member}
use Rattle.dsr_plan_theory.specs.StuckSets.{HasNoPlan, IsAmong, IsEnd, IsStuckSet}
use Rattle.dsr_plan_theory.specs.declared.refusals.StuckEnd.{StuckEnd}
use Rattle.dsr_plan_theory.specs.declared.refusals.StuckMember.{StuckMember}
use Rattle.dsr_removal.proofs.Same.{end_same, member_same, stuck_same}
use Rattle.dsr_removal.specs.Members.{AreMembers}
use Rattle.dsr_removal.specs.Placements.{AreLargest}

pub whole : (spec : Spec) (left : List Bool) (members : List StuckMember) (end : StuckEnd) → AreLargest spec left → AreMembers spec (IsLeft left) members → IsEnd spec (IsLeft left) members end → IsStuckSet spec (record { members = members; end = end })
whole spec left members end largest are ends = record {
  largest = record {
    stuck = stuck_same (IsLeft left) (IsAmong members) are.all are.only spec largest.stuck;
    all = λ set n stuck among. are.all n (largest.all set n stuck among);
  };
  in_order = are.in_order;
  some = (largest.some.0, are.all largest.some.0 largest.some.1);
  members = λ member among. member_same (IsLeft left) (IsAmong members) are.all are.only spec member (are.are member among);
  end = end_same (IsLeft left) (IsAmong members) are.all are.only spec members end ends;
}

pub no_plan : (spec : Spec) (left : List Bool) → AreLargest spec left → HasNoPlan spec
no_plan spec left largest choice plan = no_member spec (IsLeft left) choice largest.stuck plan largest.some.0 largest.some.1
