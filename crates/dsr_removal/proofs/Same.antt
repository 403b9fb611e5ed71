-- What stands in the way, where members are told in another way.
use Rattle.std.proofs.Common.{ℕ, List}
use Rattle.dsr_ir.specs.declared.declarations.Spec.{Spec}
use Rattle.dsr_ir.specs.declared.updates.Template.{Template}
use Rattle.dsr_graph_theory.specs.Owners.{Owner}
use Rattle.dsr_plan_theory.proofs.Grown.{held_more}
use Rattle.dsr_plan_theory.specs.Plans.{owner_at}
use Rattle.dsr_plan_theory.specs.StuckSets.{AreStuckWays, BreaksMember, IsEnd, IsHopeless, IsStuckMember, IsStuckWay, MemberRelies}
use Rattle.dsr_plan_theory.specs.Stuck.{IsStuck}
use Rattle.dsr_plan_theory.specs.declared.refusals.StuckEnd.{StuckEnd}
use Rattle.dsr_plan_theory.specs.declared.refusals.StuckEnd.TheVariants.{Cycle, Unrepairable}
use Rattle.dsr_plan_theory.specs.declared.refusals.StuckMember.{StuckMember}
use Rattle.dsr_plan_theory.specs.declared.refusals.StuckWay.{StuckWay}
use Rattle.dsr_removal.proofs.Firsts.{finds_same, first_same}

breaks_more : (M N : ℕ → Type 0) → ((n : ℕ) → M n → N n) → (owner : Owner) (template : Template) (n : ℕ) → BreaksMember owner M template n → BreaksMember owner N template n
breaks_more M N to owner template n its = record { member = to n its.member; reason = its.reason; breaks = its.breaks }

relies_more : (M N : ℕ → Type 0) → ((n : ℕ) → M n → N n) → (spec : Spec) (on who : ℕ) → MemberRelies spec M on who → MemberRelies spec N on who
relies_more M N to spec on who its = record { member = to who its.member; relies = its.relies }

hopeless_more : (M N : ℕ → Type 0) → ((n : ℕ) → M n → N n) → (spec : Spec) (n : ℕ) → IsHopeless spec M n → IsHopeless spec N n
hopeless_more M N to spec n its = record { member = to n its.member; constraint = its.constraint; constraint_is = its.constraint_is; uncovered = its.uncovered }

way_same : (M N : ℕ → Type 0) → ((n : ℕ) → M n → N n) → ((n : ℕ) → N n → M n) → (owner : Owner) (w : StuckWay) → IsStuckWay owner M w → IsStuckWay owner N w
way_same M N to back owner w its = record {
  template = its.template;
  listed = its.listed;
  falsifies_none = its.falsifies_none;
  first = first_same (BreaksMember owner M its.template) (BreaksMember owner N its.template) (breaks_more M N to owner its.template) (breaks_more N M back owner its.template) w.breaks its.first;
  reason_is = its.reason_is;
}

module _ (M N : ℕ → Type 0) (to : (n : ℕ) → M n → N n) (back : (n : ℕ) → N n → M n) where
  ways_same : (owner : Owner) (ways : List StuckWay) → AreStuckWays owner M ways → AreStuckWays owner N ways
  ways_same owner ways its = record {
    in_order = its.in_order;
    all = λ w is. its.all w (way_same N M back to owner w is);
    only = λ w among. way_same M N to back owner w (its.only w among);
  }

  pub member_same : (spec : Spec) (member : StuckMember) → IsStuckMember spec M member → IsStuckMember spec N member
  member_same spec member its = record {
    constraint = its.constraint;
    constraint_is = its.constraint_is;
    relied_by = finds_same (MemberRelies spec M member.constraint) (MemberRelies spec N member.constraint) (relies_more M N to spec member.constraint) (relies_more N M back spec member.constraint) member.relied_by its.relied_by;
    ways = ways_same (owner_at spec member.constraint its.constraint) member.ways its.ways;
  }

  pub end_same : (spec : Spec) (members : List StuckMember) (end : StuckEnd) → IsEnd spec M members end → IsEnd spec N members end
  end_same spec members (Unrepairable n) its = first_same (IsHopeless spec M) (IsHopeless spec N) (hopeless_more M N to spec) (hopeless_more N M back spec) n its
  end_same spec members (Cycle numbers) its = (λ n hopeless. its.0 n (hopeless_more N M back spec n hopeless), its.1)

  pub stuck_same : (spec : Spec) → IsStuck spec M → IsStuck spec N
  stuck_same spec its = record {
    declared = λ n member. its.declared n (back n member);
    held = λ n constraint member there. held_more M N to spec n constraint (its.held n constraint (back n member) there);
  }
