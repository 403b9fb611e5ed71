-- Which of those that are left a template breaks, one after the other.
use Rattle.std.proofs.Common.{◌≡◌, ◌≤◌, ℕ, Option, None, Some, MatchOption, length, slice_get}
use Rattle.dsr_graph_theory.specs.Breaks.{Breaks}
use Rattle.dsr_graph_theory.specs.declared.causes.Reason.{Reason}
use Rattle.dsr_compensate.proofs.Each.{EachBefore, each_ends}
use Rattle.dsr_ir.specs.declared.constraints.Constraint.{Constraint}
use Rattle.dsr_ir.specs.declared.updates.Template.{Template}
use Rattle.dsr_graph_theory.specs.Owners.{Owner}
use Rattle.dsr_placement.specs.Placing.{BreaksLeft}
use Rattle.dsr_plan_theory.specs.Plans.{owner_at}
use Rattle.dsr_plan_theory.specs.Stuck.{SparesMembers}
use Rattle.dsr_removal.proofs.Firsts.{reason_one}
use Rattle.dsr_removal.specs.Ways.{IsFirstBroken, IsReasonLeft}

module _ (owner : Owner) (Member : ℕ → Type 0) (template : Template) where
  pub reason_if : (n : ℕ) (other : Constraint) (r : Option Reason) → Member n → Breaks owner (owner_at owner.spec n other) template r → MatchOption r (BreaksLeft owner Member template n other → ⊥) (IsReasonLeft owner Member template n other)
  reason_if n other None member told = λ breaks. let both = reason_one told breaks.breaks in absurd cc
  reason_if n other (Some reason) member told = record { member = member; breaks = told }

  -- none of those before it is broken
  abbrev pub NoneBroken : ℕ → Type 0
  NoneBroken n = EachBefore (λ k o. BreaksLeft owner Member template k o → ⊥) owner.spec.constraints n

  pub first_here : (n : ℕ) (other : Constraint) (reason : Reason) → slice_get owner.spec.constraints n ≡ Some other → IsReasonLeft owner Member template n other reason → NoneBroken n → IsFirstBroken owner Member template n reason
  first_here n other reason there its before = record {
    first = record {
      is = record { member = its.member; reason = reason; breaks = record { other = other; other_is = there; breaks = its.breaks } };
      none_before = λ m less breaks. before m breaks.breaks.other less breaks.breaks.other_is (record { member = breaks.member; reason = breaks.reason; breaks = breaks.breaks.breaks });
    };
    reason_is = record { other = other; other_is = there; breaks = its.breaks };
  }

  pub spares_all : (n : ℕ) → length owner.spec.constraints ≤ n → NoneBroken n → SparesMembers owner Member template
  spares_all n past before m other reason member there breaks =
      each_ends (λ k o. BreaksLeft owner Member template k o → ⊥) owner.spec.constraints n past before m other there (record { member = member; reason = reason; breaks = breaks })
