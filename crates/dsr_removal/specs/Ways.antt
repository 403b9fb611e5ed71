-- Stuck ways, as far as the literals of a constraint have been gone over.
use Rattle.std.specs.Prelude.{◌≡◌, ◌<◌, ◌≤◌, ◌⊎◌, ℕ, List, Some}
use Rattle.dsr_graph_theory.specs.Breaks.{Breaks}
use Rattle.dsr_graph_theory.specs.declared.causes.Reason.{Reason}
use Rattle.dsr_ir.specs.declared.constraints.Constraint.{Constraint}
use Rattle.dsr_ir.specs.declared.updates.Template.{Template}
use Rattle.dsr_graph_theory.specs.Owners.{Owner}
use Rattle.dsr_meaning.specs.Counting.{IsIn}
use Rattle.dsr_plan_theory.specs.Plans.{owner_at}
use Rattle.dsr_plan_theory.specs.StuckSets.{AreInOrder, BreaksFor, BreaksMember, IsFirst, IsStuckWay, WayComes}
use Rattle.dsr_plan_theory.specs.declared.refusals.StuckWay.{StuckWay}

-- the constraint is a member, and this is why the template breaks it
pub record IsReasonLeft (owner : Owner) (Member : ℕ → Type 0) (template : Template) (n : ℕ) (other : Constraint) (reason : Reason) : Type 0 where
  pub member : Member n
  pub breaks : Breaks owner (owner_at owner.spec n other) template (Some reason)

-- the first member that the template breaks, and why it does
pub record IsFirstBroken (owner : Owner) (Member : ℕ → Type 0) (template : Template) (n : ℕ) (reason : Reason) : Type 0 where
  pub first : IsFirst (BreaksMember owner Member template) n
  pub reason_is : BreaksFor owner template n reason

-- the way is that of the template with this number, counted from 1
pub record IsAt (conj literal number : ℕ) (way : StuckWay) : Type 0 where
  pub conj_is : way.conj ≡ conj
  pub literal_is : way.literal ≡ literal
  pub number_is : way.way ≡ number

-- the template with this number is no stuck way
abbrev pub IsNoWay : Owner → (ℕ → Type 0) → ℕ → ℕ → ℕ → Type 0
IsNoWay owner Member conj literal number =
    (way : StuckWay) → IsAt conj literal number way → IsStuckWay owner Member way → ⊥

-- it is this one
pub record IsWayAt (owner : Owner) (Member : ℕ → Type 0) (conj literal number : ℕ) (way : StuckWay) : Type 0 where
  pub is_at : IsAt conj literal number way
  pub stuck : IsStuckWay owner Member way

-- the way is one of a literal before this one, or of the first so many templates of this one
abbrev pub ComesBefore : StuckWay → ℕ → ℕ → ℕ → Type 0
ComesBefore way conj literal count =
    (way.conj < conj)
    ⊎ ((way.conj ≡ conj)
    × ((way.literal < literal) ⊎ ((way.literal ≡ literal) × (way.way ≤ count))))

-- exactly the stuck ways that come before, in order
pub record AreWaysBefore (owner : Owner) (Member : ℕ → Type 0) (conj literal count : ℕ) (ways : List StuckWay) : Type 0 where
  pub in_order : AreInOrder WayComes ways
  pub all :
      (way : StuckWay) → IsStuckWay owner Member way → ComesBefore way conj literal count
      → IsIn way ways
  pub only :
      (way : StuckWay) → IsIn way ways
      → IsStuckWay owner Member way × ComesBefore way conj literal count
