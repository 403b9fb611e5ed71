-- Sets of constraints none of which can be repaired first.
use Rattle.std.specs.Prelude.{◌≡◌, ◌<◌, ℕ, List, Some, length, slice_get}
use Rattle.dsr_graph_theory.specs.Breaks.{Breaks, Relies}
use Rattle.dsr_graph_theory.specs.declared.causes.Reason.{Reason}
use Rattle.dsr_ir.specs.declared.constraints.Constraint.{Constraint}
use Rattle.dsr_ir.specs.declared.constraints.Literal.{Literal}
use Rattle.dsr_ir.specs.declared.declarations.Spec.{Spec}
use Rattle.dsr_ir.specs.declared.updates.Template.{Template}
use Rattle.dsr_graph_theory.specs.Owners.{Owner}
use Rattle.dsr_meaning.specs.Counting.{IsIn}
use Rattle.dsr_update_theory.specs.Templates.{literal_at}
use Rattle.dsr_plan_theory.specs.Plans.{Covers, MayRepair, owner_at}

-- the template breaks no member
abbrev pub SparesMembers : Owner → (ℕ → Type 0) → Template → Type 0
SparesMembers owner Member template =
    (n : ℕ) (other : Constraint) (reason : Reason) → Member n
    → slice_get owner.spec.constraints n ≡ Some other
    → Breaks owner (owner_at owner.spec n other) template (Some reason) → ⊥

-- the literal isn't `given`, and has a listed template that falsifies nothing and breaks no member
pub record CanRepair (owner : Owner) (Member : ℕ → Type 0) (conj literal : ℕ) : Type 0 where
  pub its : Literal
  pub literal_is : literal_at owner.constraint conj literal ≡ Some its
  pub number : ℕ
  pub template : Template
  pub may : MayRepair owner conj literal its number template
  pub spares : SparesMembers owner Member template

-- any other literal has to be tested
abbrev pub MustTest : Owner → (ℕ → Type 0) → ℕ → ℕ → Type 0
MustTest owner Member conj literal = CanRepair owner Member conj literal → ⊥

-- A constraint that may be repaired before all members: none of them relies on it, and its tests
-- cover it. Members are any kind of number: a list, marks, or those that no round placed before. So
-- the law on stuck sets and the search for a plan speak of one thing.
pub record MayBeFirst (spec : Spec) (Member : ℕ → Type 0) (n : ℕ) (constraint : Constraint) : Type 0 where
  pub relied_by_none : (m : ℕ) → Member m → Relies spec m n → ⊥
  pub covered : Covers constraint (MustTest (owner_at spec n constraint) Member)

-- what keeps one from that
pub data IsHeld (spec : Spec) (Member : ℕ → Type 0) (n : ℕ) (constraint : Constraint) : Type 0 where
  relied : (m : ℕ) → Member m → Relies spec m n → IsHeld spec Member n constraint
  uncovered :
      (Covers constraint (MustTest (owner_at spec n constraint) Member) → ⊥)
      → IsHeld spec Member n constraint

-- each member is held
pub record IsStuck (spec : Spec) (Member : ℕ → Type 0) : Type 0 where
  pub declared : (n : ℕ) → Member n → n < length spec.constraints
  pub held :
      (n : ℕ) (constraint : Constraint) → Member n → slice_get spec.constraints n ≡ Some constraint
      → IsHeld spec Member n constraint

-- a set that is stuck, and of which each one that is stuck is part
pub record IsLargestStuck (spec : Spec) (members : List ℕ) : Type 0 where
  pub stuck : IsStuck spec (λ m. IsIn m members)
  pub all : (set : List ℕ) (n : ℕ) → IsStuck spec (λ m. IsIn m set) → IsIn n set → IsIn n members
