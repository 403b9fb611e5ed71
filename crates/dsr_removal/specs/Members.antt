-- Members of a stuck set, and what each of them waits for.
use Rattle.std.specs.Prelude.{◌≡◌, ◌<◌, ◌++◌, ℕ, List, [], ◌∷◌, Some, slice_get}
use Rattle.dsr_ir.specs.declared.declarations.Spec.{Spec}
use Rattle.dsr_meaning.specs.Counting.{IsDistinct, IsIn}
use Rattle.dsr_plan_theory.specs.StuckSets.{AreInOrder, AreWaiting, AwaitsMember, IsAmong, IsStuckMember, awaited_by, numbers_of}
use Rattle.dsr_plan_theory.specs.declared.refusals.StuckMember.{StuckMember}

-- what is told of the member with this number
pub record IsMemberAt (spec : Spec) (Member : ℕ → Type 0) (n : ℕ) (member : StuckMember) : Type 0 where
  pub number_is : member.constraint ≡ n
  pub stuck : IsStuckMember spec Member member

-- exactly the members below the number, in order
pub record AreMembersBelow (spec : Spec) (Member : ℕ → Type 0) (n : ℕ) (members : List StuckMember) : Type 0 where
  pub in_order : AreInOrder ◌<◌ (numbers_of members)
  pub all : (m : ℕ) → m < n → Member m → IsAmong members m
  pub only : (m : ℕ) → IsAmong members m → Member m
  pub below : (m : ℕ) → IsAmong members m → m < n
  pub are : (member : StuckMember) → IsIn member members → IsStuckMember spec Member member

-- exactly the members, in order
pub record AreMembers (spec : Spec) (Member : ℕ → Type 0) (members : List StuckMember) : Type 0 where
  pub in_order : AreInOrder ◌<◌ (numbers_of members)
  pub all : (m : ℕ) → Member m → IsAmong members m
  pub only : (m : ℕ) → IsAmong members m → Member m
  pub are : (member : StuckMember) → IsIn member members → IsStuckMember spec Member member

-- each member waits for a member
abbrev pub EachWaits : List StuckMember → Type 0
EachWaits members =
    (member : StuckMember) → IsIn member members
    → (next : ℕ) × (awaited_by member.relied_by member.ways ≡ Some next) × IsAmong members next

-- the member with the number waits for a member
pub record WaitsAmong (members : List StuckMember) (n next : ℕ) : Type 0 where
  pub awaits : AwaitsMember members n next
  pub among : IsAmong members next

-- the walk from the first member, as far as it has come: along the path, to this member
pub record IsWalk (members : List StuckMember) (path : List ℕ) (at : ℕ) : Type 0 where
  pub first : ℕ
  pub first_is : slice_get (numbers_of members) 0 ≡ Some first
  pub starts : slice_get (path ++ at ∷ []) 0 ≡ Some first
  pub waiting : AreWaiting members (path ++ at ∷ [])
  pub distinct : IsDistinct path
  pub among : (n : ℕ) → IsIn n path → IsAmong members n
  pub here : IsAmong members at
