-- What stands in the way of a plan: the largest stuck set, what each of its members waits for, and
-- where that ends.
use Rattle.std.specs.Prelude.{◌≡◌, ◌<◌, ◌⊎◌, ◌++◌, ℕ, List, [], ◌∷◌, Option, None, Some, MatchOption, map, slice_get}
use Rattle.dsr_graph_theory.specs.Breaks.{Breaks, Falsifies, Relies}
use Rattle.dsr_graph_theory.specs.declared.causes.Reason.{Reason}
use Rattle.dsr_ir.specs.declared.constraints.Constraint.{Constraint}
use Rattle.dsr_ir.specs.declared.declarations.Spec.{Spec}
use Rattle.dsr_ir.specs.declared.updates.Template.{Template}
use Rattle.dsr_graph_theory.specs.Owners.{Owner}
use Rattle.dsr_meaning.specs.Counting.{IsDistinct, IsIn}
use Rattle.dsr_plan_theory.specs.Plans.{Covers, IsListedAt, IsPlan, owner_at}
use Rattle.dsr_plan_theory.specs.Stuck.{IsLargestStuck, MustTest}
use Rattle.dsr_plan_theory.specs.declared.choices.Choice.{Choice}
use Rattle.dsr_plan_theory.specs.declared.refusals.StuckEnd.{StuckEnd}
use Rattle.dsr_plan_theory.specs.declared.refusals.StuckEnd.TheVariants.{Cycle, Unrepairable}
use Rattle.dsr_plan_theory.specs.declared.refusals.StuckMember.{StuckMember}
use Rattle.dsr_plan_theory.specs.declared.refusals.StuckSet.{StuckSet}
use Rattle.dsr_plan_theory.specs.declared.refusals.StuckWay.{StuckWay}

-- the least number of the kind
pub record IsFirst (Kind : ℕ → Type 0) (n : ℕ) : Type 0 where
  pub is : Kind n
  pub none_before : (before : ℕ) → before < n → Kind before → ⊥

-- that one, and nothing where there is none
abbrev pub FindsFirst : (ℕ → Type 0) → Option ℕ → Type 0
FindsFirst Kind found = MatchOption found ((n : ℕ) → Kind n → ⊥) (IsFirst Kind)

-- each comes before all later ones
abbrev pub AreInOrder : {A : Type 0} → (A → A → Type 0) → List A → Type 0
AreInOrder Comes [] = Unit {0}
AreInOrder Comes (x ∷ xs) = ((y : _) → IsIn y xs → Comes x y) × AreInOrder Comes xs

-- ---- what a member waits for

-- a member relies on the constraint
pub record MemberRelies (spec : Spec) (Member : ℕ → Type 0) (on who : ℕ) : Type 0 where
  pub member : Member who
  pub relies : Relies spec who on

-- the template breaks the constraint with this number, for this reason first
pub record BreaksFor (owner : Owner) (template : Template) (n : ℕ) (reason : Reason) : Type 0 where
  pub other : Constraint
  pub other_is : slice_get owner.spec.constraints n ≡ Some other
  pub breaks : Breaks owner (owner_at owner.spec n other) template (Some reason)

pub record BreaksMember (owner : Owner) (Member : ℕ → Type 0) (template : Template) (n : ℕ) : Type 0 where
  pub member : Member n
  pub reason : Reason
  pub breaks : BreaksFor owner template n reason

-- A listed template of the literal falsifies nothing and breaks a member, and this is the first one
-- that it breaks. A literal that is `given` has such ways too: they are told to the reader, though
-- no plan uses them.
pub record IsStuckWay (owner : Owner) (Member : ℕ → Type 0) (way : StuckWay) : Type 0 where
  pub template : Template
  pub listed : IsListedAt owner way.conj way.literal way.way template
  pub falsifies_none : Falsifies owner way.conj way.literal template None
  pub first : IsFirst (BreaksMember owner Member template) way.breaks
  pub reason_is : BreaksFor owner template way.breaks way.reason

-- in order of conjunctions, of literals, and of the numbers of templates
abbrev pub WayComes : StuckWay → StuckWay → Type 0
WayComes v w =
    (v.conj < w.conj)
    ⊎ ((v.conj ≡ w.conj)
    × ((v.literal < w.literal) ⊎ ((v.literal ≡ w.literal) × (v.way < w.way))))

-- exactly those, in order
pub record AreStuckWays (owner : Owner) (Member : ℕ → Type 0) (ways : List StuckWay) : Type 0 where
  pub in_order : AreInOrder WayComes ways
  pub all : (way : StuckWay) → IsStuckWay owner Member way → IsIn way ways
  pub only : (way : StuckWay) → IsIn way ways → IsStuckWay owner Member way

-- the first member that relies on the constraint, and all of its templates that break members
pub record IsStuckMember (spec : Spec) (Member : ℕ → Type 0) (member : StuckMember) : Type 0 where
  pub constraint : Constraint
  pub constraint_is : slice_get spec.constraints member.constraint ≡ Some constraint
  pub relied_by : FindsFirst (MemberRelies spec Member member.constraint) member.relied_by
  pub ways : AreStuckWays (owner_at spec member.constraint constraint) Member member.ways

-- ---- where that ends

-- a member isn't covered even where each literal that isn't `given` gets any listed template that
-- falsifies nothing
pub record IsHopeless (spec : Spec) (Member : ℕ → Type 0) (n : ℕ) : Type 0 where
  pub member : Member n
  pub constraint : Constraint
  pub constraint_is : slice_get spec.constraints n ≡ Some constraint
  pub uncovered : Covers constraint (MustTest (owner_at spec n constraint) (λ _. ⊥)) → ⊥

-- a member waits for the one that relies on it, and otherwise for the one that its first template
-- breaks
abbrev pub awaited_by : Option ℕ → List StuckWay → Option ℕ
awaited_by (Some who) ways = Some who
awaited_by None [] = None
awaited_by None (way ∷ ways) = Some way.breaks

pub record AwaitsMember (members : List StuckMember) (n next : ℕ) : Type 0 where
  pub member : StuckMember
  pub among : IsIn member members
  pub number_is : member.constraint ≡ n
  pub awaited : awaited_by member.relied_by member.ways ≡ Some next

-- each waits for the one behind it
abbrev pub AreWaiting : List StuckMember → List ℕ → Type 0
AreWaiting members [] = Unit {0}
AreWaiting members (n ∷ []) = Unit {0}
AreWaiting members (n ∷ next ∷ rest) = AwaitsMember members n next × AreWaiting members (next ∷ rest)

-- The walk from the first member to what each waits for, from the first number to which it comes
-- twice. It is a walk, so there is one answer. It may go over the way of a `given` literal.
pub record IsCycle (members : List StuckMember) (numbers : List ℕ) : Type 0 where
  pub before : List ℕ
  pub between : List ℕ
  pub again : ℕ
  pub numbers_are : numbers ≡ again ∷ (between ++ again ∷ [])
  pub first : ℕ
  pub first_is : slice_get (map (λ m. m.constraint) members) 0 ≡ Some first
  pub starts : slice_get (before ++ numbers) 0 ≡ Some first
  pub waiting : AreWaiting members (before ++ numbers)
  pub distinct : IsDistinct (before ++ again ∷ between)

-- a constraint that nothing can repair is told before any cycle, since its author has to mend it
-- first, whatever the order
abbrev pub IsEnd : Spec → (ℕ → Type 0) → List StuckMember → StuckEnd → Type 0
IsEnd spec Member members (Unrepairable n) = IsFirst (IsHopeless spec Member) n
IsEnd spec Member members (Cycle numbers) =
    ((n : ℕ) → IsHopeless spec Member n → ⊥) × IsCycle members numbers

-- ---- the whole

abbrev pub numbers_of : List StuckMember → List ℕ
numbers_of members = map (λ m. m.constraint) members

abbrev pub IsAmong : List StuckMember → ℕ → Type 0
IsAmong members n = IsIn n (numbers_of members)

-- the largest stuck set, which has a member, with what its members wait for
pub record IsStuckSet (spec : Spec) (set : StuckSet) : Type 0 where
  pub largest : IsLargestStuck spec (numbers_of set.members)
  pub in_order : AreInOrder ◌<◌ (numbers_of set.members)
  pub some : (n : ℕ) × IsAmong set.members n
  pub members :
      (member : StuckMember) → IsIn member set.members
      → IsStuckMember spec (IsAmong set.members) member
  pub end : IsEnd spec (IsAmong set.members) set.members set.end

-- no choice is a plan
abbrev pub HasNoPlan : Spec → Type 0
HasNoPlan spec = (choice : Choice) → IsPlan spec choice → ⊥
