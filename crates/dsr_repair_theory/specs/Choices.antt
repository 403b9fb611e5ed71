-- What is chosen where a literal is false and a template is to make it true: one of its updates,
-- the record and the entry that are written, the number, and the fresh record.
use Rattle.std.specs.Prelude.{◌≡◌, ℕ, zero, List, [], ◌∷◌, Option, None, Some, IsSomeAnd, MatchOption, slice_get}
use Rattle.dsr_ir.specs.declared.constraints.Atom.{Atom}
use Rattle.dsr_ir.specs.declared.constraints.Atom.TheVariants as atoms
use Rattle.dsr_ir.specs.declared.constraints.Measure.{Measure}
use Rattle.dsr_ir.specs.declared.declarations.Spec.{Spec}
use Rattle.dsr_ir.specs.declared.layouts.Layout.{Layout}
use Rattle.dsr_ir.specs.declared.tuples.Binding.{Binding}
use Rattle.dsr_ir.specs.declared.tuples.Element.{Element}
use Rattle.dsr_ir.specs.declared.tuples.Fact.{Fact}
use Rattle.dsr_ir.specs.declared.tuples.Fact.TheVariants.{Member, Pair}
use Rattle.dsr_ir.specs.declared.tuples.Instance.{Instance}
use Rattle.dsr_ir.specs.declared.tuples.Target.TheVariants.{Elem}
use Rattle.dsr_ir.specs.declared.updates.At.{At}
use Rattle.dsr_ir.specs.declared.updates.At.TheVariants as ats
use Rattle.dsr_ir.specs.declared.updates.Goal.{Goal}
use Rattle.dsr_ir.specs.declared.updates.Goal.TheVariants as goals
use Rattle.dsr_ir.specs.declared.updates.Pick.{Pick}
use Rattle.dsr_ir.specs.declared.updates.Pick.TheVariants as picks
use Rattle.dsr_ir.specs.declared.updates.Place.{Place}
use Rattle.dsr_ir.specs.declared.updates.Place.TheVariants as places
use Rattle.dsr_ir.specs.declared.updates.Template.{Template}
use Rattle.dsr_ir.specs.declared.updates.Update.{Update}
use Rattle.dsr_ir.specs.declared.updates.Write.{Write}
use Rattle.dsr_meaning.specs.Counting.{IsIn}
use Rattle.dsr_meaning.specs.Looking.{FindsGreatestCounted, IsCounted}
use Rattle.dsr_meaning.specs.Models.{IsDeriver, IsFact}
use Rattle.dsr_meaning.specs.Orders.{Precedes}
use Rattle.dsr_meaning.specs.Truth.{HasSize, element_of, head}
use Rattle.dsr_meaning.specs.Typed.{pool_at}
use Rattle.dsr_step_theory.specs.Steps.{IsSlot}
use Rattle.dsr_step_theory.specs.declared.steps.Step.{Step}

-- In what follows, `is_fact` says what a fact is.

-- ---- which update of a template

-- the fact that is to go: the one that the atom names, or the greatest that it counts
abbrev pub IsToGo : (Fact → Type 0) → Binding → Atom → Fact → Type 0
IsToGo is_fact b (atoms.Member v set) fact = IsSomeAnd (element_of b v) (λ x. fact ≡ Member set x)
IsToGo is_fact b (atoms.Pair v w rel) fact =
    IsSomeAnd (element_of b v) (λ x. IsSomeAnd (element_of b w) (λ y. fact ≡ Pair rel x (Elem y)))
IsToGo is_fact b (atoms.Count measure op k) fact =
    FindsGreatestCounted is_fact b measure (Some fact)
IsToGo is_fact b (atoms.Value v rel op bound) fact = ⊥

-- nothing is there that the atom counts
abbrev pub CountsNothing : (Fact → Type 0) → Binding → Atom → Type 0
CountsNothing is_fact b (atoms.Count measure op k) =
    (fact : Fact) → IsCounted b measure fact → is_fact fact → ⊥
CountsNothing is_fact b _ = ⊥

-- the template adds or sets; one that is for exactly one fact does where there is none
abbrev pub Adds : (Fact → Type 0) → Binding → Atom → Goal → Type 0
Adds is_fact b atom goals.AddSet = Unit {0}
Adds is_fact b atom goals.AddTuple = Unit {0}
Adds is_fact b atom goals.SetValue = Unit {0}
Adds is_fact b atom goals.Supply = Unit {0}
Adds is_fact b atom goals.ExactlyOne = CountsNothing is_fact b atom
Adds is_fact b atom _ = ⊥

-- the update is one that takes facts away: behind that which supplies one, where there is such a
-- one
abbrev pub TakesAway : Goal → ℕ → Type 0
TakesAway goals.RemoveSet n = Unit {0}
TakesAway goals.RemoveTuple n = Unit {0}
TakesAway goals.Trim n = Unit {0}
TakesAway goals.ExactlyOne zero = ⊥
TakesAway goals.ExactlyOne n = Unit {0}
TakesAway _ n = ⊥

-- The update of the template, by its place, with the instance that it is to stop, if any: where the
-- template adds or sets its first; where it takes a fact away that of the rule of the first
-- instance which gives the fact.
pub data IsUpdateAt (spec : Spec) (layout : Layout) (bytes : List ℕ) (b : Binding) (atom : Atom)
    (template : Template) : ℕ → Update → Option Instance → Type 0 where
  adds :
      (update : Update) → Adds (IsFact spec layout bytes) b atom template.goal
      → slice_get template.updates 0 ≡ Some update
      → IsUpdateAt spec layout bytes b atom template 0 update None
  takes_away :
      (n : ℕ) (update : Update) (fact : Fact) (i : Instance) → TakesAway template.goal n
      → IsToGo (IsFact spec layout bytes) b atom fact → IsDeriver spec layout bytes fact i
      → slice_get template.updates n ≡ Some update → update.rule ≡ i.rule
      → IsUpdateAt spec layout bytes b atom template n update (Some i)

-- ---- where it writes, and what

-- the record that is written: the head, that of a variable, or that of the instance which is
-- stopped
abbrev pub IsPlace : Binding → Option Instance → Place → Element → Type 0
IsPlace b stopped places.Head e = e ≡ head
IsPlace b stopped (places.Of v) e = element_of b v ≡ Some e
IsPlace b stopped places.Deriver e = IsSomeAnd stopped (λ i. e ≡ i.elem)

-- the entry that is written
abbrev pub IsEntryAt : Binding → Option Instance → At → ℕ → Type 0
IsEntryAt b stopped ats.Scalar k = k ≡ 0
IsEntryAt b stopped (ats.SlotOf v) k = IsSomeAnd (element_of b v) (λ e. k ≡ e.slot)
IsEntryAt b stopped ats.Deriver k = IsSomeAnd stopped (λ i. k ≡ i.index)

abbrev pub size_or : Pick → Option Measure → Option Measure
size_or (picks.SizeOf measure) rest = Some measure
size_or pick rest = rest

-- what is counted so that its size is written
abbrev pub written_size : List Write → Option Measure
written_size [] = None
written_size (write ∷ rest) = size_or write.pick (written_size rest)

-- the size that is written; 0 where none is
abbrev pub IsNumberFor : (Fact → Type 0) → Binding → List Write → ℕ → Type 0
IsNumberFor is_fact b writes n =
    MatchOption (written_size writes) (n ≡ 0) (λ measure. HasSize is_fact b measure n)

-- ---- the fresh record

-- the record is a member of none of the sets
abbrev pub IsOutside : (Fact → Type 0) → List ℕ → Element → Type 0
IsOutside is_fact sets e = (set : ℕ) → IsIn set sets → is_fact (Member set e) → ⊥

-- the record is a slot of the pool, and in none of the sets that the pool's supply avoids
pub record IsSupplied (is_fact : Fact → Type 0) (spec : Spec) (layout : Layout) (pool : ℕ)
    (e : Element) : Type 0 where
  pub pool_is : e.pool ≡ pool
  pub slot : IsSlot layout e
  pub outside :
      IsSomeAnd (pool_at spec.base pool) (λ d. IsSomeAnd d.avoid (λ sets. IsOutside is_fact sets e))

-- the least such record
pub record IsFreshFrom (is_fact : Fact → Type 0) (spec : Spec) (layout : Layout) (pool : ℕ)
    (e : Element) : Type 0 where
  pub supplied : IsSupplied is_fact spec layout pool e
  pub least : (f : Element) → IsSupplied is_fact spec layout pool f → Precedes f e → ⊥

-- the fresh record of an update, which takes one from the pool, if any
abbrev pub IsFresh : (Fact → Type 0) → Spec → Layout → Option ℕ → Option Element → Type 0
IsFresh is_fact spec layout None fresh = fresh ≡ None
IsFresh is_fact spec layout (Some pool) fresh =
    IsSomeAnd fresh (IsFreshFrom is_fact spec layout pool)

-- ---- all of it

-- the step is the one by which the template is to make the atom, or its negation, true
pub record IsChosen (spec : Spec) (layout : Layout) (bytes : List ℕ) (atom : Atom)
    (template : Template) (step : Step) (update : Update) : Type 0 where
  pub stopped : Option Instance
  pub update_is : IsUpdateAt spec layout bytes step.binding atom template step.update update stopped
  pub rule : step.rule ≡ update.rule
  pub place : IsPlace step.binding stopped update.place step.elem
  pub entry : IsEntryAt step.binding stopped update.at step.index
  pub number : IsNumberFor (IsFact spec layout bytes) step.binding update.writes step.number
  pub fresh : IsFresh (IsFact spec layout bytes) spec layout update.fresh step.fresh
