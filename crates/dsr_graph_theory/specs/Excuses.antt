-- Changes by which an update can't break a constraint, since they are of other records than the
-- constraint reads, or of the binding alone for which the update is made.
use Rattle.std.specs.Prelude.{◌≡◌, ℕ, IsSomeAnd, IsTrue}
use Rattle.dsr_ir.specs.declared.constraints.Quant.{Quant}
use Rattle.dsr_ir.specs.declared.constraints.Quant.TheVariants.{Once, Each, Pairs}
use Rattle.dsr_ir.specs.declared.constraints.Var.{Var}
use Rattle.dsr_ir.specs.declared.constraints.Var.TheVariants.{Head, First, Second}
use Rattle.dsr_ir.specs.declared.updates.At.{At}
use Rattle.dsr_ir.specs.declared.updates.At.TheVariants.{SlotOf}
use Rattle.dsr_ir.specs.declared.updates.Place.{Place}
use Rattle.dsr_ir.specs.declared.updates.Place.TheVariants as places
use Rattle.dsr_graph_theory.specs.Owners.{Owner}
use Rattle.dsr_meaning.specs.Counting.{IsIn}
use Rattle.dsr_update_theory.specs.Changes.{Change}
use Rattle.dsr_update_theory.specs.Effects.{InTable}
use Rattle.dsr_update_theory.specs.Facts.{apart, exclusive, injective}
use Rattle.dsr_update_theory.specs.Givers.{is_functional}
use Rattle.dsr_update_theory.specs.KnownSets.{IsKnown}
use Rattle.dsr_update_theory.specs.declared.effects.Tag.{Tag}
use Rattle.dsr_update_theory.specs.declared.effects.Tag.TheVariants.{Written, Entry}
use Rattle.dsr_graph_theory.specs.Causes.{symbol_of, direction_of}
use Rattle.dsr_graph_theory.specs.declared.causes.Cause.{Cause}
use Rattle.dsr_graph_theory.specs.declared.causes.Reason.{Reason}

-- the update may do it, at some record
abbrev pub MayHappen : Change → Reason → Type 0
MayHappen c reason = (tag : Tag) × InTable c (direction_of reason) (symbol_of reason) tag

-- it does so at this record alone, if at all; it is said of the least table, and so asks nothing of
-- an image
abbrev pub HappensOnlyAt : Change → Reason → Tag → Type 0
HappensOnlyAt c reason tag =
    (other : Tag) → InTable c (direction_of reason) (symbol_of reason) other → other ≡ tag

-- ---- what is known of the variables of two constraints, by the facts that the first one uses

-- each record is the source of one pair at most, where the relation is functional, or the target,
-- where each has one source
abbrev pub IsEndOnce : Owner → ℕ → Var → Type 0
IsEndOnce owner rel Head = ⊥
IsEndOnce owner rel First = IsTrue (is_functional owner.spec rel)
IsEndOnce owner rel Second = IsIn rel (injective owner.spec owner.number)

-- each record is bound to the variable in one binding at most; the head is where there is no
-- quantifier
abbrev pub IsBoundOnce : Owner → Quant → Var → Type 0
IsBoundOnce owner Once Head = Unit {0}
IsBoundOnce owner (Each set) First = Unit {0}
IsBoundOnce owner (Pairs rel) v = IsEndOnce owner rel v
IsBoundOnce owner quant v = ⊥

-- the two variables are known to be members of sets that have no member in common
pub record AreDifferentRecords (owner other : Owner) (v at : Var) : Type 0 where
  pub set : ℕ
  pub other_set : ℕ
  pub known : IsKnown owner.spec owner.constraint.quant v set
  pub other_known : IsKnown owner.spec other.constraint.quant at other_set
  pub exclusive : IsIn (set, other_set) (exclusive owner.spec owner.number)

-- what is a target of the one quantifier's relation is none of the other's
pub record AreTargetsApart (owner other : Owner) : Type 0 where
  pub rel : ℕ
  pub other_rel : ℕ
  pub quant_is : owner.constraint.quant ≡ Pairs rel
  pub other_quant_is : other.constraint.quant ≡ Pairs other_rel
  pub apart : IsIn (rel, other_rel) (apart owner.spec owner.number)

-- ---- excuses

-- it is the variable of the constraint's own binding, and no other binding has the record there
pub record IsSameBinding (owner other : Owner) (v at : Var) : Type 0 where
  pub same_var : v ≡ at
  pub same_constraint : owner.number ≡ other.number
  pub once : IsBoundOnce owner owner.constraint.quant v

-- both are targets of relations that share none
pub record AreSecondsApart (owner other : Owner) (v at : Var) : Type 0 where
  pub second : v ≡ Second
  pub other_second : at ≡ Second
  pub apart : AreTargetsApart owner other

-- what happens at the record of the one constraint's variable doesn't bear on what the other reads
-- at its own
pub data IsExcusedAtRecord (owner other : Owner) (v at : Var) : Type 0 where
  own : IsSameBinding owner other v at → IsExcusedAtRecord owner other v at
  different : AreDifferentRecords owner other v at → IsExcusedAtRecord owner other v at
  targets_apart : AreSecondsApart owner other v at → IsExcusedAtRecord owner other v at

-- nor what happens at the record that is written
abbrev pub IsExcusedAtPlace : Owner → Owner → Place → Var → Type 0
IsExcusedAtPlace owner other places.Head at = IsSameBinding owner other Head at
IsExcusedAtPlace owner other (places.Of v) at = IsExcusedAtRecord owner other v at
IsExcusedAtPlace owner other places.Deriver at = ⊥

-- nor what happens at the slot of the entry that is written; in the first version only its own
-- binding excuses it
pub data IsExcusedAtSlot (owner other : Owner) (v at : Var) : Type 0 where
  own : IsSameBinding owner other v at → IsExcusedAtSlot owner other v at
  different :
      owner.spec.base.version ≡ 2 → AreDifferentRecords owner other v at
      → IsExcusedAtSlot owner other v at

abbrev pub IsExcusedAtEntry : Owner → Owner → At → Var → Type 0
IsExcusedAtEntry owner other (SlotOf v) at = IsExcusedAtSlot owner other v at
IsExcusedAtEntry owner other _ at = ⊥

-- the update does so only where it doesn't bear on what the other constraint reads at the variable
pub data IsExcusedAt (owner other : Owner) (c : Change) (reason : Reason) (at : Var) : Type 0 where
  at_place :
      HappensOnlyAt c reason Written → IsExcusedAtPlace owner other c.update.place at
      → IsExcusedAt owner other c reason at
  at_entry :
      HappensOnlyAt c reason Entry → IsExcusedAtEntry owner other c.update.at at
      → IsExcusedAt owner other c reason at

-- what is read of all records is never excused
abbrev pub IsExcused : Owner → Owner → Change → Cause → Type 0
IsExcused owner other c cause = IsSomeAnd cause.at (IsExcusedAt owner other c cause.reason)
