-- Facts whose records are slots of the pools that are declared for them.
use Rattle.std.specs.Prelude.{◌≡◌, ◌<◌, ℕ, List, Option, None, Some, slice_get}
use Rattle.dsr_ir.specs.declared.declarations.Rel.{Rel}
use Rattle.dsr_ir.specs.declared.declarations.SetDecl.{SetDecl}
use Rattle.dsr_ir.specs.declared.declarations.Spec.{Spec}
use Rattle.dsr_ir.specs.declared.layouts.Layout.{Layout}
use Rattle.dsr_ir.specs.declared.tuples.Element.{Element}
use Rattle.dsr_ir.specs.declared.tuples.Fact.{Fact}
use Rattle.dsr_ir.specs.declared.tuples.Fact.TheVariants.{Member, Pair}
use Rattle.dsr_ir.specs.declared.tuples.Target.{Target}
use Rattle.dsr_ir.specs.declared.tuples.Target.TheVariants.{Elem, Num}
use Rattle.dsr_meaning.specs.Instances.{record_count}
use Rattle.dsr_meaning.specs.Models.{IsFact}

-- the record is one that the pool has; the head is the only one of pool 0
pub record IsRecordOf (layout : Layout) (pool : ℕ) (e : Element) : Type 0 where
  pub pool_is : e.pool ≡ pool
  pub slot_below : e.slot < record_count layout pool

-- the target is a record of the pool, or a number where there is none
abbrev pub IsTargetOf : Layout → Option ℕ → Target → Type 0
IsTargetOf layout (Some pool) (Elem e) = IsRecordOf layout pool e
IsTargetOf layout None (Num n) = Unit {0}
IsTargetOf layout _ _ = ⊥

-- the member is a record of its set's pool
pub record IsMemberInRange (spec : Spec) (layout : Layout) (set : ℕ) (e : Element) : Type 0 where
  pub decl : SetDecl
  pub declared : slice_get spec.base.sets set ≡ Some decl
  pub member : IsRecordOf layout decl.pool e

-- the source is a record of the relation's source pool, and the target one of its target pool or a
-- number
pub record IsPairInRange (spec : Spec) (layout : Layout) (rel : ℕ) (e : Element) (target : Target) : Type 0 where
  pub decl : Rel
  pub declared : slice_get spec.base.rels rel ≡ Some decl
  pub source : IsRecordOf layout decl.source e
  pub target_is : IsTargetOf layout decl.target target

abbrev pub IsInRange : Spec → Layout → Fact → Type 0
IsInRange spec layout (Member set e) = IsMemberInRange spec layout set e
IsInRange spec layout (Pair rel e target) = IsPairInRange spec layout rel e target

-- all facts of the model are such
abbrev pub FactsLieInRange : Spec → List ℕ → Layout → Type 0
FactsLieInRange spec bytes layout =
    (fact : Fact) → IsFact spec layout bytes fact → IsInRange spec layout fact
