-- Records that no set has.
use Rattle.std.specs.Prelude.{◌≡◌, ◌<◌, ◌≤◌, ◌↔◌, ℕ, List, None, Some, length, slice_get}
use Rattle.dsr_ir.specs.declared.declarations.SetDecl.{SetDecl}
use Rattle.dsr_ir.specs.declared.declarations.Spec.{Spec}
use Rattle.dsr_ir.specs.declared.layouts.Layout.{Layout}
use Rattle.dsr_ir.specs.declared.tuples.Element.{Element}
use Rattle.dsr_ir.specs.declared.tuples.Fact.TheVariants.{Member}
use Rattle.dsr_meaning.specs.Counting.{IsIn}
use Rattle.dsr_meaning.specs.Instances.{record_count}
use Rattle.dsr_meaning.specs.Models.{IsMember}
use Rattle.dsr_meaning.specs.Orders.{Precedes}
use Rattle.dsr_model.specs.Facts.{IsInModel}
use Rattle.dsr_model.specs.Views.{ModelView}

-- a slot of a declared pool
pub record IsSlot (spec : Spec) (layout : Layout) (e : Element) : Type 0 where
  pub of_pool : 0 < e.pool
  pub declared : e.pool ≤ length spec.base.pools
  pub slot_below : e.slot < record_count layout e.pool

-- a slot of a pool that is a member of no set but of complements
pub record IsLost (spec : Spec) (layout : Layout) (image : List ℕ) (e : Element) : Type 0 where
  pub is_slot : IsSlot spec layout e
  pub no_member :
      (set : ℕ) (decl : SetDecl) → slice_get spec.base.sets set ≡ Some decl → decl.except ≡ None
      → IsMember spec layout image set e → ⊥

-- exactly the lost slots, in order of pools and slots, each once
pub record AreLost (spec : Spec) (layout : Layout) (image : List ℕ) (es : List Element) : Type 0 where
  pub in_order :
      (i j : ℕ) (a b : Element) → i < j → slice_get es i ≡ Some a → slice_get es j ≡ Some b
      → Precedes a b
  pub lost : (e : Element) → IsIn e es ↔ IsLost spec layout image e

-- ---- by a model

-- the set isn't a complement, and the model has the member
abbrev pub Holds : ModelView → ℕ → SetDecl → Element → Type 0
Holds model set decl e = (decl.except ≡ None) × IsInModel model (Member set e)

-- no set does
abbrev pub IsFree : Spec → ModelView → Element → Type 0
IsFree spec model e =
    (set : ℕ) (decl : SetDecl) → slice_get spec.base.sets set ≡ Some decl → Holds model set decl e → ⊥

-- the lost slots before this one are listed
pub record AreLostBefore (spec : Spec) (layout : Layout) (model : ModelView) (es : List Element) (at : Element) : Type 0 where
  pub in_order :
      (i j : ℕ) (a b : Element) → i < j → slice_get es i ≡ Some a → slice_get es j ≡ Some b
      → Precedes a b
  pub before : (e : Element) → IsIn e es → Precedes e at
  pub only : (e : Element) → IsIn e es → IsSlot spec layout e × IsFree spec model e
  pub all :
      (e : Element) → IsSlot spec layout e → IsFree spec model e → Precedes e at → IsIn e es

-- the first slot of the pool with this number
abbrev pub start : ℕ → Element
start pool = record { pool = pool; slot = 0 }
