-- What is asked of a record that is reset, and what is claimed of the image before.
use Rattle.std.specs.Prelude.{◌≡◌, ◌≤◌, ℕ, Bool, List, IfSome, IsSomeAnd, Some, length}
use Rattle.dsr_image.specs.Images.{AreClaimed}
use Rattle.dsr_ir.specs.Layouts.{pool_numbers}
use Rattle.dsr_ir.specs.declared.declarations.Field.{Field}
use Rattle.dsr_ir.specs.declared.declarations.FieldRef.{FieldRef}
use Rattle.dsr_ir.specs.declared.declarations.Spec.{Spec}
use Rattle.dsr_ir.specs.declared.layouts.Layout.{Layout}
use Rattle.dsr_ir.specs.declared.tuples.Element.{Element}
use Rattle.dsr_meaning.specs.Cells.{record_start}
use Rattle.dsr_meaning.specs.Instances.{declared_field}
use Rattle.dsr_meaning.specs.Refusals.{IsLayoutOf}
use Rattle.dsr_meaning.specs.Typed.{Descends, IsTyped, pool_at}
use Rattle.dsr_step_theory.specs.Steps.{IsSlot}
use Rattle.dsr_meaning.specs.Limits.{most_bytes}

-- the bytes of the record's slot are claimed
abbrev pub IsSlotClaimed : (ℕ → Bool) → Layout → Element → Type 0
IsSlotClaimed claimed layout e =
    IfSome (pool_numbers layout e.pool) (λ n. AreClaimed claimed (record_start layout e) n.slot)

-- the layout is one of the specification, for an image of so many bytes, of which
-- there are no more than there may be, and the record is a slot of a pool
pub record CanReset (spec : Spec) (layout : Layout) (e : Element) (bytes : ℕ) : Type 0 where
  pub typed : IsTyped spec
  pub image : List ℕ
  pub layout_is : IsLayoutOf spec image layout
  pub as_long : bytes ≡ length image
  pub small : bytes ≤ most_bytes
  pub slot : IsSlot layout e

-- the structure is that of the record's pool or one of its ancestors
abbrev pub IsRecordStructure : Spec → Element → ℕ → Type 0
IsRecordStructure spec e structure =
    IsSomeAnd (pool_at spec.base e.pool) (λ d. Descends spec.base.structures d.structure structure)

-- the field is declared at a place in such a structure
pub record IsRecordField (spec : Spec) (e : Element) (place : FieldRef) (field : Field) : Type 0 where
  pub structure : IsRecordStructure spec e place.structure
  pub declared : declared_field spec.base place ≡ Some field
