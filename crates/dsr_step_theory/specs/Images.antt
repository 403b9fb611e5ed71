-- Images of which a specification has a layout, and the fields on which it rests.
use Rattle.std.specs.Prelude.{◌≡◌, ◌≤◌, ℕ, false, List, IfSome, IsSomeAnd, length}
use Rattle.dsr_ir.specs.declared.declarations.Spec.{Spec}
use Rattle.dsr_ir.specs.declared.declarations.Structures.{Structures}
use Rattle.dsr_ir.specs.declared.layouts.Layout.{Layout}
use Rattle.dsr_ir.specs.declared.tuples.Element.{Element}
use Rattle.dsr_ir.specs.declared.updates.Write.{Write}
use Rattle.dsr_meaning.specs.FixedFields.{fixed_cell}
use Rattle.dsr_meaning.specs.Instances.{declared_field}
use Rattle.dsr_meaning.specs.Refusals.{IsLayoutOf}
use Rattle.dsr_meaning.specs.Typed.{Descends, IsTyped}
use Rattle.dsr_meaning.specs.Writes.{AreBytes, HasSameBits}
use Rattle.dsr_meaning.specs.Limits.{most_bytes}

-- the specification is typed, and this is its layout on the bytes of the image, which is no longer
-- than one may be
pub record IsImageOf (spec : Spec) (layout : Layout) (image : List ℕ) : Type 0 where
  pub typed : IsTyped spec
  pub bytes : AreBytes image
  pub layout_is : IsLayoutOf spec image layout
  pub small : length image ≤ most_bytes

-- the write's field is no fixed one, on which the layout may rest
abbrev pub IsFree : Spec → Write → Type 0
IsFree spec write = IsSomeAnd (declared_field spec.base write.path.field) (λ f. f.fixed ≡ false)

-- where the head is written, the field is one of its structure or of an ancestor of that
abbrev pub IsOfHead : Spec → Element → Write → Type 0
IsOfHead spec e write =
    e.pool ≡ 0 → Descends spec.base.structures spec.base.head write.path.field.structure

-- each bit of each fixed field of the head stays
abbrev pub FixedFieldsStay : Structures → List ℕ → List ℕ → Type 0
FixedFieldsStay base old new =
    (field : ℕ) → IfSome (fixed_cell base field) (λ cell. HasSameBits cell old new)
