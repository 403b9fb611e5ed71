-- The writes that lines of a script name.
use Rattle.std.specs.Prelude.{◌≡◌, ◌<◌, ◌⊎◌, ℕ, is_some, List, [], ◌∷◌, None, Some, slice_get}
use Rattle.dsr_answers.specs.Texts.{pool_name}
use Rattle.dsr_edit.specs.Edits.{MayWriteSome}
use Rattle.dsr_edit.specs.declared.groups.CellWrite.{CellWrite}
use Rattle.dsr_edit_text.specs.Scripts.{SetText}
use Rattle.dsr_ir.specs.declared.declarations.Field.{Field}
use Rattle.dsr_ir.specs.declared.declarations.FieldRef.{FieldRef}
use Rattle.dsr_ir.specs.declared.declarations.Spec.{Spec}
use Rattle.dsr_ir.specs.declared.layouts.Layout.{Layout}
use Rattle.dsr_ir.specs.declared.tuples.Element.{Element}
use Rattle.dsr_meaning.specs.Truth.{head}
use Rattle.dsr_report_read.specs.Forms.{IsFirstNamed, IsPoolField, IsRecord}

-- the head, or a slot of the pool with the line's name
pub record IsRecordNamed (spec : Spec) (line : SetText) (elem : Element) : Type 0 where
  pub record_is : IsRecord spec elem
  pub by :
      ((line.slot ≡ None) × (elem ≡ head))
      ⊎ ((line.slot ≡ Some elem.slot) × (0 < elem.pool) × (pool_name spec elem.pool ≡ line.pool))

-- the first field with the line's name that records of the pool have, among the arrays where the
-- line has an index, and else among the others
pub record IsFieldNamed (spec : Spec) (pool : ℕ) (line : SetText) (place : FieldRef) : Type 0 where
  pub field : Field
  pub is_field : IsPoolField spec.base pool place field
  pub name_is : field.name ≡ line.field
  pub indexed : is_some field.len ≡ is_some line.index
  pub first : IsFirstNamed spec.base pool place field

-- the write that the line names
pub record IsWriteOf (spec : Spec) (line : SetText) (write : CellWrite) : Type 0 where
  pub elem : IsRecordNamed spec line write.elem
  pub field : IsFieldNamed spec write.elem.pool line write.field
  pub index : write.index ≡ line.index
  pub value : write.value ≡ line.value

-- the line names a write that can be made
pub record CanBeMade (spec : Spec) (layout : Layout) (line : SetText) : Type 0 where
  pub write : CellWrite
  pub is_write : IsWriteOf spec line write
  pub may : MayWriteSome spec layout write

-- the writes that the lines of a group name, in order
pub data AreWritesOf (spec : Spec) : List SetText → List CellWrite → Type 0 where
  none : AreWritesOf spec [] []
  more :
      {lines : List SetText} {writes : List CellWrite} → (line : SetText) (write : CellWrite)
      → IsWriteOf spec line write → AreWritesOf spec lines writes
      → AreWritesOf spec (line ∷ lines) (write ∷ writes)

-- the line at the place is the first one of a group that names no write which can be made
pub record IsFirstUnwritableLine (spec : Spec) (layout : Layout) (group : List SetText)
    (place : ℕ) : Type 0 where
  pub line : SetText
  pub line_is : slice_get group place ≡ Some line
  pub unwritable : CanBeMade spec layout line → ⊥
  pub before :
      (k : ℕ) (other : SetText) → k < place → slice_get group k ≡ Some other
      → CanBeMade spec layout other
