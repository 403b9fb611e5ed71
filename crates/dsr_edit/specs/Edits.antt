-- Groups of writes: which can be made, what they leave, and why one isn't made.
use Rattle.std.specs.Prelude.{◌≡◌, ◌<◌, ◌^◌, ℕ, false, is_some, List, [], ◌∷◌, Some, slice_get, unwrap_or}
use Rattle.dsr_edit.specs.declared.faults.EditFault.{EditFault}
use Rattle.dsr_edit.specs.declared.faults.EditFault.TheVariants as faults
use Rattle.dsr_edit.specs.declared.groups.CellWrite.{CellWrite}
use Rattle.dsr_ir.specs.Layouts.{field_place}
use Rattle.dsr_ir.specs.declared.declarations.Field.{Field}
use Rattle.dsr_ir.specs.declared.declarations.Spec.{Spec}
use Rattle.dsr_ir.specs.declared.layouts.Cell.{Cell}
use Rattle.dsr_ir.specs.declared.layouts.FieldPlace.{FieldPlace}
use Rattle.dsr_ir.specs.declared.layouts.Layout.{Layout}
use Rattle.dsr_meaning.specs.Cells.{cell_of}
use Rattle.dsr_meaning.specs.Consistency.{BoundConstraint, Comes, IsConsistent, IsViolated}
use Rattle.dsr_meaning.specs.Instances.{record_count}
use Rattle.dsr_meaning.specs.Legal.{entry_count}
use Rattle.dsr_meaning.specs.Models.{IsFact}
use Rattle.dsr_report_read.specs.Forms.{IsPoolField}
use Rattle.dsr_step_theory.specs.Puts.{IsPut}

-- ---- one write

-- the entry that is written, 0 of a scalar
abbrev pub entry_of : CellWrite → ℕ
entry_of write = unwrap_or write.index 0

-- the field's place, which has the entry; an index is given exactly where the field is an array
pub record IsEntryPlace (layout : Layout) (field : Field) (write : CellWrite) (place : FieldPlace) : Type 0 where
  pub indexed : is_some field.len ≡ is_some write.index
  pub place_is : field_place layout write.field ≡ Some place
  pub index_below : entry_of write < entry_count place

-- the write names the cell: that of an entry of a field, which its record has by the structure of
-- its pool or of a set of that
pub record NamesCell (spec : Spec) (layout : Layout) (write : CellWrite) (field : Field) (cell : Cell) : Type 0 where
  pub is_field : IsPoolField spec.base write.elem.pool write.field field
  pub slot_below : write.elem.slot < record_count layout write.elem.pool
  pub place : FieldPlace
  pub entry : IsEntryPlace layout field write place
  pub cell_is : cell_of layout write.elem write.field (entry_of write) ≡ Some cell

-- it names the cell of a field that isn't fixed, and its value fits
pub record MayWrite (spec : Spec) (layout : Layout) (write : CellWrite) (cell : Cell) : Type 0 where
  pub field : Field
  pub names : NamesCell spec layout write field cell
  pub free : field.fixed ≡ false
  pub fits : write.value < 2 ^ cell.width

-- so of some cell
abbrev pub MayWriteSome : Spec → Layout → CellWrite → Type 0
MayWriteSome spec layout write = (cell : Cell) × MayWrite spec layout write cell

-- ---- a group

-- each write is made into its cell, in order, and no other bit changes
pub data AreMade (spec : Spec) (layout : Layout) : List CellWrite → List ℕ → List ℕ → Type 0 where
  done : {bytes : List ℕ} → AreMade spec layout [] bytes bytes
  made :
      {rest : List CellWrite} {old middle new : List ℕ} → (write : CellWrite) (cell : Cell)
      → MayWrite spec layout write cell → IsPut cell write.value old middle
      → AreMade spec layout rest middle new → AreMade spec layout (write ∷ rest) old new

-- the writes can all be made, these are the bytes after them, and they are consistent
pub record IsEdited (spec : Spec) (layout : Layout) (group : List CellWrite) (old new : List ℕ) : Type 0 where
  pub made : AreMade spec layout group old new
  pub consistent : IsConsistent spec layout new

-- ---- why a group isn't made

-- the write at the place is the first one that can't be made
pub record IsFirstUnwritable (spec : Spec) (layout : Layout) (group : List CellWrite) (place : ℕ) : Type 0 where
  pub write : CellWrite
  pub write_is : slice_get group place ≡ Some write
  pub unwritable : MayWriteSome spec layout write → ⊥
  pub before :
      (k : ℕ) (other : CellWrite) → k < place → slice_get group k ≡ Some other
      → MayWriteSome spec layout other

-- so where a fault tells a write
abbrev pub IsUnwritable : Spec → Layout → List CellWrite → EditFault → Type 0
IsUnwritable spec layout group (faults.Cell place) = IsFirstUnwritable spec layout group place
IsUnwritable spec layout group (faults.Broken constraint binding) = ⊥
IsUnwritable spec layout group faults.NoMemory = Unit {0}

-- the first violated binding of an image: constraints in order of declaration, and the bindings of
-- each least first
pub record IsFirstViolation (spec : Spec) (layout : Layout) (bytes : List ℕ) (v : BoundConstraint) : Type 0 where
  pub violated : IsViolated (IsFact spec layout bytes) spec v
  pub none_before : (w : BoundConstraint) → IsViolated (IsFact spec layout bytes) spec w → Comes w v → ⊥

-- the writes can all be made, and after them this is the first violated binding
pub record IsBroken (spec : Spec) (layout : Layout) (group : List CellWrite) (old : List ℕ) (v : BoundConstraint) : Type 0 where
  pub new : List ℕ
  pub made : AreMade spec layout group old new
  pub first : IsFirstViolation spec layout new v

-- why a group isn't made on these bytes; want of memory says nothing of it
abbrev pub IsEditFault : Spec → Layout → List CellWrite → List ℕ → EditFault → Type 0
IsEditFault spec layout group old (faults.Cell place) = IsFirstUnwritable spec layout group place
IsEditFault spec layout group old (faults.Broken constraint binding) =
    IsBroken spec layout group old (record { constraint = constraint; binding = binding })
IsEditFault spec layout group old faults.NoMemory = Unit {0}
