-- Images that differ only in cells of some fields.
use Rattle.std.specs.Prelude.{◌≡◌, ◌≢◌, ◌<◌, ◌⊎◌, ℕ, false, List, Some, IsSome, IsSomeAnd, IsTrue, slice_get}
use Rattle.dsr_affected_laws.specs.Affected.{IsAffectedConstraint}
use Rattle.dsr_layout_laws.specs.Entries.{IsEntry}
use Rattle.dsr_ir.specs.declared.constraints.Constraint.{Constraint}
use Rattle.dsr_ir.specs.declared.declarations.FieldRef.{FieldRef}
use Rattle.dsr_ir.specs.declared.declarations.Spec.{Spec}
use Rattle.dsr_ir.specs.declared.declarations.Structures.{Structures}
use Rattle.dsr_ir.specs.declared.layouts.Cell.{Cell}
use Rattle.dsr_ir.specs.declared.layouts.Layout.{Layout}
use Rattle.dsr_ir.specs.declared.tuples.Element.{Element}
use Rattle.dsr_meaning.specs.Cells.{bit_of}
use Rattle.dsr_meaning.specs.Counting.{IsIn}
use Rattle.dsr_meaning.specs.Instances.{declared_field}
use Rattle.dsr_meaning.specs.Truth.{head}
use Rattle.dsr_meaning.specs.Typed.{Descends, pool_at}
use Rattle.dsr_meaning.specs.Writes.{AreBytes, IsBitOf}
use Rattle.dsr_step_theory.specs.Images.{IsImageOf}
use Rattle.dsr_update_theory.specs.Changes.{are_related}

-- the record has the fields of the structure: head those of its structure and of its ancestors, a record of a pool those
-- of structures that are related to its pool's
abbrev pub HasFieldsOf : Structures → Element → ℕ → Type 0
HasFieldsOf base e structure =
    ((e ≡ head) × Descends base.structures base.head structure)
    ⊎ IsSomeAnd (pool_at base e.pool) (λ d. IsTrue (are_related base d.structure structure))

-- the cell is that of an entry of the field in the record
pub record IsCellAt (spec : Spec) (layout : Layout) (e : Element) (field : FieldRef) (index : ℕ)
    (cell : Cell) : Type 0 where
  pub declared : IsSome (declared_field spec.base field)
  pub of_record : HasFieldsOf spec.base e field.structure
  pub entry : IsEntry layout e field index cell

-- the bit lies in a cell of one of the fields, in some record
pub record IsBitAt (spec : Spec) (layout : Layout) (fields : List FieldRef) (j : ℕ) : Type 0 where
  pub elem : Element
  pub field : FieldRef
  pub index : ℕ
  pub cell : Cell
  pub among : IsIn field fields
  pub at : IsCellAt spec layout elem field index cell
  pub bit : IsBitOf cell.bit cell.width j

-- each bit in which they differ lies in such a cell
abbrev pub DifferOnlyIn : Spec → Layout → List FieldRef → List ℕ → List ℕ → Type 0
DifferOnlyIn spec layout fields old new =
    (j : ℕ) → bit_of new j ≢ bit_of old j → IsBitAt spec layout fields j

-- two images on one legal layout, which is that of the old one, differ only in cells of the fields
pub record AreAlikeBut (spec : Spec) (layout : Layout) (fields : List FieldRef) (old new : List ℕ) : Type 0 where
  pub image : IsImageOf spec layout old
  pub new_bytes : AreBytes new
  pub differ : DifferOnlyIn spec layout fields old new

-- each of the fields is declared and isn't a fixed one
abbrev pub AreFree : Spec → List FieldRef → Type 0
AreFree spec fields =
    (field : FieldRef) → IsIn field fields → IsSomeAnd (declared_field spec.base field) (λ f. f.fixed ≡ false)

-- each constraint stands in the list, by its number, or isn't affected
abbrev pub CoversAffected : Spec → List FieldRef → List ℕ → Type 0
CoversAffected spec fields order =
    (k : ℕ) (c : Constraint) → slice_get spec.constraints k ≡ Some c
    → ((at : ℕ) × (slice_get order at ≡ Some k)) ⊎ (IsAffectedConstraint spec fields c → ⊥)

-- each number is below all later ones
abbrev pub IsRising : List ℕ → Type 0
IsRising order =
    (i j m n : ℕ) → i < j → slice_get order i ≡ Some m → slice_get order j ≡ Some n → m < n
