-- What the laws say of layouts.
use Rattle.std.specs.Prelude.{◌≡◌, ◌<◌, ◌≤◌, ◌+◌, ◌*◌, ◌^◌, ℕ, List, Option, Some, IfSome, IsSome, IsSomeAnd, IsTrue, slice_get}
use Rattle.dsr_ir.specs.Layouts.{pool_numbers, field_place}
use Rattle.dsr_ir.specs.declared.constraints.Atom.TheVariants.{Value}
use Rattle.dsr_ir.specs.declared.constraints.Bound.TheVariants.{Size}
use Rattle.dsr_ir.specs.declared.constraints.Constraint.{Constraint}
use Rattle.dsr_ir.specs.declared.constraints.Measure.{Measure}
use Rattle.dsr_ir.specs.declared.constraints.Var.{Var}
use Rattle.dsr_ir.specs.declared.declarations.Field.{Field}
use Rattle.dsr_ir.specs.declared.declarations.FieldRef.{FieldRef}
use Rattle.dsr_ir.specs.declared.declarations.Pool.{Pool}
use Rattle.dsr_ir.specs.declared.declarations.SetDecl.{SetDecl}
use Rattle.dsr_ir.specs.declared.declarations.Spec.{Spec}
use Rattle.dsr_ir.specs.declared.declarations.Structure.{Structure}
use Rattle.dsr_ir.specs.declared.declarations.Structures.{Structures}
use Rattle.dsr_ir.specs.declared.layouts.FieldPlace.{FieldPlace}
use Rattle.dsr_ir.specs.declared.layouts.Layout.{Layout}
use Rattle.dsr_ir.specs.declared.layouts.PoolNumbers.{PoolNumbers}
use Rattle.dsr_ir.specs.declared.rules.Op.{Op}
use Rattle.dsr_ir.specs.declared.rules.Path.{Path}
use Rattle.dsr_ir.specs.declared.rules.Rule.{Rule}
use Rattle.dsr_layout.specs.Kinds.{kind_of}
use Rattle.dsr_meaning.specs.Cells.{width_bits}
use Rattle.dsr_meaning.specs.Counting.{IsIn}
use Rattle.dsr_meaning.specs.FixedFields.{fixed_value}
use Rattle.dsr_meaning.specs.Instances.{kind_pool, declared_field}
use Rattle.dsr_meaning.specs.Layouts.{bytes_of}
use Rattle.dsr_meaning.specs.Legal.{IsByteOf, entry_count}
use Rattle.dsr_meaning.specs.Places.{size_of}
use Rattle.dsr_meaning.specs.References.{IsCodeOf, IsNoneOf}
use Rattle.dsr_meaning.specs.Refusals.{ByteRange, Refusal, IsLayoutOf, greatest_size, given_path, reaches_bound, first_of}
use Rattle.dsr_meaning.specs.Typed.{HasAtom, pool_at}

-- what holds wherever an image has a layout under a specification
abbrev pub OfEachLayout : (Spec → List ℕ → Layout → Type 0) → Type 0
OfEachLayout P =
    (spec : Spec) (bytes : List ℕ) (layout : Layout) → IsLayoutOf spec bytes layout
    → P spec bytes layout

-- ---- sizes

-- the size of a structure in bits on an image
abbrev pub bits_of : Structures → List ℕ → ℕ → Option ℕ
bits_of base bytes structure = size_of (fixed_value base bytes) base.structures structure

-- where the structure has a size, each entry of its field ends within it
abbrev pub LiesInStructure : Structures → List ℕ → FieldRef → FieldPlace → Type 0
LiesInStructure base bytes field place =
    IfSome (bits_of base bytes field.structure)
    (λ bits. (index : ℕ) → index < entry_count place
    → place.bit + (index + 1) * width_bits place.width ≤ bits)

abbrev pub FieldsLieInStructures : Structures → List ℕ → Layout → Type 0
FieldsLieInStructures base bytes layout =
    (field : FieldRef) → IfSome (field_place layout field) (LiesInStructure base bytes field)

-- a structure extends another one, which is declared before it
pub record Extends (structures : List Structure) (child parent : ℕ) : Type 0 where
  pub structure : Structure
  pub declared : slice_get structures child ≡ Some structure
  pub parent_is : structure.parent ≡ Some parent
  pub before : parent < child

-- where both structures have a size, the first is no larger
abbrev pub IsNoLarger : (ℕ → Option ℕ) → ℕ → ℕ → Type 0
IsNoLarger size a b = IfSome (size a) (λ smaller. IfSome (size b) (λ larger. smaller ≤ larger))

abbrev pub ParentsAreNoLarger : (ℕ → Option ℕ) → List Structure → Type 0
ParentsAreNoLarger fixed structures =
    (child parent : ℕ) → Extends structures child parent
    → IsNoLarger (size_of fixed structures) parent child

abbrev pub StructuresHaveSizes : Structures → List ℕ → Type 0
StructuresHaveSizes base bytes =
    (i : ℕ) (s : Structure) → slice_get base.structures i ≡ Some s → IsSome (bits_of base bytes i)

-- so many bytes have all bits of the head
abbrev pub HoldHead : Structures → List ℕ → ℕ → Type 0
HoldHead base bytes count = IfSome (bits_of base bytes base.head) (λ bits. bits ≤ 8 * count)

-- ---- pools

-- a slot of the pool has all bits of the structure
abbrev pub HasRoomFor : Structures → List ℕ → ℕ → PoolNumbers → Type 0
HasRoomFor base bytes structure n =
    IfSome (bits_of base bytes structure) (λ bits. bits ≤ 8 * n.slot)

-- each pool for its structure
abbrev pub PoolsHaveRoom : Spec → List ℕ → Layout → Type 0
PoolsHaveRoom spec bytes layout =
    (p : ℕ) (d : Pool) → pool_at spec.base p ≡ Some d
    → IfSome (pool_numbers layout p) (HasRoomFor spec.base bytes d.structure)

-- the pool of each set for the structure of the set
abbrev pub SetsHaveRoom : Spec → List ℕ → Layout → Type 0
SetsHaveRoom spec bytes layout =
    (k : ℕ) (s : SetDecl) → slice_get spec.base.sets k ≡ Some s
    → IfSome (pool_numbers layout s.pool) (HasRoomFor spec.base bytes s.structure)

-- the byte is one of the head's
abbrev pub IsByteOfHead : Structures → List ℕ → ℕ → Type 0
IsByteOfHead base bytes at = IsSomeAnd (bytes_of (bits_of base bytes) base.head) (λ size. at < size)

-- no byte is one of the head and of a pool
abbrev pub HeadIsApart : Spec → List ℕ → Layout → Type 0
HeadIsApart spec bytes layout =
    (p at : ℕ) (n : PoolNumbers) → pool_numbers layout p ≡ Some n → IsByteOfHead spec.base bytes at
    → IsByteOf n at → ⊥

-- ---- references and values

-- the number fits each field that refers to the pool
abbrev pub FitsReferences : Structures → ℕ → ℕ → Type 0
FitsReferences base pool value =
    (place : FieldRef) (f : Field) → declared_field base place ≡ Some f
    → kind_pool f.kind ≡ Some pool → value < 2 ^ width_bits f.width

abbrev pub NonesFitReferences : Spec → List ℕ → Layout → Type 0
NonesFitReferences spec bytes layout =
    (pool value : ℕ) → IsNoneOf layout pool value → FitsReferences spec.base pool value

abbrev pub CodesFitReferences : Spec → List ℕ → Layout → Type 0
CodesFitReferences spec bytes layout =
    (pool slot value : ℕ) → IsCodeOf layout pool slot value → FitsReferences spec.base pool value

-- some constraint compares values of the relation with the size, by a comparison that they may meet
-- by being as large
pub record ComparesWithSize (spec : Spec) (rel : ℕ) (measure : Measure) : Type 0 where
  pub constraint : Constraint
  pub var : Var
  pub op : Op
  pub declared : IsIn constraint spec.constraints
  pub compares : HasAtom constraint (Value var rel op (Size measure))
  pub reaches : IsTrue (reaches_bound op)

-- some rule gives the values of the path to the relation
pub record GivesValuesOf (spec : Spec) (rel : ℕ) (path : Path) : Type 0 where
  pub rule : Rule
  pub declared : IsIn rule spec.rules
  pub gives : given_path rel rule.inc ≡ Some path

abbrev pub CountsFitValues : Spec → List ℕ → Layout → Type 0
CountsFitValues spec bytes layout =
    (rel : ℕ) (measure : Measure) (path : Path) → ComparesWithSize spec rel measure
    → GivesValuesOf spec rel path
    → IfSome (field_place layout path.field) (λ place. greatest_size spec layout measure < 2 ^ width_bits place.width)

-- ---- refusals

-- the first of the refusals has the least kind of all
abbrev pub FirstIsLeast : List Refusal → Type 0
FirstIsLeast rs = IfSome (first_of rs) (λ r. (s : Refusal) → IsIn s rs → kind_of r ≤ kind_of s)

-- the byte lies in the range
abbrev pub HasByte : ByteRange → ℕ → Type 0
HasByte range at = (range.first ≤ at) × (at < range.behind)

-- the value is the code of the slot
abbrev pub HasCode : PoolNumbers → ℕ → ℕ → Type 0
HasCode n slot value = (slot < n.count) × (value ≡ n.code + slot * n.step)
