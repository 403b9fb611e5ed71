-- What a cell may hold, as tests see it, and what a write may leave.
use Rattle.std.specs.Prelude.{◌≡◌, ◌<◌, ◌^◌, ℕ, Bool, true, false, Option, None, Some, IsSome}
use Rattle.dsr_ir.specs.declared.declarations.Field.{Field}
use Rattle.dsr_ir.specs.declared.declarations.Kind.{Kind}
use Rattle.dsr_ir.specs.declared.declarations.Kind.TheVariants as kinds
use Rattle.dsr_ir.specs.declared.rules.Test.{Test}
use Rattle.dsr_ir.specs.declared.rules.Test.TheVariants as tests
use Rattle.dsr_ir.specs.declared.updates.Pick.{Pick}
use Rattle.dsr_ir.specs.declared.updates.Pick.TheVariants as picks
use Rattle.dsr_ir.specs.declared.updates.Write.{Write}
use Rattle.dsr_meaning.specs.Cells.{width_bits}
use Rattle.dsr_meaning.specs.Instances.{Compares, kind_pool}

-- A number; or a reference, as tests see it: the code of a slot, neither that nor none, or none. So
-- what a write leaves needs no layout, and a test surely holds where it holds of all that may be
-- left.
pub data CellValue : Type 0 where
  Number : ℕ → CellValue
  LegalReference : CellValue
  IllegalReference : CellValue
  NoneReference : CellValue

-- the test holds of the value
abbrev pub Passes : Test → CellValue → Type 0
Passes (tests.Cmp op k) (Number n) = Compares op n k
Passes tests.Legal LegalReference = Unit {0}
Passes tests.Illegal IllegalReference = Unit {0}
Passes tests.IsNone NoneReference = Unit {0}
Passes tests.IsSome LegalReference = Unit {0}
Passes tests.IsSome IllegalReference = Unit {0}
Passes test value = ⊥

-- the test comes out true, or false
abbrev pub ComesOut : Bool → Test → CellValue → Type 0
ComesOut true test value = Passes test value
ComesOut false test value = Passes test value → ⊥

-- a cell of the field may hold the value
abbrev pub MayHold : Field → CellValue → Type 0
MayHold field (Number n) = (kind_pool field.kind ≡ None) × (n < 2 ^ width_bits field.width)
MayHold field _ = IsSome (kind_pool field.kind)

-- the value is what is picked, which for a size may be any
abbrev pub IsPicked : Field → Pick → CellValue → Type 0
IsPicked field (picks.Num n) value = value ≡ Number n
IsPicked field picks.NoneCode value = value ≡ NoneReference
IsPicked field (picks.CodeOf v) value = value ≡ LegalReference
IsPicked field picks.Fresh value = value ≡ LegalReference
IsPicked field (picks.SizeOf measure) value = MayHold field value

-- the same, or any value of the field with which a wanted test comes out as wanted
abbrev pub MayLeaveWanted : Field → Pick → Option (Test × Bool) → CellValue → Type 0
MayLeaveWanted field pick None value = IsPicked field pick value
MayLeaveWanted field pick (Some (test, wanted)) value =
    MayHold field value × ComesOut wanted test value

-- the written cell may hold the value afterwards: the write of a removal is always made, another
-- one is skipped where what it wants holds already
abbrev pub MayLeave : Field → Bool → Write → CellValue → Type 0
MayLeave field true write value = IsPicked field write.pick value
MayLeave field false write value = MayLeaveWanted field write.pick write.wants value

-- the value to which a fresh record's field is reset; none for a gap
abbrev pub reset_of : Kind → Option CellValue
reset_of (kinds.Number init) = Some (Number init)
reset_of (kinds.Refers pool) = Some NoneReference
reset_of kinds.Gap = None
