-- Where a layout puts its pools and fields.
use Rattle.std.specs.Prelude.{ℕ, ◌-◌, ◌==◌, Option, None, option_and_then, if◌then◌else◌, slice_get}
use Rattle.dsr_ir.specs.declared.declarations.FieldRef.{FieldRef}
use Rattle.dsr_ir.specs.declared.layouts.FieldPlace.{FieldPlace}
use Rattle.dsr_ir.specs.declared.layouts.Layout.{Layout}
use Rattle.dsr_ir.specs.declared.layouts.PoolNumbers.{PoolNumbers}

-- the numbers of a declared pool, counted from 1
abbrev pub pool_numbers : Layout → ℕ → Option PoolNumbers
pool_numbers layout pool = if pool == 0 then None else slice_get layout.pools (pool - 1)

-- the place of a field among those that its structure declares
abbrev pub field_place : Layout → FieldRef → Option FieldPlace
field_place layout field =
    option_and_then (λ places. slice_get places field.field) (slice_get layout.fields field.structure)
