-- What a step does to the bytes of an image.
use Rattle.std.specs.Prelude.{◌≡◌, ◌<◌, ◌≤◌, ◌+◌, ◌*◌, ◌^◌, ℕ, Bool, MatchBool, MatchOption, List, [], ◌∷◌, length, All, Option, None, Some, IfSome, IsSomeAnd, option_map, option_and_then, slice_get, if◌then◌else◌}
use Rattle.dsr_ir.specs.Layouts.{pool_numbers}
use Rattle.dsr_ir.specs.declared.declarations.FieldRef.{FieldRef}
use Rattle.dsr_ir.specs.declared.declarations.Spec.{Spec}
use Rattle.dsr_ir.specs.declared.layouts.Cell.{Cell}
use Rattle.dsr_ir.specs.declared.layouts.Layout.{Layout}
use Rattle.dsr_ir.specs.declared.rules.Test.{Test}
use Rattle.dsr_ir.specs.declared.tuples.Element.{Element}
use Rattle.dsr_ir.specs.declared.updates.Pick.{Pick}
use Rattle.dsr_ir.specs.declared.updates.Pick.TheVariants.{Num, NoneCode, CodeOf, Fresh, SizeOf}
use Rattle.dsr_ir.specs.declared.updates.Update.{Update}
use Rattle.dsr_ir.specs.declared.updates.Write.{Write}
use Rattle.dsr_meaning.specs.Cells.{cell_of, cell_value}
use Rattle.dsr_meaning.specs.Instances.{Meets, referred_pool}
use Rattle.dsr_meaning.specs.Legal.{HasEntry}
use Rattle.dsr_meaning.specs.Refusals.{IsLayoutOf}
use Rattle.dsr_meaning.specs.Truth.{element_of}
use Rattle.dsr_meaning.specs.Typed.{IsTyped}
use Rattle.dsr_step_theory.specs.Puts.{ArePut, IsPut}
use Rattle.dsr_step_theory.specs.Resets.{reset_puts}
use Rattle.dsr_step_theory.specs.declared.steps.Step.{Step}
use Rattle.dsr_meaning.specs.Limits.{most_bytes}

-- ---- one write

-- the code of a slot
abbrev pub code_of : Layout → Element → Option ℕ
code_of layout e = option_map (λ n. n.code + e.slot * n.step) (pool_numbers layout e.pool)

-- the code of no slot of the pool to which the field refers
abbrev pub none_of : Spec → Layout → FieldRef → Option ℕ
none_of spec layout field =
    option_and_then (λ pool. option_map (λ n. n.none) (pool_numbers layout pool))
    (referred_pool spec field)

-- the number that is picked for a field
abbrev pub picked_number : Spec → Layout → Step → FieldRef → Pick → Option ℕ
picked_number spec layout step field (Num n) = Some n
picked_number spec layout step field NoneCode = none_of spec layout field
picked_number spec layout step field (CodeOf v) =
    option_and_then (code_of layout) (element_of step.binding v)
picked_number spec layout step field Fresh = option_and_then (code_of layout) step.fresh
picked_number spec layout step field (SizeOf measure) = Some step.number

abbrev pub written_number : Spec → Layout → Step → Write → Option ℕ
written_number spec layout step write = picked_number spec layout step write.path.field write.pick

-- the entry that is written, 0 of a scalar
abbrev pub written_index : Step → Write → ℕ
written_index step write = if write.path.indexed then step.index else 0

abbrev pub written_cell : Layout → Step → Write → Option Cell
written_cell layout step write =
    cell_of layout step.elem write.path.field (written_index step write)

-- what the write wants holds of the value: its test comes out as wanted, or without one the value
-- is the picked number
abbrev pub IsWanted : Spec → Layout → Write → ℕ → ℕ → Type 0
IsWanted spec layout write number value =
    MatchOption write.wants (value ≡ number)
    (λ want. MatchBool want.1 (Meets layout (referred_pool spec write.path.field) want.0 value)
    (Meets layout (referred_pool spec write.path.field) want.0 value → ⊥))

-- the writes are made in order, each of which is skipped where what it wants holds already
pub data AreWritten (spec : Spec) (layout : Layout) (step : Step) :
    List Write → List ℕ → List ℕ → Type 0 where
  done : {bytes : List ℕ} → AreWritten spec layout step [] bytes bytes
  skipped :
      {rest : List Write} {old new : List ℕ} → (write : Write) (cell : Cell) (number : ℕ)
      → written_cell layout step write ≡ Some cell
      → written_number spec layout step write ≡ Some number
      → IsWanted spec layout write number (cell_value old cell)
      → AreWritten spec layout step rest old new
      → AreWritten spec layout step (write ∷ rest) old new
  made :
      {rest : List Write} {old middle new : List ℕ} → (write : Write) (cell : Cell) (number : ℕ)
      → written_cell layout step write ≡ Some cell
      → written_number spec layout step write ≡ Some number
      → (IsWanted spec layout write number (cell_value old cell) → ⊥) → IsPut cell number old middle
      → AreWritten spec layout step rest middle new
      → AreWritten spec layout step (write ∷ rest) old new

-- ---- a whole step

-- the fresh record is reset, and then the update's writes are made
pub record IsStepped (spec : Spec) (layout : Layout) (step : Step) (update : Update)
    (old new : List ℕ) : Type 0 where
  pub between : List ℕ
  pub reset :
      MatchOption step.fresh (between ≡ old)
      (λ e. ArePut (reset_puts spec.base layout e) old between)
  pub written : AreWritten spec layout step update.writes between new

-- ---- what a step must be so that it can be made

-- the record that is written has the entry, and the picked number fits it
pub record CanWrite (spec : Spec) (layout : Layout) (step : Step) (write : Write) : Type 0 where
  pub entry : HasEntry layout step.elem write.path.field (written_index step write)
  pub number : ℕ
  pub number_is : written_number spec layout step write ≡ Some number
  pub fits : IsSomeAnd (written_cell layout step write) (λ cell. number < 2 ^ cell.width)

-- the fresh record is a slot of a pool
abbrev pub IsSlot : Layout → Element → Type 0
IsSlot layout e = IsSomeAnd (pool_numbers layout e.pool) (λ n. e.slot < n.count)

-- the layout is one of the specification, for an image of so many bytes, of which
-- there are no more than there may be, and each write can be made
pub record CanStep (spec : Spec) (layout : Layout) (step : Step) (update : Update)
    (bytes : ℕ) : Type 0 where
  pub typed : IsTyped spec
  pub image : List ℕ
  pub layout_is : IsLayoutOf spec image layout
  pub as_long : bytes ≡ length image
  pub small : bytes ≤ most_bytes
  pub writes : All (CanWrite spec layout step) update.writes
  pub fresh : IfSome step.fresh (IsSlot layout)
