-- A step that can be made as its update is judged.
use Rattle.std.specs.Prelude.{◌≡◌, ◌≢◌, ◌⊎◌, ◌∷◌, [], ℕ, true, false, List, None, Some, IsSome, IsSomeAnd, IfSome, MatchBool}
use Rattle.dsr_ir.specs.declared.declarations.Field.{Field}
use Rattle.dsr_ir.specs.declared.layouts.Cell.{Cell}
use Rattle.dsr_ir.specs.declared.layouts.Layout.{Layout}
use Rattle.dsr_ir.specs.declared.tuples.Element.{Element}
use Rattle.dsr_ir.specs.declared.updates.Pick.{Pick}
use Rattle.dsr_ir.specs.declared.updates.Pick.TheVariants.{Num, NoneCode, CodeOf, Fresh, SizeOf}
use Rattle.dsr_ir.specs.declared.updates.Write.{Write}
use Rattle.dsr_meaning.specs.Cells.{cell_value}
use Rattle.dsr_meaning.specs.Counting.{IsIn}
use Rattle.dsr_meaning.specs.Instances.{declared_field, kind_pool}
use Rattle.dsr_meaning.specs.Truth.{element_of, head}
use Rattle.dsr_step_theory.specs.Images.{IsImageOf, IsOfHead}
use Rattle.dsr_effect_laws.specs.Leaving.{IsTestOf}
use Rattle.dsr_step_theory.specs.Steps.{CanWrite, IsSlot, IsStepped, IsWanted, written_cell, written_number}
use Rattle.dsr_step_theory.specs.declared.steps.Step.{Step}
use Rattle.dsr_update_theory.specs.Changes.{Change}
use Rattle.dsr_update_theory.specs.Together.{MayStandTogether}
use Rattle.dsr_update_theory.specs.Touching.{is_removal}

-- what is picked is of the field's kind: a number, or none or a slot of the pool to which the field
-- refers
abbrev pub IsPickFor : Layout → Step → Field → Pick → Type 0
IsPickFor layout step field (Num n) = kind_pool field.kind ≡ None
IsPickFor layout step field NoneCode = IsSome (kind_pool field.kind)
IsPickFor layout step field (CodeOf v) =
    IsSomeAnd (element_of step.binding v)
    (λ e. (kind_pool field.kind ≡ Some e.pool) × IsSlot layout e)
IsPickFor layout step field Fresh =
    IsSomeAnd step.fresh (λ e. (kind_pool field.kind ≡ Some e.pool) × IsSlot layout e)
IsPickFor layout step field (SizeOf measure) = kind_pool field.kind ≡ None

-- the write can be made, with a number of its field's kind, which is what the write wants
pub record IsFitWrite (c : Change) (layout : Layout) (step : Step) (write : Write) : Type 0 where
  pub can : CanWrite c.spec layout step write
  pub of_head : IsOfHead c.spec step.elem write
  pub field : Field
  pub declared : declared_field c.spec.base write.path.field ≡ Some field
  pub indexed : MatchBool write.path.indexed (IsSome field.len) (field.len ≡ None)
  pub picks : IsPickFor layout step field write.pick
  pub tests : IfSome write.wants (λ want. IsTestOf (kind_pool field.kind) want.0)
  pub serves :
      (number : ℕ) → written_number c.spec layout step write ≡ Some number
      → IsWanted c.spec layout write number number
  pub fresh : write.pick ≡ Fresh → (write.wants ≡ None) × (write.path.indexed ≡ false)

-- where what a write of a removal wants holds already, the cell has the number that is picked
abbrev pub IsAlwaysMade : Change → Layout → Step → List ℕ → Write → Type 0
IsAlwaysMade c layout step old write =
    (cell : Cell) (number : ℕ) → written_cell layout step write ≡ Some cell
    → written_number c.spec layout step write ≡ Some number
    → IsWanted c.spec layout write number (cell_value old cell) → cell_value old cell ≡ number

-- all that is asked of a step and its writes, so that they leave what the update is judged to leave
pub record IsFitStep (c : Change) (layout : Layout) (step : Step) (old new : List ℕ) : Type 0 where
  pub image : IsImageOf c.spec layout old
  pub stepped : IsStepped c.spec layout step c.update old new
  pub in_head : step.elem.pool ≡ 0 → step.elem ≡ head
  pub together : MayStandTogether c.spec.base c.update.writes
  pub writes : (write : Write) → IsIn write c.update.writes → IsFitWrite c layout step write
  pub removal :
      is_removal c.goal ≡ true → (write : Write) → IsIn write c.update.writes
      → IsAlwaysMade c layout step old write
  pub entries :
      (write : Write) → IsIn write c.update.writes → write.path.indexed ≡ true
      → (c.update.writes ≡ write ∷ []) ⊎ (step.elem.pool ≡ 0)
  pub fresh :
      (e : Element) → step.fresh ≡ Some e
      → (c.update.fresh ≡ Some e.pool) × IsSlot layout e × (e ≢ step.elem)
