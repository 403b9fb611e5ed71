-- Writes of an edit, each seen as that of a step by an update.
use Rattle.std.specs.Prelude.{◌≡◌, [], ◌∷◌, List, None, map}
use Rattle.dsr_edit.specs.Edits.{MayWrite, entry_of}
use Rattle.dsr_edit.specs.declared.groups.CellWrite.{CellWrite}
use Rattle.dsr_edit.specs.declared.updates.CellPut.{CellPut}
use Rattle.dsr_ir.specs.declared.declarations.FieldRef.{FieldRef}
use Rattle.dsr_ir.specs.declared.declarations.Spec.{Spec}
use Rattle.dsr_ir.specs.declared.layouts.Layout.{Layout}
use Rattle.dsr_ir.specs.declared.updates.Update.{Update}
use Rattle.dsr_ir.specs.declared.updates.Write.{Write}
use Rattle.dsr_step_theory.specs.declared.steps.Step.{Step}

-- the update writes the field alone
pub record IsUpdateOf (field : FieldRef) (update : Update) : Type 0 where
  pub write : Write
  pub field_is : write.path.field ≡ field
  pub alone : update.writes ≡ write ∷ []

-- the step is at the write's record and entry, and has no fresh record
pub record IsStepOf (write : CellWrite) (step : Step) : Type 0 where
  pub elem : step.elem ≡ write.elem
  pub index : step.index ≡ entry_of write
  pub fresh : step.fresh ≡ None

-- the write can be made into its cell, and the update is one of its field
pub record IsReady (spec : Spec) (layout : Layout) (put : CellPut) : Type 0 where
  pub may : MayWrite spec layout put.write put.cell
  pub update : IsUpdateOf put.write.field put.update

-- so of each
abbrev pub AreReady : Spec → Layout → List CellPut → Type 0
AreReady spec layout [] = Unit {0}
AreReady spec layout (put ∷ puts) = IsReady spec layout put × AreReady spec layout puts

abbrev pub writes_of : List CellPut → List CellWrite
writes_of puts = map (λ put. put.write) puts
