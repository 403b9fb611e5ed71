-- Writes that are put into their cells, and taken back by the values that were there.
use Rattle.std.specs.Prelude.{◌≡◌, ◌<◌, ◌^◌, ℕ, zero, suc, Bool, true, List, Some, slice_get}
use Rattle.dsr_edit.specs.declared.updates.CellPut.{CellPut}
use Rattle.dsr_fixpoint.specs.Models.{IsModelOf, IsPreparedFor}
use Rattle.dsr_ir.specs.declared.declarations.Spec.{Spec}
use Rattle.dsr_ir.specs.declared.layouts.Layout.{Layout}
use Rattle.dsr_model.specs.Views.{ModelView}
use Rattle.dsr_resolve.specs.Rules.{AreResolved}
use Rattle.dsr_resolve.specs.declared.resolved.Resolved.{Resolved}
use Rattle.dsr_step_theory.specs.Images.{IsImageOf}
use Rattle.dsr_step_theory.specs.Puts.{IsPut}

-- putting the value that was there into the cell at the place leads on
pub record IsTakenBack (puts : List CellPut) (was : List ℕ) (place : ℕ)
    (now before : List ℕ) : Type 0 where
  pub put : CellPut
  pub put_is : slice_get puts place ≡ Some put
  pub value : ℕ
  pub value_is : slice_get was place ≡ Some value
  pub fits : value < 2 ^ put.cell.width
  pub taken : IsPut put.cell value now before

-- the first so many of them are taken back, the last one first
abbrev pub LeadsBack : List CellPut → List ℕ → ℕ → List ℕ → List ℕ → Type 0
LeadsBack puts was zero now first = now ≡ first
LeadsBack puts was (suc place) now first =
    (before : List ℕ) × IsTakenBack puts was place now before
    × LeadsBack puts was place before first

-- between two writes of a group: the model is that of the image, where it was changed with it
pub record IsBetween (spec : Spec) (layout : Layout) (resolved : List Resolved) (bytes : List ℕ)
    (view : ModelView) (changed : Bool) : Type 0 where
  pub image : IsImageOf spec layout bytes
  pub rules : AreResolved spec layout resolved
  pub prepared : IsPreparedFor spec layout view
  pub model : changed ≡ true → IsModelOf spec layout bytes view
