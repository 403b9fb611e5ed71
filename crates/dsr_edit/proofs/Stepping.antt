-- One write as a step: the image that it leaves, and the model.
use Rattle.std.proofs.Common.{◌<◌, ◌^◌, ℕ, List, [], ◌∷◌}
use Rattle.dsr_edit.proofs.Entries.{cell_in}
use Rattle.dsr_edit.proofs.Made.{image_stays, layout_laid_out}
use Rattle.dsr_edit.proofs.Untouched.{put_leaves}
use Rattle.dsr_edit.specs.Edits.{MayWrite}
use Rattle.dsr_edit.specs.Edits.AreMade.{done, made}
use Rattle.dsr_edit.specs.Updates.{IsReady, IsStepOf}
use Rattle.dsr_edit.specs.declared.groups.CellWrite.{CellWrite}
use Rattle.dsr_edit.specs.declared.updates.CellPut.{CellPut}
use Rattle.dsr_fixpoint.specs.Models.{IsLaidOut, IsModelOf}
use Rattle.dsr_fixpoint.specs.Patches.{WasModelOf}
use Rattle.dsr_fixpoint.specs.Showing.{IsShownLeaf}
use Rattle.dsr_given.specs.Gifts.{given_of}
use Rattle.dsr_ir.specs.declared.declarations.Spec.{Spec}
use Rattle.dsr_ir.specs.declared.layouts.Cell.{Cell}
use Rattle.dsr_ir.specs.declared.layouts.Layout.{Layout}
use Rattle.dsr_leaf_laws.proofs.Patch.{shown}
use Rattle.dsr_leaf_laws.specs.Touched.{touching}
use Rattle.dsr_meaning.specs.Cells.{IsCellOf}
use Rattle.dsr_model.specs.Views.{ModelView}
use Rattle.dsr_step_theory.specs.Images.{IsImageOf}
use Rattle.dsr_step_theory.specs.Puts.{IsPut}
use Rattle.dsr_step_theory.specs.declared.steps.Step.{Step}

-- the write with another value
abbrev valued : CellWrite → ℕ → CellWrite
valued write value = record { elem = write.elem; field = write.field; index = write.index; value = value }

module _ (spec : Spec) (layout : Layout) (write : CellWrite) (cell : Cell) (may : MayWrite spec layout write cell) where
  -- another value that fits can be written too
  valued_may : (value : ℕ) → value < 2 ^ cell.width → MayWrite spec layout (valued write value) cell
  valued_may value fits = record {
    field = may.field;
    names = record {
      is_field = may.names.is_field;
      slot_below = may.names.slot_below;
      place = may.names.place;
      entry = record { indexed = may.names.entry.indexed; place_is = may.names.entry.place_is; index_below = may.names.entry.index_below };
      cell_is = may.names.cell_is;
    };
    free = may.free;
    fits = fits;
  }

pub cell_there : (spec : Spec) (layout : Layout) (bytes : List ℕ) (put : CellPut) → IsImageOf spec layout bytes → IsReady spec layout put → IsCellOf bytes put.cell
cell_there spec layout bytes put image ready = cell_in spec bytes layout image.layout_is image.typed (layout_laid_out spec layout bytes image).legal put.write put.cell ready.may

module _ (spec : Spec) (layout : Layout) (old new : List ℕ) (image : IsImageOf spec layout old) (put : CellPut) (ready : IsReady spec layout put) (value : ℕ) (fits : value < 2 ^ put.cell.width) (one : IsPut put.cell value old new) where
  may : MayWrite spec layout (valued put.write value) put.cell
  may = valued_may spec layout put.write put.cell ready.may value fits

  pub image_after : IsImageOf spec layout new
  image_after = image_stays spec layout old new image (valued put.write value ∷ []) (made (valued put.write value) put.cell may one done)

  pub laid_out_after : IsLaidOut spec layout new
  laid_out_after = layout_laid_out spec layout new image_after

  -- the model is that of the bytes before, by which nothing else was moved than what is touched
  pub was_model : (model : ModelView) (step : Step) → IsStepOf put.write step → IsModelOf spec layout old model → IsShownLeaf spec layout put.update step new model → WasModelOf spec layout put.update step new model
  was_model model step is was leaf = record {
    old = old;
    was = was;
    left = put_leaves spec layout old new image (valued put.write value) put.cell may one put.update ready.update step (record { elem = is.elem; index = is.index; fresh = is.fresh });
    keeps = shown (touching spec put.update) layout step old new (given_of model.given) was.given leaf.shows;
  }
