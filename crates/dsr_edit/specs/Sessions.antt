-- What a session keeps.
use Rattle.std.specs.Prelude.{ℕ, List}
use Rattle.dsr_edit.specs.declared.session.Paused.{Paused}
use Rattle.dsr_fixpoint.specs.Models.{IsModelOf, IsPreparedFor}
use Rattle.dsr_ir.specs.declared.declarations.Spec.{Spec}
use Rattle.dsr_ir.specs.declared.layouts.Layout.{Layout}
use Rattle.dsr_meaning.specs.Consistency.{IsConsistent}
use Rattle.dsr_model.specs.Views.{ModelView}
use Rattle.dsr_resolve.specs.Rules.{AreResolved}
use Rattle.dsr_resolve.specs.declared.resolved.Resolved.{Resolved}
use Rattle.dsr_step_theory.specs.Images.{IsImageOf}

-- the image is consistent, and the model is its own
pub record IsSession (spec : Spec) (layout : Layout) (resolved : List Resolved) (bytes : List ℕ)
    (view : ModelView) : Type 0 where
  pub image : IsImageOf spec layout bytes
  pub consistent : IsConsistent spec layout bytes
  pub rules : AreResolved spec layout resolved
  pub prepared : IsPreparedFor spec layout view
  pub model : IsModelOf spec layout bytes view

-- what was put aside is all that a session of this specification and layout has
abbrev pub IsPaused : Spec → Layout → Paused → Type 0
IsPaused spec layout paused = IsSession spec layout paused.rules paused.image paused.model
