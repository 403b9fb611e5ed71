-- What comes of opening an image for edits.
use Rattle.std.specs.Prelude.{◌≡◌, ◌≢◌, ℕ, List, [], Some}
use Rattle.dsr_answers.specs.Texts.{layout_answer, verdict_answer}
use Rattle.dsr_ir.specs.declared.declarations.Spec.{Spec}
use Rattle.dsr_ir.specs.declared.layouts.Layout.{Layout}
use Rattle.dsr_meaning.specs.Consistency.{AreViolations, BoundConstraint, IsConsistent}
use Rattle.dsr_meaning.specs.Models.{IsFact}
use Rattle.dsr_meaning.specs.Refusals.{IsLayoutOf, Refusal, first_of, refusals}
use Rattle.dsr_script.specs.Scripts.{Answer}
use Rattle.dsr_step_theory.specs.Images.{IsImageOf}

-- the layout is that of the image, which is consistent
pub record IsOpen (spec : Spec) (layout : Layout) (image : List ℕ) : Type 0 where
  pub image_of : IsImageOf spec layout image
  pub consistent : IsConsistent spec layout image

-- the image may be edited, or this is told
pub data Opening : Type 0 where
  Opens : Opening
  Refuses : (answer : Answer) → Opening

-- The image has no layout, and the first reason is told; or it isn't consistent, and exactly its
-- violated bindings are told; or it may be edited. The answers are those of a check.
pub data IsOpening (spec : Spec) (image : List ℕ) : Opening → Type 0 where
  unlaid :
      (refusal : Refusal) → first_of (refusals spec image) ≡ Some refusal
      → IsOpening spec image (Refuses (layout_answer spec refusal))
  inconsistent :
      (layout : Layout) (vs : List BoundConstraint) → IsLayoutOf spec image layout
      → AreViolations (IsFact spec layout image) spec vs → vs ≢ []
      → IsOpening spec image (Refuses (verdict_answer spec vs))
  open_to : (layout : Layout) → IsOpen spec layout image → IsOpening spec image Opens
