-- What is answered about an image under a specification.
use Rattle.std.specs.Prelude.{◌≡◌, ℕ, List, Some}
use Rattle.dsr_answers.specs.Texts.{layout_answer, verdict_answer}
use Rattle.dsr_ir.specs.declared.declarations.Spec.{Spec}
use Rattle.dsr_ir.specs.declared.layouts.Layout.{Layout}
use Rattle.dsr_meaning.specs.Consistency.{AreViolations, BoundConstraint}
use Rattle.dsr_meaning.specs.Models.{IsFact}
use Rattle.dsr_meaning.specs.Refusals.{IsLayoutOf, Refusal, first_of, refusals}
use Rattle.dsr_script.specs.Scripts.{Answer}

-- the image has no layout, and the first reason is told; or it has one, and exactly the violated
-- bindings are told
pub data IsCheckAnswer (spec : Spec) (image : List ℕ) : Answer → Type 0 where
  refused : (refusal : Refusal) → first_of (refusals spec image) ≡ Some refusal
      → IsCheckAnswer spec image (layout_answer spec refusal)
  checked : (layout : Layout) (vs : List BoundConstraint) → IsLayoutOf spec image layout
      → AreViolations (IsFact spec layout image) spec vs
      → IsCheckAnswer spec image (verdict_answer spec vs)
