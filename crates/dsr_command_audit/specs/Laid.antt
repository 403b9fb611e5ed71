-- The layout of an image, or the answer that it has none.
use Rattle.std.specs.Prelude.{◌≡◌, ℕ, List, Some}
use Rattle.dsr_answers.specs.Texts.{layout_answer}
use Rattle.dsr_command_audit.specs.declared.layouts.Laid.{Laid}
use Rattle.dsr_command_audit.specs.declared.layouts.Laid.TheVariants as laid
use Rattle.dsr_ir.specs.declared.declarations.Spec.{Spec}
use Rattle.dsr_ir.specs.declared.layouts.Layout.{Layout}
use Rattle.dsr_meaning.specs.Refusals.{Refusal, first_of, refusals}
use Rattle.dsr_script.specs.Moves.{shown}
use Rattle.dsr_script.specs.Scripts.{Answer}
use Rattle.dsr_step_theory.specs.Images.{IsImageOf}

-- a layout, or an answer
pub data Found : Type 0 where
  Lies : (layout : Layout) → Found
  Refused : (answer : Answer) → Found

-- the image has this layout; or it has none, and the first reason is told
pub data IsFound (spec : Spec) (image : List ℕ) : Found → Type 0 where
  lies : (layout : Layout) → IsImageOf spec layout image → IsFound spec image (Lies layout)
  refused :
      (refusal : Refusal) → first_of (refusals spec image) ≡ Some refusal
      → IsFound spec image (Refused (layout_answer spec refusal))

-- what the program's value says
abbrev pub found_of : Laid → Found
found_of (laid.Layout layout) = Lies layout
found_of (laid.Refused told) = Refused (shown told)
