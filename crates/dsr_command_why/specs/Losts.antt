-- The records that no set has, as they are answered.
use Rattle.std.specs.Prelude.{◌≡◌, ◌++◌, ℕ, List, Some, length, codes, decimal}
use Rattle.std.specs.List.{flat_map}
use Rattle.dsr_answers.specs.Texts.{element_text, layout_answer}
use Rattle.dsr_ir.specs.declared.declarations.Spec.{Spec}
use Rattle.dsr_ir.specs.declared.layouts.Layout.{Layout}
use Rattle.dsr_ir.specs.declared.tuples.Element.{Element}
use Rattle.dsr_lost.specs.Lost.{AreLost}
use Rattle.dsr_meaning.specs.Refusals.{IsLayoutOf, Refusal, first_of, refusals}
use Rattle.dsr_script.specs.Scripts.{Answer}
use Rattle.dsr_script.specs.declared.status.Verdict.TheVariants as verdicts

abbrev pub lost_line : Spec → Element → List ℕ
lost_line spec e = codes "lost " ++ element_text spec e ++ codes "\n"

-- a line for each, and their number
abbrev pub lost_answer : Spec → List Element → Answer
lost_answer spec es = record {
  verdict = verdicts.Ok;
  text = flat_map (lost_line spec) es ++ codes "lost " ++ decimal (length es) ++ codes "\n";
}

-- the image has no layout, and the first reason is told; or all lost records are told
pub data IsLostAnswer (spec : Spec) (image : List ℕ) : Answer → Type 0 where
  unlaid :
      (refusal : Refusal) → first_of (refusals spec image) ≡ Some refusal
      → IsLostAnswer spec image (layout_answer spec refusal)
  listed :
      (layout : Layout) (es : List Element) → IsLayoutOf spec image layout
      → AreLost spec layout image es → IsLostAnswer spec image (lost_answer spec es)
