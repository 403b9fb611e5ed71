-- What is read of a text: what it means, or why it means nothing.
use Rattle.std.specs.Prelude.{◌≡◌, ℕ, List}
use Rattle.dsr_answers.specs.Refused.{IsMeaning, IsRefused}
use Rattle.dsr_ir.specs.declared.declarations.Spec.{Spec}
use Rattle.dsr_meaning.specs.Typed.{IsTyped}
use Rattle.dsr_script.specs.Moves.{shown}
use Rattle.dsr_script.specs.Scripts.{Answer}
use Rattle.dsr_tree.specs.Trees.{TreeShape, tree_shape}
use Rattle.dsr_language_theory.specs.Specifications.{specification}
use Rattle.dsr_compile.specs.declared.readings.Reading.{Reading}
use Rattle.dsr_compile.specs.declared.readings.Reading.TheVariants as readings

-- a text means a specification, by this tree; or it is refused by this answer
pub data Interpretation : Type 0 where
  Means : (tree : TreeShape) → Interpretation
  Refused : (answer : Answer) → Interpretation

abbrev pub IsInterpretation : List ℕ → Interpretation → Type 0
IsInterpretation text (Means tree) = IsMeaning text tree
IsInterpretation text (Refused answer) = IsRefused text answer

-- the specification is that of the tree
pub record IsSpecOf (tree : TreeShape) (spec : Spec) : Type 0 where
  pub is : spec ≡ specification tree
  pub typed : IsTyped spec

-- what was read is so of the text
abbrev pub IsReadingOf : List ℕ → Reading → Type 0
IsReadingOf text (readings.Means tree spec) =
    IsMeaning text (tree_shape tree) × IsSpecOf (tree_shape tree) spec
IsReadingOf text (readings.Refused told) = IsRefused text (shown told)
