-- How many meanings texts have.
use Rattle.std.specs.Prelude.{◌≡◌, ℕ, List}
use Rattle.dsr_answers.specs.Refused.{IsMeaning, IsRefused}
use Rattle.dsr_compile.specs.Readings.{Interpretation, IsInterpretation}
use Rattle.dsr_script.specs.Scripts.{Answer}
use Rattle.dsr_syntax_theory.specs.Parsing.{IsTreeOf}
use Rattle.dsr_tree.specs.Trees.{TreeShape}

-- a text has one tree at most, and where it means something no answer refuses it
pub record HaveOneMeaning : Type 0 where
  pub unique :
      (text : List ℕ) (tree other : TreeShape) → IsTreeOf text tree → IsTreeOf text other → tree ≡ other
  pub not_refused :
      (text : List ℕ) (tree : TreeShape) (answer : Answer) → IsMeaning text tree → IsRefused text answer → ⊥

-- no two answers refuse one text
abbrev pub HaveOneRefusal : Type 0
HaveOneRefusal =
    (text : List ℕ) (answer other : Answer) → IsRefused text answer → IsRefused text other → answer ≡ other

-- one thing alone is read of a text: what it means, or the answer that refuses it
abbrev pub HaveOneReading : Type 0
HaveOneReading =
    (text : List ℕ) (found other : Interpretation) → IsInterpretation text found → IsInterpretation text other → found ≡ other
