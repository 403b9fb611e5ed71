-- What a text means, and why it means nothing: one list of refusals, from syntax to constraints.
use Rattle.std.specs.Prelude.{◌≡◌, ℕ, List, [], ◌++◌, codes, decimal}
use Rattle.dsr_script.specs.Scripts.{Answer}
use Rattle.dsr_script.specs.declared.status.Verdict.TheVariants as verdicts
use Rattle.dsr_language_theory.specs.Faults.{IsToldOf}
use Rattle.dsr_syntax_theory.specs.Parsing.{IsTreeOf}
use Rattle.dsr_syntax_theory.specs.Sentences.{IsNoToken, IsPastLimit, IsUnexpected}
use Rattle.dsr_tree.specs.Faults.{kind_number}
use Rattle.dsr_tree.specs.Trees.{TreeShape}
use Rattle.dsr_tree.specs.declared.faults.Condition.{Condition}
use Rattle.dsr_language_theory.specs.Specifications.{specification_faults}

-- the text has this tree, which means a specification
pub record IsMeaning (text : List ℕ) (tree : TreeShape) : Type 0 where
  pub is_tree : IsTreeOf text tree
  pub no_fault : specification_faults tree ≡ []

-- a refusal at a place of the text, with its kind: by the syntax, or by what is meant
abbrev pub refused_at : List ℕ → ℕ → ℕ → Answer
refused_at by kind place = record {
  verdict = verdicts.SpecRefused;
  text = by ++ decimal kind ++ codes " " ++ decimal place ++ codes "\n";
}

abbrev pub syntax_answer : ℕ → ℕ → Answer
syntax_answer kind place = refused_at (codes "syntax ") kind place

abbrev pub meaning_answer : ℕ → ℕ → Answer
meaning_answer kind place = refused_at (codes "spec ") kind place

-- the answer to a text that means no specification
pub data IsRefused (text : List ℕ) : Answer → Type 0 where
  no_token : (place : ℕ) → IsNoToken text place → IsRefused text (syntax_answer 1 place)
  unexpected : (place : ℕ) → IsUnexpected text place → IsRefused text (syntax_answer 2 place)
  past_limit : (place : ℕ) → IsPastLimit text place → IsRefused text (syntax_answer 3 place)
  no_meaning :
      (tree : TreeShape) (condition : Condition) (place : ℕ) → IsTreeOf text tree
      → IsToldOf (specification_faults tree) (record { place = place; condition = condition })
      → IsRefused text (meaning_answer (kind_number condition) place)
