-- What is told of a fault refuses each text that has it.
use Rattle.std.proofs.Common.{◌≡◌, ℕ, List, Result, sym, subst}
use Rattle.std.specs.Prelude.{IfOk}
use Rattle.std.proofs.lemmas.Result.{IfOk-weaker}
use Rattle.dsr_answers.specs.Refused.{IsRefused, meaning_answer, no_meaning}
use Rattle.dsr_names.specs.FaultsTold.{Tells}
use Rattle.dsr_names.specs.declared.refusals.SpecFault.{SpecFault}
use Rattle.dsr_names.specs.declared.refusals.SpecFault.TheVariants.{At}
use Rattle.dsr_ir.specs.declared.memory.NoMemory.{NoMemory}
use Rattle.dsr_script.specs.Moves.{shown}
use Rattle.dsr_script.specs.Scripts.{Answer}
use Rattle.dsr_script.specs.declared.moves.Told.{Told}
use Rattle.dsr_syntax_theory.specs.Parsing.{IsTreeOf}
use Rattle.dsr_tree.specs.Trees.{TreeShape}
use Rattle.dsr_language_theory.specs.Specifications.{specification_faults}

-- what holds of an answer holds of a result that shows it
pub told_is :
    (P : Answer → Type 0) (r : Result Told NoMemory) (a : Answer)
    → IfOk r (λ told. shown told ≡ a) → P a → IfOk r (λ told. P (shown told))
told_is P r a same holds = IfOk-weaker r _ _ (λ told e. subst P (sym e) holds) same

-- the answer refuses each text of a tree whose faults are told so
abbrev pub RefusesMeaning : SpecFault → Answer → Type 0
RefusesMeaning fault a =
    (text : List ℕ) (tree : TreeShape) → IsTreeOf text tree
    → Tells (specification_faults tree) fault → IsRefused text a

pub meaning_refuses : (kind place : ℕ) → RefusesMeaning (At kind place) (meaning_answer kind place)
meaning_refuses kind place text tree is told =
    subst (λ k. IsRefused text (meaning_answer k place)) (sym told.1)
    (no_meaning tree told.0 place is told.2)
