-- The text of a verdict, violated binding by binding.
use Rattle.std.proofs.Common.{◌≡◌, ℕ, ◌<◌, List, [], ◌∷◌, ◌++◌, length, map, refl, arith}
use Rattle.std.specs.List.{flat_map}
use Rattle.std.specs.Prelude.{codes, decimal}
use Rattle.std.proofs.lemmas.List.{length-map}
use Rattle.dsr_ir.specs.declared.declarations.Spec.{Spec}
use Rattle.dsr_ir.specs.declared.tuples.Binding.{Binding}
use Rattle.dsr_answers.specs.Texts.{verdict_answer, violation_line}
use Rattle.dsr_script.specs.Scripts.{Answer}
use Rattle.dsr_script.specs.declared.status.Verdict.TheVariants.{Inconsistent}
use Rattle.dsr_meaning.specs.Consistency.{bound_constraint}

abbrev pub inconsistent : List ℕ → Answer
inconsistent text = record { verdict = Inconsistent; text = text }

-- the lines of violated bindings, and their number
abbrev pub violated_text : Spec → List (ℕ × Binding) → List ℕ
violated_text spec vs =
    flat_map (violation_line spec) (map bound_constraint vs)
    ++ codes "inconsistent " ++ decimal (length vs) ++ codes "\n"

-- it is the text of the verdict where there are some
pub some_violated :
    (spec : Spec) (vs : List (ℕ × Binding)) (text : List ℕ)
    → 0 < length vs → text ≡ violated_text spec vs
    → inconsistent text ≡ verdict_answer spec (map bound_constraint vs)
some_violated spec [] text some is = absurd (omega arith)
some_violated spec (v ∷ vs) text some is = rw (is, length-map vs bound_constraint) refl
