-- For each of the nine constraints an update that is applied.
use Rattle.std.proofs.Common.{◌≡◌, ℕ, List, [], ◌∷◌, Some, refl, subst, arith}
use Rattle.dsr_ir.specs.declared.constraints.Literal.{Literal}
use Rattle.dsr_ir.specs.declared.updates.Goal.TheVariants.{AddSet, RemoveSet, AddTuple, RemoveTuple, SetValue, Trim, Supply, ExactlyOne}
use Rattle.dsr_ir.specs.declared.updates.Template.{Template}
use Rattle.dsr_ir.specs.declared.updates.Update.{Update}
use Rattle.dsr_meaning.specs.Consistency.{IsViolated}
use Rattle.dsr_meaning.specs.Counting.{IsIn}
use Rattle.dsr_step_theory.specs.Steps.{IsStepped}
use Rattle.dsr_step_theory.specs.declared.steps.Step.{Step}
use Rattle.dsr_update_theory.specs.Facts.{from}
use Rattle.dsr_update_theory.specs.Templates.{literal_at}
use Rattle.dsr_repair_theory.specs.Applications.{FactsHold, IsApplied}
use Rattle.dsr_repair_theory.specs.Choices.{IsChosen}
use Rattle.dsr_step_laws.proofs.Choosing.{chosen_0, chosen_1, chosen_2, chosen_3, chosen_4, chosen_5, chosen_6, chosen_7, chosen_8, step_0, step_1, step_2, step_3, step_4, step_5, step_6, step_7, step_8}
use Rattle.dsr_step_laws.proofs.Given.{example, image, layout}
use Rattle.dsr_step_laws.proofs.Placed.{placed}
use Rattle.dsr_step_laws.proofs.Putting.{bytes_of_image}
use Rattle.dsr_step_laws.proofs.Stepping.{joined, parted, stepped_0, stepped_1, stepped_2, stepped_3, stepped_4, stepped_5, stepped_6, stepped_7, stepped_8, supplied, trimmed, unmarked, valued}
use Rattle.dsr_step_laws.proofs.Tried.{assign, clear, cut, fill, join, mark, supply, template_of, unmark}
use Rattle.dsr_step_laws.proofs.Typed.{typed}
use Rattle.dsr_step_laws.proofs.Violated.{IsFalseNow, IsTrueNow, false_0, false_1, false_2, false_3, false_4, false_5, false_6, false_7, false_8, literal_0, literal_1, literal_2, literal_3, literal_4, literal_5, literal_6, literal_7, literal_8, violated_0, violated_1, violated_2, violated_3, violated_4, violated_5, violated_6, violated_7, violated_8}

-- a constraint that uses no facts of others asks for nothing of them
pub no_facts : (constraint : ℕ) → from example constraint ≡ [] → FactsHold example layout image constraint
no_facts constraint none giver b among bad = subst (IsIn giver) none among

-- what all examples have in common
abbrev pub applied : (template : Template) (update : Update) (step : Step) (new : List ℕ) (literal : Literal)
    → (violated : IsViolated IsTrueNow example (record { constraint = step.constraint; binding = step.binding }))
    → from example step.constraint ≡ [] → literal_at violated.constraint step.conj step.literal ≡ Some literal
    → IsFalseNow step.binding literal → IsChosen example layout image literal.atom template step update
    → IsStepped example layout step update image new → IsApplied example template update layout step image new
applied template update step new literal violated none literal_is is_false chosen stepped = record {
  image = record { typed = typed; bytes = bytes_of_image; layout_is = placed; small = omega arith };
  violated = violated;
  facts_hold = no_facts step.constraint none;
  literal = literal;
  literal_is = literal_is;
  is_false = is_false;
  chosen = chosen;
  stepped = stepped;
}

-- ---- by the numbers of the constraints

abbrev pub applied_0 : IsApplied example (template_of AddSet (mark ∷ [])) mark layout step_0 image valued
applied_0 = applied (template_of AddSet (mark ∷ [])) mark step_0 valued literal_0 violated_0 refl refl false_0 chosen_0 stepped_0

abbrev pub applied_1 : IsApplied example (template_of AddTuple (join ∷ [])) join layout step_1 image joined
applied_1 = applied (template_of AddTuple (join ∷ [])) join step_1 joined literal_1 violated_1 refl refl false_1 chosen_1 stepped_1

abbrev pub applied_2 : IsApplied example (template_of RemoveTuple (cut ∷ [])) cut layout step_2 image parted
applied_2 = applied (template_of RemoveTuple (cut ∷ [])) cut step_2 parted literal_2 violated_2 refl refl false_2 chosen_2 stepped_2

abbrev pub applied_3 : IsApplied example (template_of SetValue (assign ∷ [])) assign layout step_3 image valued
applied_3 = applied (template_of SetValue (assign ∷ [])) assign step_3 valued literal_3 violated_3 refl refl false_3 chosen_3 stepped_3

abbrev pub applied_4 : IsApplied example (template_of Trim (clear 0 ∷ clear 1 ∷ [])) (clear 1) layout step_4 image trimmed
applied_4 = applied (template_of Trim (clear 0 ∷ clear 1 ∷ [])) (clear 1) step_4 trimmed literal_4 violated_4 refl refl false_4 chosen_4 stepped_4

abbrev pub applied_5 : IsApplied example (template_of Supply (supply ∷ [])) supply layout step_5 image supplied
applied_5 = applied (template_of Supply (supply ∷ [])) supply step_5 supplied literal_5 violated_5 refl refl false_5 chosen_5 stepped_5

abbrev pub applied_6 : IsApplied example (template_of ExactlyOne (supply ∷ cut ∷ [])) supply layout step_6 image supplied
applied_6 = applied (template_of ExactlyOne (supply ∷ cut ∷ [])) supply step_6 supplied literal_6 violated_6 refl refl false_6 chosen_6 stepped_6

abbrev pub applied_7 : IsApplied example (template_of ExactlyOne (fill 0 ∷ clear 0 ∷ clear 1 ∷ [])) (clear 1) layout step_7 image trimmed
applied_7 = applied (template_of ExactlyOne (fill 0 ∷ clear 0 ∷ clear 1 ∷ [])) (clear 1) step_7 trimmed literal_7 violated_7 refl refl false_7 chosen_7 stepped_7

abbrev pub applied_8 : IsApplied example (template_of RemoveSet (unmark ∷ [])) unmark layout step_8 image unmarked
applied_8 = applied (template_of RemoveSet (unmark ∷ [])) unmark step_8 unmarked literal_8 violated_8 refl refl false_8 chosen_8 stepped_8
