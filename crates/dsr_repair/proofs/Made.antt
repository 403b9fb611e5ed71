-- The step that is made of what was chosen.
use Rattle.std.proofs.Common.{ℕ, List, Option, sym, subst}
use Rattle.dsr_repair_theory.specs.Choices.{IsEntryAt, IsFresh, IsNumberFor, IsPlace, IsUpdateAt}
use Rattle.dsr_repair.proofs.Same.{fresh_or_none, number_same}
use Rattle.dsr_repair.specs.Chosen.{IsChosenFor, IsDueOf, IsStepFor}
use Rattle.dsr_repair.specs.declared.dues.Chosen.{Chosen}
use Rattle.dsr_repair.specs.declared.dues.DueLiteral.{DueLiteral}
use Rattle.dsr_ir.specs.declared.declarations.Spec.{Spec}
use Rattle.dsr_ir.specs.declared.layouts.Layout.{Layout}
use Rattle.dsr_ir.specs.declared.tuples.Element.{Element}
use Rattle.dsr_ir.specs.declared.tuples.Fact.{Fact}
use Rattle.dsr_ir.specs.declared.updates.Update.{Update}
use Rattle.dsr_meaning.specs.Models.{IsFact}
use Rattle.dsr_plan_theory.specs.declared.choices.Choice.{Choice}
use Rattle.dsr_repair_theory.specs.Due.{IsDue}
use Rattle.dsr_repair_theory.specs.Turns.{IsDueStep, bound_by}
use Rattle.dsr_fixpoint.proofs.SameFacts.{AreSame}
use Rattle.dsr_step_theory.specs.declared.steps.Step.{Step}

module _ (P : Fact → Type 0) (spec : Spec) (choice : Choice) (layout : Layout) (bytes : List ℕ)
    (same : AreSame P (IsFact spec layout bytes)) (due : DueLiteral) (chosen : Chosen) (fresh : Option Element) (step : Step)
    (is : IsStepFor P due chosen fresh step) where
  abbrev F : Fact → Type 0
  F = IsFact spec layout bytes

  due_again : IsDueOf F spec choice due
      → IsDue F spec choice (bound_by step) step.conj step.literal due.repaired.literal.now due.repaired.template.now
  due_again first =
      let a = subst (λ n. IsDue F spec choice (record { constraint = n; binding = due.binding }) due.conj due.repaired.place due.repaired.literal.now due.repaired.template.now) (sym is.constraint) first in
      let b = subst (λ x. IsDue F spec choice (record { constraint = step.constraint; binding = x }) due.conj due.repaired.place due.repaired.literal.now due.repaired.template.now) (sym is.binding) a in
      let d = subst (λ n. IsDue F spec choice (bound_by step) n due.repaired.place due.repaired.literal.now due.repaired.template.now) (sym is.conj) b in
      subst (λ n. IsDue F spec choice (bound_by step) step.conj n due.repaired.literal.now due.repaired.template.now) (sym is.literal) d

  chosen_again : IsChosenFor spec layout bytes due chosen
      → IsUpdateAt spec layout bytes step.binding due.repaired.literal.now.atom due.repaired.template.now step.update chosen.update.now chosen.stopped
  chosen_again first =
      let a = subst (λ x. IsUpdateAt spec layout bytes x due.repaired.literal.now.atom due.repaired.template.now chosen.place chosen.update.now chosen.stopped) (sym is.binding) first in
      subst (λ n. IsUpdateAt spec layout bytes step.binding due.repaired.literal.now.atom due.repaired.template.now n chosen.update.now chosen.stopped) (sym is.update) a

  pub step_due : IsDueOf F spec choice due → IsChosenFor spec layout bytes due chosen
      → IsFresh P spec layout chosen.update.now.fresh fresh → (update : Update) × IsDueStep spec choice layout bytes step update
  step_due first by supplied = (
    chosen.update.now,
    record {
      literal = due.repaired.literal.now;
      template = due.repaired.template.now;
      due = due_again first;
      chosen = record {
        stopped = chosen.stopped;
        update_is = chosen_again by;
        rule = is.rule;
        place = subst (λ x. IsPlace x chosen.stopped chosen.update.now.place step.elem) (sym is.binding) is.place;
        entry = subst (λ x. IsEntryAt x chosen.stopped chosen.update.now.at step.index) (sym is.binding) is.entry;
        number = subst (λ x. IsNumberFor F x chosen.update.now.writes step.number) (sym is.binding)
            (number_same P F same due.binding chosen.update.now.writes step.number is.number);
        fresh = subst (λ f. IsFresh F spec layout chosen.update.now.fresh f) (sym is.fresh_is)
            (fresh_or_none P F same spec layout chosen.update.now.fresh fresh supplied);
      };
    },
  )
