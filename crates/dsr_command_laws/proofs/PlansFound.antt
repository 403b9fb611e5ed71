-- A run that speaks has looked for the plan that it was asked for.
use Rattle.std.proofs.Common.{◌≡◌, ◌≢◌, ℕ, List, Some, sym, ap, subst, ◌∙◌, inl, inr}
use Rattle.dsr_command_laws.proofs.Tellings.{Speaks, means_same, meant, never_refused, read_told, refused_verdict, spoken}
use Rattle.dsr_command_theory.specs.Commands.{asked, script_of}
use Rattle.dsr_words.specs.Words.{Plan, command_of}
use Rattle.dsr_ir.specs.declared.declarations.Spec.{Spec}
use Rattle.dsr_compile_laws.specs.Meanings.{HaveOneMeaning}
use Rattle.dsr_command_plan.specs.Planned as planned
use Rattle.dsr_command_plan.specs.Planned.{IsPlanAnswer, answer_of}
use Rattle.dsr_command_plan.specs.declared.plans.Found as plans
use Rattle.dsr_command_plan.specs.declared.plans.Found.TheVariants as plan_found
use Rattle.dsr_script.specs.Outside.{Outside}
use Rattle.dsr_script.specs.Runs.{Runs}
use Rattle.dsr_script.specs.Scripts.{Answer}
use Rattle.dsr_script.specs.declared.status.Status.{Status}
use Rattle.dsr_script.specs.declared.status.Status.TheVariants.{Said}
use Rattle.dsr_script.specs.declared.status.Verdict.{Verdict}
use Rattle.dsr_script.specs.declared.status.Verdict.TheVariants as verdicts
use Rattle.dsr_store.specs.Files.{Files}
use Rattle.dsr_store.specs.Written.{appended}
use Rattle.dsr_tree.specs.Trees.{TreeShape}
use Rattle.dsr_language_theory.specs.Specifications.{specification}
use Rattle.dsr_command_laws.specs.PlanHeadlines.{FindsNothingElse, FindsPlans, IsPlanVerdict, WasPlanned}

-- what `plan` tells
abbrev IsPlanOf : TreeShape → Answer → Type 0
IsPlanOf tree answer = IsPlanAnswer (specification tree) answer

-- the verdict on a specification
module _ (before after : Outside) (verdict : Verdict) (spec : Spec) where
  by_found : (found : plans.Found) → planned.IsFound spec found → (answer : Answer) → answer ≡ answer_of spec found
      → Speaks before after verdict answer → IsPlanVerdict spec before after verdict
  by_found (plan_found.Plan choice) is answer told speaks =
      let says : verdict ≡ verdicts.Ok = speaks.says ∙ ap (λ a. a.verdict) told in
      record {
        found = plan_found.Plan choice;
        is = is;
        told = speaks.put ∙ ap (λ a. appended before.output.written a.text) told;
        ok = (λ _. (choice, is.plan), λ _. says);
        refused = (λ e. let wrong : verdicts.Ok ≡ verdicts.PlanRefused = sym says ∙ e in absurd cc, λ none. absurd (none choice is.plan));
      }
  by_found (plan_found.Stuck set) is answer told speaks =
      let says : verdict ≡ verdicts.PlanRefused = speaks.says ∙ ap (λ a. a.verdict) told in
      record {
        found = plan_found.Stuck set;
        is = is;
        told = speaks.put ∙ ap (λ a. appended before.output.written a.text) told;
        ok = (λ e. let wrong : verdicts.PlanRefused ≡ verdicts.Ok = sym says ∙ e in absurd cc, λ has. absurd (is.1 has.0 has.1));
        refused = (λ _. is.1, λ _. says);
      }

  plan_verdict : (answer : Answer) → IsPlanAnswer spec answer → Speaks before after verdict answer
      → IsPlanVerdict spec before after verdict
  plan_verdict answer its speaks = by_found its.found its.is answer its.told speaks

module _ (once : HaveOneMeaning) (words : List (List ℕ)) (before after : Outside) (status : Status) (runs : Runs (asked words) before after status) where
  pub finds_plans : FindsPlans words before after status
  finds_plans files spec verdict held said is =
      let run = spoken words before after verdict (subst (Runs (asked words) before after) said runs) in
      let script = subst (λ o. script_of o run.came run.next) is.asked run.script in
      elim (read_told before after files held verdict IsPlanOf is.spec_name run.came run.next script run.loaded run.ends) [
        | inl refused_run ↦ absurd (never_refused once files is.spec_name is.text spec is.file is.means before after verdict refused_run)
        | inr told_run ↦
            let read = told_run.read in
            let meaning : specification read.tree ≡ spec = means_same once files is.spec_name is.text spec is.file is.means read in
            plan_verdict before after verdict spec told_run.answer (subst (λ s. IsPlanAnswer s told_run.answer) meaning told_run.fits) told_run.speaks
      ]

  was_planned : (files : Files) (spec_name : List ℕ) (verdict : Verdict) → before.held ≡ Some files
      → command_of words ≡ Some (Plan spec_name) → status ≡ Said verdict
      → verdict ≢ verdicts.SpecRefused → WasPlanned files words before after verdict
  was_planned files spec_name verdict held call said accepted =
      let run = spoken words before after verdict (subst (Runs (asked words) before after) said runs) in
      let script = subst (λ o. script_of o run.came run.next) call run.script in
      elim (read_told before after files held verdict IsPlanOf spec_name run.came run.next script run.loaded run.ends) [
        | inl refused_run ↦ absurd (accepted (refused_verdict before after files spec_name verdict refused_run))
        | inr told_run ↦ (
          specification told_run.read.tree,
          record {
            spec_name = spec_name;
            asked = call;
            text = told_run.read.text;
            file = told_run.read.file;
            short_text = told_run.read.short;
            means = meant files spec_name told_run.read;
          },
          plan_verdict before after verdict (specification told_run.read.tree) told_run.answer told_run.fits told_run.speaks,
        )
      ]

  pub finds_nothing_else : FindsNothingElse words before after status
  finds_nothing_else files spec_name held call = (
    λ said. was_planned files spec_name verdicts.Ok held call said (λ e. cc),
    λ said. was_planned files spec_name verdicts.PlanRefused held call said (λ e. cc),
  )
