-- A run that speaks has certified the plan that it was asked for.
use Rattle.std.proofs.Common.{◌≡◌, ◌≢◌, ◌⊎◌, ℕ, List, [], ◌∷◌, Some, sym, subst, ◌∙◌, inl, inr}
use Rattle.dsr_command_laws.proofs.Tellings.{ReadText, RefusedRun, Speaks, means_same, meant, never_refused, refused_verdict, spoken, text_loaded}
use Rattle.dsr_command_theory.specs.Commands.{asked, certifies, loads_spec, reads, saves_plan, script_of}
use Rattle.dsr_words.specs.Words.{Certify, command_of}
use Rattle.dsr_cert.specs.Certificates.{certificate_text}
use Rattle.dsr_command_certify.specs.Certified.{certified_answer}
use Rattle.dsr_command_certify.specs.Verified.{IsCertificate}
use Rattle.dsr_ir.specs.declared.declarations.Spec.{Spec}
use Rattle.dsr_compile_laws.specs.Meanings.{HaveOneMeaning}
use Rattle.dsr_command_plan.specs.Planned as planned
use Rattle.dsr_command_plan.specs.declared.plans.Found as plans
use Rattle.dsr_command_plan.specs.declared.plans.Found.TheVariants as plan_found
use Rattle.dsr_command_plan.specs.StuckTexts.{refused_answer}
use Rattle.dsr_plan_theory.specs.Taken.{IsTaken}
use Rattle.dsr_plan_theory.specs.declared.choices.Choice.{Choice}
use Rattle.dsr_script.proofs.Laws.{said_at_save, said_at_tell}
use Rattle.dsr_script.specs.Outside.{IsSaved, Outside, Stands}
use Rattle.dsr_script.specs.Runs.{AllLoaded, Ends, Runs}
use Rattle.dsr_script.specs.Scripts.{Came, Next}
use Rattle.dsr_script.specs.declared.status.Status.{Status}
use Rattle.dsr_script.specs.declared.status.Status.TheVariants.{Said}
use Rattle.dsr_script.specs.declared.status.Verdict.{Verdict}
use Rattle.dsr_script.specs.declared.status.Verdict.TheVariants as verdicts
use Rattle.dsr_store.specs.Files.{Files}
use Rattle.dsr_language_theory.specs.Specifications.{IsSpecificationOf, specification}
use Rattle.dsr_command_laws.specs.PlanHeadlines.{CertifiesNothingElse, CertifiesPlans, IsCertifyVerdict, IsToCertify, WasCertified}

-- what `certify` leaves, by what it finds
abbrev pub IsCertifyTold : Spec → List ℕ → Outside → Outside → Verdict → plans.Found → Type 0
IsCertifyTold spec name before after verdict (plan_found.Plan choice) =
    IsSaved before after name (certificate_text spec choice) × Speaks before after verdict (certified_answer choice)
IsCertifyTold spec name before after verdict (plan_found.Stuck set) =
    Stands before after × Speaks before after verdict (refused_answer spec set)

-- a plan was looked for, to certify it
pub record CertifiedRun (before after : Outside) (files : Files) (name certificate : List ℕ) (verdict : Verdict) : Type 0 where
  pub read : ReadText files name
  pub found : plans.Found
  pub is : planned.IsFound (specification read.tree) found
  pub told : IsCertifyTold (specification read.tree) certificate before after verdict found

module _ (before after : Outside) (files : Files) (held : before.held ≡ Some files) (verdict : Verdict) where
  certified_at : (name : List ℕ) (spec : Spec) (found : plans.Found) (more : List Came) (next : Next)
      → certifies name spec found more next → Ends before after (Said verdict) next
      → IsCertifyTold spec name before after verdict found
  certified_at name spec (plan_found.Plan choice) [] next saved ends =
      let told = said_at_save before after verdict name saved.0 saved.1 (subst (Ends before after (Said verdict)) saved.3 ends) in (
        subst (IsSaved before after name) saved.2.0 told.0,
        subst (Speaks before after verdict) saved.2.1 (record { says = told.1.0; put = told.1.1.1 }),
      )
  certified_at name spec (plan_found.Plan choice) (c ∷ more) next saved ends = absurd saved
  certified_at name spec (plan_found.Stuck set) [] next told ends =
      let said = said_at_tell before after verdict told.0 (subst (Ends before after (Said verdict)) told.2 ends) in
      (said.0, subst (Speaks before after verdict) told.1 (record { says = said.1.0; put = said.1.1.1 }))
  certified_at name spec (plan_found.Stuck set) (c ∷ more) next told ends = absurd told

  certify_told : (name certificate : List ℕ) (came : List Came) (next : Next)
      → loads_spec name (λ text. reads text (λ tree. saves_plan certificate (specification tree))) came next
      → AllLoaded before came → Ends before after (Said verdict) next
      → RefusedRun before after files name verdict ⊎ CertifiedRun before after files name certificate verdict
  certify_told name certificate came next script loaded ends =
      elim (text_loaded before after files held verdict (λ tree. saves_plan certificate (specification tree)) name came next script loaded ends) [
        | inl refused_run ↦ inl refused_run
        | inr behind ↦
            let script = behind.script in
            inr (record {
              read = behind.read;
              found = script.0;
              is = script.1;
              told = certified_at certificate (specification behind.read.tree) script.0 behind.more next script.2 ends;
            })
      ]

-- what `certify` saves is a certificate
abbrev pub ArePlansValid : Type 0
ArePlansValid =
    (text : List ℕ) (spec : Spec) (choice : Choice) → IsSpecificationOf text spec → IsTaken spec choice
    → IsCertificate spec (certificate_text spec choice)

-- the verdict on a specification that is to be certified
module _ (valid : ArePlansValid) (before after : Outside) (verdict : Verdict) (spec : Spec) (text : List ℕ) (means : IsSpecificationOf text spec) (name : List ℕ) where
  certify_verdict : (found : plans.Found) → planned.IsFound spec found → IsCertifyTold spec name before after verdict found
      → IsCertifyVerdict spec name before after verdict
  certify_verdict (plan_found.Plan choice) is told = record {
    found = plan_found.Plan choice;
    is = is;
    done = (told.0, valid text spec choice means is, told.1.put);
    ok = (λ _. (choice, is.plan), λ _. told.1.says);
    refused = (λ e. let wrong : verdicts.Ok ≡ verdicts.PlanRefused = sym told.1.says ∙ e in absurd cc, λ none. absurd (none choice is.plan));
  }
  certify_verdict (plan_found.Stuck set) is told = record {
    found = plan_found.Stuck set;
    is = is;
    done = (told.0, told.1.put);
    ok = (λ e. let wrong : verdicts.PlanRefused ≡ verdicts.Ok = sym told.1.says ∙ e in absurd cc, λ has. absurd (is.1 has.0 has.1));
    refused = (λ _. is.1, λ _. told.1.says);
  }

module _ (valid : ArePlansValid) (once : HaveOneMeaning) (words : List (List ℕ)) (before after : Outside) (status : Status) (runs : Runs (asked words) before after status) where
  certified_by : (files : Files) (spec : Spec) (name : List ℕ) (verdict : Verdict) → before.held ≡ Some files → status ≡ Said verdict
      → IsToCertify files words spec name → IsCertifyVerdict spec name before after verdict
  certified_by files spec name verdict held said is =
      let run = spoken words before after verdict (subst (Runs (asked words) before after) said runs) in
      let script = subst (λ o. script_of o run.came run.next) is.asked run.script in
      elim (certify_told before after files held verdict is.spec_name name run.came run.next script run.loaded run.ends) [
        | inl refused_run ↦ absurd (never_refused once files is.spec_name is.text spec is.file is.means before after verdict refused_run)
        | inr certified_run ↦
            let read = certified_run.read in
            let meaning : specification read.tree ≡ spec = means_same once files is.spec_name is.text spec is.file is.means read in
            subst (λ s. IsCertifyVerdict s name before after verdict) meaning
            (certify_verdict valid before after verdict (specification read.tree) read.text (meant files is.spec_name read) name certified_run.found certified_run.is certified_run.told)
      ]

  pub certifies_plans : CertifiesPlans words before after status
  certifies_plans = certified_by

  was_certified : (files : Files) (spec_name name : List ℕ) (verdict : Verdict) → before.held ≡ Some files
      → command_of words ≡ Some (Certify spec_name name) → status ≡ Said verdict
      → verdict ≢ verdicts.SpecRefused → WasCertified files words name before after verdict
  was_certified files spec_name name verdict held call said accepted =
      let run = spoken words before after verdict (subst (Runs (asked words) before after) said runs) in
      let script = subst (λ o. script_of o run.came run.next) call run.script in
      elim (certify_told before after files held verdict spec_name name run.came run.next script run.loaded run.ends) [
        | inl refused_run ↦ absurd (accepted (refused_verdict before after files spec_name verdict refused_run))
        | inr certified_run ↦ (
          specification certified_run.read.tree,
          record {
            spec_name = spec_name;
            asked = call;
            text = certified_run.read.text;
            file = certified_run.read.file;
            short_text = certified_run.read.short;
            means = meant files spec_name certified_run.read;
          },
          certify_verdict valid before after verdict (specification certified_run.read.tree) certified_run.read.text (meant files spec_name certified_run.read) name certified_run.found certified_run.is certified_run.told,
        )
      ]

  pub certifies_nothing_else : CertifiesNothingElse words before after status
  certifies_nothing_else files spec_name name held call = (
    λ said. was_certified files spec_name name verdicts.Ok held call said (λ e. cc),
    λ said. was_certified files spec_name name verdicts.PlanRefused held call said (λ e. cc),
  )
