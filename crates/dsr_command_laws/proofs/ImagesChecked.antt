-- A run that speaks has checked the image that it was asked to check.
use Rattle.std.proofs.Common.{◌≡◌, ◌≢◌, ◌↔◌, ℕ, List, [], ◌∷◌, codes, None, Some, refl, sym, ap, subst, ◌∙◌, inl, inr}
use Rattle.std.proofs.lemmas.Option.{same_Some}
use Rattle.dsr_answers.specs.Texts.{verdict_answer}
use Rattle.dsr_command_laws.proofs.Tellings.{SecondRun, Speaks, means_same, meant, never_refused, refused_verdict, second_told, spoken}
use Rattle.dsr_command_theory.specs.Commands.{asked, image_limit, script_of}
use Rattle.dsr_words.specs.Words.{Check, command_of}
use Rattle.dsr_command_image.specs.Checked.{IsCheckAnswer, checked, refused}
use Rattle.dsr_ir.specs.declared.declarations.Spec.{Spec}
use Rattle.dsr_ir.specs.declared.layouts.Layout.{Layout}
use Rattle.dsr_ir.specs.declared.tuples.Fact.{Fact}
use Rattle.dsr_meaning.specs.Consistency.{AreSatisfied, AreViolations, BoundConstraint}
use Rattle.dsr_meaning.specs.Models.{IsFact}
use Rattle.dsr_meaning.specs.Refusals.{IsLayoutOf, Refusal, first_of, refusals}
use Rattle.dsr_compile_laws.specs.Meanings.{HaveOneMeaning}
use Rattle.dsr_script.specs.Outside.{Outside}
use Rattle.dsr_script.specs.Runs.{Runs}
use Rattle.dsr_script.specs.Scripts.{Answer}
use Rattle.dsr_script.specs.declared.status.Status.{Status}
use Rattle.dsr_script.specs.declared.status.Status.TheVariants.{Said}
use Rattle.dsr_script.specs.declared.status.Verdict.{Verdict}
use Rattle.dsr_script.specs.declared.status.Verdict.TheVariants as verdicts
use Rattle.dsr_store.specs.Files.{Files}
use Rattle.dsr_language_theory.specs.Specifications.{specification}
use Rattle.dsr_command_laws.specs.ImageHeadlines.{ChecksImages, ChecksNothingElse, IsVerdictOn, WasChecked}

-- what is told of an image that is too long
abbrev too_long_image : List ℕ
too_long_image = codes "too long image\n"

module _ (is_fact : Fact → Type 0) (spec : Spec) where
  satisfied : AreViolations is_fact spec [] → AreSatisfied is_fact spec
  satisfied exactly = λ v violated. exactly.all v violated

  unsatisfied : (v : BoundConstraint) (vs : List BoundConstraint) → AreViolations is_fact spec (v ∷ vs) → AreSatisfied is_fact spec → ⊥
  unsatisfied v vs exactly all = all v (exactly.only v (inl refl))

  pub tells_ok : (verdict : Verdict) (vs : List BoundConstraint) → AreViolations is_fact spec vs
      → verdict ≡ (verdict_answer spec vs).verdict → (verdict ≡ verdicts.Ok) ↔ AreSatisfied is_fact spec
  tells_ok verdict [] exactly is = (λ ok. satisfied exactly, λ all. is)
  tells_ok verdict (v ∷ vs) exactly is =
      (λ ok. let e : verdicts.Inconsistent ≡ verdicts.Ok = sym is ∙ ok in absurd cc, λ all. absurd (unsatisfied v vs exactly all))

  pub tells_inconsistent : (verdict : Verdict) (vs : List BoundConstraint) → AreViolations is_fact spec vs
      → verdict ≡ (verdict_answer spec vs).verdict → (verdict ≡ verdicts.Inconsistent) ↔ (AreSatisfied is_fact spec → ⊥)
  tells_inconsistent verdict [] exactly is =
      (λ not_ok. let e : verdicts.Ok ≡ verdicts.Inconsistent = sym is ∙ not_ok in absurd cc, λ none. absurd (none (satisfied exactly)))
  tells_inconsistent verdict (v ∷ vs) exactly is = (λ not_ok. unsatisfied v vs exactly, λ none. is)

module _ (before after : Outside) (verdict : Verdict) (spec : Spec) (layout : Layout) (image : List ℕ) where
  verdict_by : (vs : List BoundConstraint) → AreViolations (IsFact spec layout image) spec vs
      → Speaks before after verdict (verdict_answer spec vs) → IsVerdictOn spec layout image before after verdict
  verdict_by vs exactly speaks = record {
    violations = vs;
    exactly = exactly;
    told = speaks.put;
    ok = tells_ok (IsFact spec layout image) spec verdict vs exactly speaks.says;
    inconsistent = tells_inconsistent (IsFact spec layout image) spec verdict vs exactly speaks.says;
  }

none_first : (rs : List Refusal) (refusal : Refusal) → rs ≡ [] → first_of rs ≡ Some refusal → ⊥
none_first rs refusal none first = let e : None ≡ Some refusal = sym (ap first_of none) ∙ first in cc

module _ (once : HaveOneMeaning) (words : List (List ℕ)) (before after : Outside) (status : Status) (runs : Runs (asked words) before after status) where
  pub checks_images : ChecksImages words before after status
  checks_images files spec layout image verdict held said is =
      let run = spoken words before after verdict (subst (Runs (asked words) before after) said runs) in
      let script = subst (λ o. script_of o run.came run.next) is.asked run.script in
      elim (second_told before after files held verdict image_limit too_long_image IsCheckAnswer is.spec_name is.image_name run.came run.next script run.loaded run.ends) [
        | inl refused_run ↦ absurd (never_refused once files is.spec_name is.text spec is.spec_file is.means before after verdict refused_run)
        | inr checked_run ↦
            let read = checked_run.read in
            let meaning : specification read.tree ≡ spec = means_same once files is.spec_name is.text spec is.spec_file is.means read in
            let bytes : checked_run.bytes ≡ image = same_Some checked_run.bytes image (sym checked_run.file ∙ is.image_file) in
            by_answer files spec layout image verdict is.laid_out checked_run.answer
            (subst (λ s. IsCheckAnswer s image checked_run.answer) meaning (subst (λ b. IsCheckAnswer (specification read.tree) b checked_run.answer) bytes checked_run.fits))
            checked_run.speaks
      ]
    where
      by_answer : (files : Files) (spec : Spec) (layout : Layout) (image : List ℕ) (verdict : Verdict) → IsLayoutOf spec image layout
          → (answer : Answer) → IsCheckAnswer spec image answer → Speaks before after verdict answer
          → IsVerdictOn spec layout image before after verdict
      by_answer files spec layout image verdict laid_out _ (refused refusal first) speaks =
          absurd (none_first (refusals spec image) refusal laid_out.accepted first)
      by_answer files spec layout image verdict laid_out _ (checked other vs is exactly) speaks =
          let same : other ≡ layout = same_Some other layout (sym is.numbers ∙ laid_out.numbers) in
          verdict_by before after verdict spec layout image vs (subst (λ l. AreViolations (IsFact spec l image) spec vs) same exactly) speaks

  was_checked : (files : Files) (spec_name image_name : List ℕ) (verdict : Verdict) → before.held ≡ Some files
      → command_of words ≡ Some (Check spec_name image_name) → status ≡ Said verdict
      → verdict ≢ verdicts.SpecRefused → verdict ≢ verdicts.LayoutRefused → WasChecked files words before after verdict
  was_checked files spec_name image_name verdict held call said accepted laid =
      let run = spoken words before after verdict (subst (Runs (asked words) before after) said runs) in
      let script = subst (λ o. script_of o run.came run.next) call run.script in
      elim (second_told before after files held verdict image_limit too_long_image IsCheckAnswer spec_name image_name run.came run.next script run.loaded run.ends) [
        | inl refused_run ↦ absurd (accepted (refused_verdict before after files spec_name verdict refused_run))
        | inr checked_run ↦ by_answer checked_run checked_run.answer checked_run.fits checked_run.speaks
      ]
    where
      by_answer : (r : SecondRun image_limit IsCheckAnswer before after files spec_name image_name verdict) (answer : Answer)
          → IsCheckAnswer (specification r.read.tree) r.bytes answer → Speaks before after verdict answer
          → WasChecked files words before after verdict
      by_answer r _ (refused refusal first) speaks = absurd (laid speaks.says)
      by_answer r _ (checked layout vs is exactly) speaks = (
        specification r.read.tree,
        layout,
        r.bytes,
        record {
          spec_name = spec_name;
          image_name = image_name;
          asked = call;
          text = r.read.text;
          spec_file = r.read.file;
          image_file = r.file;
          short_text = r.read.short;
          short_image = r.short;
          means = meant files spec_name r.read;
          laid_out = is;
        },
        verdict_by before after verdict (specification r.read.tree) layout r.bytes vs exactly speaks,
      )

  pub checks_nothing_else : ChecksNothingElse words before after status
  checks_nothing_else files spec_name image_name held call = (
    λ said. was_checked files spec_name image_name verdicts.Ok held call said (λ e. cc) (λ e. cc),
    λ said. was_checked files spec_name image_name verdicts.Inconsistent held call said (λ e. cc) (λ e. cc),
  )
