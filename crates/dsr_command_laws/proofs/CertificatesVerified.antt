-- A run that speaks has verified the certificate that it was asked to verify.
use Rattle.std.proofs.Common.{◌≡◌, ◌≢◌, ◌↔◌, ℕ, List, codes, Some, sym, subst, ◌∙◌, inl, inr}
use Rattle.std.proofs.lemmas.Option.{same_Some}
use Rattle.dsr_command_laws.proofs.Tellings.{Speaks, means_same, meant, never_refused, refused_verdict, second_told, spoken}
use Rattle.dsr_command_theory.specs.Commands.{asked, certificate_limit, script_of}
use Rattle.dsr_words.specs.Words.{Verify, command_of}
use Rattle.dsr_command_certify.proofs.Excluding.{not_flawed, not_wrong}
use Rattle.dsr_command_certify.specs.Verified.{IsCertificate, IsVerifyAnswer, flawed, valid, wrong}
use Rattle.dsr_ir.specs.declared.declarations.Spec.{Spec}
use Rattle.dsr_compile_laws.specs.Meanings.{HaveOneMeaning}
use Rattle.dsr_script.specs.Outside.{Outside}
use Rattle.dsr_script.specs.Runs.{Runs}
use Rattle.dsr_script.specs.Scripts.{Answer}
use Rattle.dsr_script.specs.declared.status.Status.{Status}
use Rattle.dsr_script.specs.declared.status.Status.TheVariants.{Said}
use Rattle.dsr_script.specs.declared.status.Verdict.{Verdict}
use Rattle.dsr_script.specs.declared.status.Verdict.TheVariants as verdicts
use Rattle.dsr_store.specs.Files.{Files}
use Rattle.dsr_language_theory.specs.Specifications.{specification}
use Rattle.dsr_command_laws.specs.PlanHeadlines.{IsVerifyVerdict, VerifiesCertificates, VerifiesNothingElse, WasVerified}

-- what is told of a certificate that is too long
abbrev too_long_certificate : List ℕ
too_long_certificate = codes "too long certificate\n"

abbrev limit_of_certificates : Spec → ℕ
limit_of_certificates spec = certificate_limit

-- the verdict on a certificate
module _ (before after : Outside) (verdict : Verdict) (spec : Spec) (text : List ℕ) where
  verify_verdict : (answer : Answer) → IsVerifyAnswer spec text answer → Speaks before after verdict answer
      → IsVerifyVerdict spec text before after verdict
  verify_verdict answer its speaks = record {
    answer = answer;
    is = its;
    told = speaks.put;
    ok = tells_valid answer its speaks.says;
    refused = tells_invalid answer its speaks.says;
  } where
    tells_valid : (answer : Answer) → IsVerifyAnswer spec text answer → verdict ≡ answer.verdict
        → (verdict ≡ verdicts.Ok) ↔ IsCertificate spec text
    tells_valid _ (valid is) says = (λ _. is, λ _. says)
    tells_valid _ (wrong fault is) says =
        (λ e. let clash : verdicts.CertRefused ≡ verdicts.Ok = sym says ∙ e in absurd cc, λ has. absurd (not_wrong spec text has fault is))
    tells_valid _ (flawed choice fault read is) says =
        (λ e. let clash : verdicts.CertRefused ≡ verdicts.Ok = sym says ∙ e in absurd cc, λ has. absurd (not_flawed spec text has choice fault read is))

    tells_invalid : (answer : Answer) → IsVerifyAnswer spec text answer → verdict ≡ answer.verdict
        → (verdict ≡ verdicts.CertRefused) ↔ (IsCertificate spec text → ⊥)
    tells_invalid _ (valid is) says =
        (λ e. let clash : verdicts.Ok ≡ verdicts.CertRefused = sym says ∙ e in absurd cc, λ none. absurd (none is))
    tells_invalid _ (wrong fault is) says = (λ _ has. not_wrong spec text has fault is, λ _. says)
    tells_invalid _ (flawed choice fault read is) says = (λ _ has. not_flawed spec text has choice fault read is, λ _. says)

module _ (once : HaveOneMeaning) (words : List (List ℕ)) (before after : Outside) (status : Status) (runs : Runs (asked words) before after status) where
  pub verifies_certificates : VerifiesCertificates words before after status
  verifies_certificates files spec certificate verdict held said is =
      let run = spoken words before after verdict (subst (Runs (asked words) before after) said runs) in
      let script = subst (λ o. script_of o run.came run.next) is.asked run.script in
      elim (second_told before after files held verdict limit_of_certificates too_long_certificate IsVerifyAnswer is.spec_name is.certificate_name run.came run.next script run.loaded run.ends) [
        | inl refused_run ↦ absurd (never_refused once files is.spec_name is.text spec is.spec_file is.means before after verdict refused_run)
        | inr verified_run ↦
            let read = verified_run.read in
            let meaning : specification read.tree ≡ spec = means_same once files is.spec_name is.text spec is.spec_file is.means read in
            let bytes : verified_run.bytes ≡ certificate = same_Some verified_run.bytes certificate (sym verified_run.file ∙ is.certificate_file) in
            verify_verdict before after verdict spec certificate verified_run.answer
            (subst (λ s. IsVerifyAnswer s certificate verified_run.answer) meaning (subst (λ b. IsVerifyAnswer (specification read.tree) b verified_run.answer) bytes verified_run.fits))
            verified_run.speaks
      ]

  was_verified : (files : Files) (spec_name certificate_name : List ℕ) (verdict : Verdict) → before.held ≡ Some files
      → command_of words ≡ Some (Verify spec_name certificate_name) → status ≡ Said verdict
      → verdict ≢ verdicts.SpecRefused → WasVerified files words before after verdict
  was_verified files spec_name certificate_name verdict held call said accepted =
      let run = spoken words before after verdict (subst (Runs (asked words) before after) said runs) in
      let script = subst (λ o. script_of o run.came run.next) call run.script in
      elim (second_told before after files held verdict limit_of_certificates too_long_certificate IsVerifyAnswer spec_name certificate_name run.came run.next script run.loaded run.ends) [
        | inl refused_run ↦ absurd (accepted (refused_verdict before after files spec_name verdict refused_run))
        | inr verified_run ↦ (
          specification verified_run.read.tree,
          verified_run.bytes,
          record {
            spec_name = spec_name;
            certificate_name = certificate_name;
            asked = call;
            text = verified_run.read.text;
            spec_file = verified_run.read.file;
            certificate_file = verified_run.file;
            short_text = verified_run.read.short;
            short_certificate = verified_run.short;
            means = meant files spec_name verified_run.read;
          },
          verify_verdict before after verdict (specification verified_run.read.tree) verified_run.bytes verified_run.answer verified_run.fits verified_run.speaks,
        )
      ]

  pub verifies_nothing_else : VerifiesNothingElse words before after status
  verifies_nothing_else files spec_name certificate_name held call = (
    λ said. was_verified files spec_name certificate_name verdicts.Ok held call said (λ e. cc),
    λ said. was_verified files spec_name certificate_name verdicts.CertRefused held call said (λ e. cc),
  )
