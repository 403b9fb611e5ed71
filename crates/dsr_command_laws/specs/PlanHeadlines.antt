-- What a run says of plans and certificates, by the files that a shelf tells.
use Rattle.std.specs.Prelude.{◌≡◌, ◌↔◌, ◌≤◌, ℕ, List, length, Some}
use Rattle.std.specs.FinMap.{get}
use Rattle.dsr_cert.specs.Certificates.{certificate_text}
use Rattle.dsr_command_certify.specs.Certified.{certified_answer}
use Rattle.dsr_command_certify.specs.Verified.{IsCertificate, IsVerifyAnswer}
use Rattle.dsr_ir.specs.declared.declarations.Spec.{Spec}
use Rattle.dsr_command_plan.specs.Planned.{IsFound, answer_of}
use Rattle.dsr_command_plan.specs.StuckTexts.{refused_answer}
use Rattle.dsr_command_plan.specs.declared.plans.Found.{Found}
use Rattle.dsr_command_plan.specs.declared.plans.Found.TheVariants.{Plan, Stuck}
use Rattle.dsr_plan_theory.specs.StuckSets.{HasNoPlan}
use Rattle.dsr_script.specs.Outside.{IsSaved, Outside, Stands}
use Rattle.dsr_script.specs.Scripts.{Answer}
use Rattle.dsr_script.specs.declared.status.Status.{Status}
use Rattle.dsr_script.specs.declared.status.Status.TheVariants.{Said}
use Rattle.dsr_script.specs.declared.status.Verdict.{Verdict}
use Rattle.dsr_script.specs.declared.status.Verdict.TheVariants as verdicts
use Rattle.dsr_store.specs.Files.{Files}
use Rattle.dsr_store.specs.Written.{appended}
use Rattle.dsr_language_theory.specs.Specifications.{IsSpecificationOf}
use Rattle.dsr_command_theory.specs.Commands.{certificate_limit, spec_limit}
use Rattle.dsr_command_theory.specs.Plans.{HasPlan}
use Rattle.dsr_words.specs.Words as asking
use Rattle.dsr_words.specs.Words.{Certify, Verify, command_of}

-- the words ask for the plan of this specification, whose text is within its limit
pub record IsPlanned (files : Files) (words : List (List ℕ)) (spec : Spec) : Type 0 where
  pub spec_name : List ℕ
  pub asked : command_of words ≡ Some (asking.Plan spec_name)
  pub text : List ℕ
  pub file : get files spec_name ≡ Some text
  pub short_text : length text ≤ spec_limit
  pub means : IsSpecificationOf text spec

-- a verdict on a specification: it says exactly whether it has a plan, and the text tells the plan
-- that is taken, or what stands in the way of one
pub record IsPlanVerdict (spec : Spec) (before after : Outside) (verdict : Verdict) : Type 0 where
  pub found : Found
  pub is : IsFound spec found
  pub told : after.output.written ≡ appended before.output.written (answer_of spec found).text
  pub ok : (verdict ≡ verdicts.Ok) ↔ HasPlan spec
  pub refused : (verdict ≡ verdicts.PlanRefused) ↔ HasNoPlan spec

-- where the shelf tells its files and they can be planned for, a command that speaks gives the
-- verdict
abbrev pub FindsPlans : List (List ℕ) → Outside → Outside → Status → Type 0
FindsPlans words before after status =
    (files : Files) (spec : Spec) (verdict : Verdict) → before.held ≡ Some files
    → status ≡ Said verdict
    → IsPlanned files words spec → IsPlanVerdict spec before after verdict

-- some specification was planned for, with this verdict
abbrev pub WasPlanned : Files → List (List ℕ) → Outside → Outside → Verdict → Type 0
WasPlanned files words before after verdict =
    (spec : Spec) × IsPlanned files words spec × IsPlanVerdict spec before after verdict

-- no specification is said to have a plan, and none to have no plan, unless one was looked for
abbrev pub FindsNothingElse : List (List ℕ) → Outside → Outside → Status → Type 0
FindsNothingElse words before after status =
    (files : Files) (spec_name : List ℕ) → before.held ≡ Some files
    → command_of words ≡ Some (asking.Plan spec_name)
    → (status ≡ Said verdicts.Ok → WasPlanned files words before after verdicts.Ok)
    × (status ≡ Said verdicts.PlanRefused
    → WasPlanned files words before after verdicts.PlanRefused)

-- ---- certificates

-- the words ask to certify this specification, whose text is within its limit, under this name
pub record IsToCertify (files : Files) (words : List (List ℕ)) (spec : Spec)
    (name : List ℕ) : Type 0 where
  pub spec_name : List ℕ
  pub asked : command_of words ≡ Some (Certify spec_name name)
  pub text : List ℕ
  pub file : get files spec_name ≡ Some text
  pub short_text : length text ≤ spec_limit
  pub means : IsSpecificationOf text spec

-- the certificate of the plan that is taken is saved, which is valid, and the number of its levels
-- told; or nothing is saved, and what stands in the way of a plan is told
abbrev pub IsCertifiedBy : Spec → List ℕ → Outside → Outside → Found → Type 0
IsCertifiedBy spec name before after (Plan choice) =
    IsSaved before after name (certificate_text spec choice)
    × IsCertificate spec (certificate_text spec choice)
    × (after.output.written ≡ appended before.output.written (certified_answer choice).text)
IsCertifiedBy spec name before after (Stuck set) =
    Stands before after
    × (after.output.written ≡ appended before.output.written (refused_answer spec set).text)

-- a verdict says exactly whether the specification has a plan, and its certificate is saved exactly
-- where it has one
pub record IsCertifyVerdict (spec : Spec) (name : List ℕ) (before after : Outside)
    (verdict : Verdict) : Type 0 where
  pub found : Found
  pub is : IsFound spec found
  pub done : IsCertifiedBy spec name before after found
  pub ok : (verdict ≡ verdicts.Ok) ↔ HasPlan spec
  pub refused : (verdict ≡ verdicts.PlanRefused) ↔ HasNoPlan spec

-- where the shelf tells its files and the words ask for a certificate, a command that speaks does
-- so
abbrev pub CertifiesPlans : List (List ℕ) → Outside → Outside → Status → Type 0
CertifiesPlans words before after status =
    (files : Files) (spec : Spec) (name : List ℕ) (verdict : Verdict) → before.held ≡ Some files
    → status ≡ Said verdict → IsToCertify files words spec name
    → IsCertifyVerdict spec name before after verdict

abbrev pub WasCertified : Files → List (List ℕ) → List ℕ → Outside → Outside → Verdict → Type 0
WasCertified files words name before after verdict =
    (spec : Spec) × IsToCertify files words spec name
    × IsCertifyVerdict spec name before after verdict

-- no specification is said to be certified, and none to have no plan, unless one was looked for
abbrev pub CertifiesNothingElse : List (List ℕ) → Outside → Outside → Status → Type 0
CertifiesNothingElse words before after status =
    (files : Files) (spec_name name : List ℕ) → before.held ≡ Some files
    → command_of words ≡ Some (Certify spec_name name)
    → (status ≡ Said verdicts.Ok → WasCertified files words name before after verdicts.Ok)
    × (status ≡ Said verdicts.PlanRefused
    → WasCertified files words name before after verdicts.PlanRefused)

-- the words ask to verify a certificate under a specification: their files are within their limits
pub record IsToVerify (files : Files) (words : List (List ℕ)) (spec : Spec)
    (certificate : List ℕ) : Type 0 where
  pub spec_name : List ℕ
  pub certificate_name : List ℕ
  pub asked : command_of words ≡ Some (Verify spec_name certificate_name)
  pub text : List ℕ
  pub spec_file : get files spec_name ≡ Some text
  pub certificate_file : get files certificate_name ≡ Some certificate
  pub short_text : length text ≤ spec_limit
  pub short_certificate : length certificate ≤ certificate_limit
  pub means : IsSpecificationOf text spec

-- a verdict says exactly whether the text is that of a plan, and otherwise its first fault
pub record IsVerifyVerdict (spec : Spec) (certificate : List ℕ) (before after : Outside)
    (verdict : Verdict) : Type 0 where
  pub answer : Answer
  pub is : IsVerifyAnswer spec certificate answer
  pub told : after.output.written ≡ appended before.output.written answer.text
  pub ok : (verdict ≡ verdicts.Ok) ↔ IsCertificate spec certificate
  pub refused : (verdict ≡ verdicts.CertRefused) ↔ (IsCertificate spec certificate → ⊥)

-- where the shelf tells its files and they can be verified, a command that speaks gives the verdict
abbrev pub VerifiesCertificates : List (List ℕ) → Outside → Outside → Status → Type 0
VerifiesCertificates words before after status =
    (files : Files) (spec : Spec) (certificate : List ℕ) (verdict : Verdict)
    → before.held ≡ Some files
    → status ≡ Said verdict → IsToVerify files words spec certificate
    → IsVerifyVerdict spec certificate before after verdict

abbrev pub WasVerified : Files → List (List ℕ) → Outside → Outside → Verdict → Type 0
WasVerified files words before after verdict =
    (spec : Spec) × (certificate : List ℕ) × IsToVerify files words spec certificate
    × IsVerifyVerdict spec certificate before after verdict

-- no certificate is said to be one of a plan, and none to be none, unless it was verified
abbrev pub VerifiesNothingElse : List (List ℕ) → Outside → Outside → Status → Type 0
VerifiesNothingElse words before after status =
    (files : Files) (spec_name certificate_name : List ℕ) → before.held ≡ Some files
    → command_of words ≡ Some (Verify spec_name certificate_name)
    → (status ≡ Said verdicts.Ok → WasVerified files words before after verdicts.Ok)
    × (status ≡ Said verdicts.CertRefused
    → WasVerified files words before after verdicts.CertRefused)
