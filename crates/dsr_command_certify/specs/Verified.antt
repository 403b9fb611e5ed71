-- What is answered about the text of a certificate.
use Rattle.std.specs.Prelude.{◌≡◌, ℕ, List, codes}
use Rattle.dsr_cert.specs.Certificates.{IsReadAs}
use Rattle.dsr_cert.specs.Flaws.{IsFirstFlaw}
use Rattle.dsr_cert.specs.Forms.{HasNoWrongLine, IsFirstWrong}
use Rattle.dsr_cert.specs.declared.faults.CertFault.{CertFault}
use Rattle.dsr_command_certify.specs.Faults.{fault_answer}
use Rattle.dsr_ir.specs.declared.declarations.Spec.{Spec}
use Rattle.dsr_plan_theory.specs.Plans.{IsPlan}
use Rattle.dsr_plan_theory.specs.declared.choices.Choice.{Choice}
use Rattle.dsr_script.specs.Scripts.{Answer}
use Rattle.dsr_script.specs.declared.status.Verdict.TheVariants as verdicts

-- no line of the text is wrong, and they are those of a choice which is a plan
pub record IsCertificate (spec : Spec) (text : List ℕ) : Type 0 where
  pub right : HasNoWrongLine spec text
  pub choice : Choice
  pub read : IsReadAs spec text choice
  pub plan : IsPlan spec choice

-- the lines of the text are those of this choice alone
pub record IsReadOnce (spec : Spec) (text : List ℕ) (choice : Choice) : Type 0 where
  pub read : IsReadAs spec text choice
  pub only : (other : Choice) → IsReadAs spec text other → other ≡ choice

abbrev pub valid_answer : Answer
valid_answer = record { verdict = verdicts.Ok; text = codes "valid\n" }

-- the text is a certificate; or its first line that is wrong is told; or it is that of a choice
-- whose first flaw is told
pub data IsVerifyAnswer (spec : Spec) (text : List ℕ) : Answer → Type 0 where
  valid : IsCertificate spec text → IsVerifyAnswer spec text valid_answer
  wrong :
      (fault : CertFault) → IsFirstWrong spec text fault
      → IsVerifyAnswer spec text (fault_answer spec fault)
  flawed :
      (choice : Choice) (fault : CertFault) → IsReadOnce spec text choice
      → IsFirstFlaw spec choice fault → IsVerifyAnswer spec text (fault_answer spec fault)
