-- An answer about a certificate, by what was found of it.
use Rattle.std.proofs.Common.{◌≡◌, ◌≢◌, ℕ, List, Result, Ok, Err, IfOk, refl, sym, subst}
use Rattle.dsr_cert.specs.Flaws.{IsFirstFlaw, Tells}
use Rattle.dsr_cert.specs.Forms.{IsFirstWrong}
use Rattle.dsr_cert.specs.declared.faults.CertFault.{CertFault}
use Rattle.dsr_cert.specs.declared.faults.CertFault.TheVariants as faults
use Rattle.dsr_command_certify.specs.Faults.{fault_answer}
use Rattle.dsr_command_certify.specs.Verified.{IsCertificate, IsReadOnce, IsVerifyAnswer, flawed, valid, valid_answer, wrong}
use Rattle.dsr_ir.specs.declared.declarations.Spec.{Spec}
use Rattle.dsr_plan_theory.specs.declared.choices.Choice.{Choice}
use Rattle.dsr_script.specs.Moves.{shown}
use Rattle.dsr_script.specs.Scripts.{Answer}
use Rattle.dsr_script.specs.declared.moves.Told.{Told}

-- what is told of a fault is so, where it is one of the certificate
tells_so : (So : CertFault → Type 0) (fault : CertFault) → fault ≢ faults.NoMemory → Tells So fault → So fault
tells_so So faults.NoMemory known told = absurd (known refl)
tells_so So (faults.Text line) known told = told
tells_so So (faults.Coverage n) known told = told
tells_so So (faults.NotATemplate n c l) known told = told
tells_so So (faults.Falsifies n c l) known told = told
tells_so So (faults.Edge n m) known told = told
tells_so So (faults.Reliance n m) known told = told

module _ (spec : Spec) (text : List ℕ) {E : Type 0} (r : Result Told E) where
  abbrev pub IsAnswered : Result Told E → Type 0
  IsAnswered r = IfOk r (λ told. IsVerifyAnswer spec text (shown told))

  abbrev Says : Answer → Result Told E → Type 0
  Says answer r = IfOk r (λ told. shown told ≡ answer)

  answered : (answer : Answer) → (r : Result Told E) → IfOk r (λ _. IsVerifyAnswer spec text answer) → Says answer r → IsAnswered r
  answered answer (Ok told) is says = subst (IsVerifyAnswer spec text) (sym says) is
  answered answer (Err e) is says = tt

  pub told_valid : IsCertificate spec text → Says valid_answer r → IsAnswered r
  told_valid is says = by r says where
    by : (r : Result Told E) → Says valid_answer r → IsAnswered r
    by (Ok told) says = answered valid_answer (Ok told) (valid is) says
    by (Err e) says = tt

  pub told_wrong : (fault : CertFault) → Tells (IsFirstWrong spec text) fault → Says (fault_answer spec fault) r → IfOk r (λ _. fault ≢ faults.NoMemory) → IsAnswered r
  told_wrong fault tells says known = by r says known where
    by : (r : Result Told E) → Says (fault_answer spec fault) r → IfOk r (λ _. fault ≢ faults.NoMemory) → IsAnswered r
    by (Ok told) says known = answered (fault_answer spec fault) (Ok told) (wrong fault (tells_so (IsFirstWrong spec text) fault known tells)) says
    by (Err e) says known = tt

  pub told_flawed : (choice : Choice) (fault : CertFault) → IsReadOnce spec text choice → Tells (IsFirstFlaw spec choice) fault → Says (fault_answer spec fault) r → IfOk r (λ _. fault ≢ faults.NoMemory) → IsAnswered r
  told_flawed choice fault read tells says known = by r says known where
    by : (r : Result Told E) → Says (fault_answer spec fault) r → IfOk r (λ _. fault ≢ faults.NoMemory) → IsAnswered r
    by (Ok told) says known = answered (fault_answer spec fault) (Ok told) (flawed choice fault read (tells_so (IsFirstFlaw spec choice) fault known tells)) says
    by (Err e) says known = tt
