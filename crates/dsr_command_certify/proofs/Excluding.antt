-- A certificate has no fault.
use Rattle.std.proofs.Common.{ℕ, List, subst}
use Rattle.dsr_cert.proofs.Flawed.{no_flaw}
use Rattle.dsr_cert.specs.Flaws.{IsFirstFlaw}
use Rattle.dsr_cert.specs.Forms.{IsFirstWrong}
use Rattle.dsr_cert.specs.declared.faults.CertFault.{CertFault}
use Rattle.dsr_command_certify.specs.Verified.{IsCertificate, IsReadOnce}
use Rattle.dsr_ir.specs.declared.declarations.Spec.{Spec}
use Rattle.dsr_plan_theory.specs.Plans.{IsPlan}
use Rattle.dsr_plan_theory.specs.declared.choices.Choice.{Choice}

module _ (spec : Spec) (text : List ℕ) (its : IsCertificate spec text) where
  pub not_wrong : (fault : CertFault) → IsFirstWrong spec text fault → ⊥
  not_wrong fault first = its.right first.k fault first.wrong

  pub not_flawed : (choice : Choice) (fault : CertFault) → IsReadOnce spec text choice → IsFirstFlaw spec choice fault → ⊥
  not_flawed choice fault once first = no_flaw spec choice (subst (IsPlan spec) (once.only its.choice its.read) its.plan) first.flaw first.is
