use Rattle.dsr_command_laws.proofs.CertificatesVerified.{verifies_certificates, verifies_nothing_else}
use Rattle.dsr_command_laws.proofs.plans.certificates_are_verified.Goals as goal

pub returns : goal.returns
returns c = record {
  verified = verifies_certificates c.texts_have_one_meaning.ensures;
  nothing_else = verifies_nothing_else c.texts_have_one_meaning.ensures;
}
