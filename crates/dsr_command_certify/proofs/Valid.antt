-- The certificates of choices for what a text means.
use Rattle.std.proofs.Common.{ℕ, List}
use Rattle.dsr_cert.specs.Certificates.{certificate_text}
use Rattle.dsr_cert.specs.Forms.{HasNoWrongLine}
use Rattle.dsr_command_certify.specs.Verified.{IsCertificate, IsReadOnce}
use Rattle.dsr_ir.specs.declared.declarations.Spec.{Spec}
use Rattle.dsr_plan_theory.specs.Plans.{IsPlan}
use Rattle.dsr_plan_theory.specs.Taken.{IsTaken}
use Rattle.dsr_plan_theory.specs.declared.choices.Choice.{Choice}
use Rattle.dsr_language_laws.proofs.SpelledTrees.{names_spelled}
use Rattle.dsr_language_theory.specs.Specifications.{IsSpecificationOf}
use Rattle.dsr_command_certify.specs.LowLevels.{HasLowLevels}
use Rattle.dsr_command_certify.specs.Said.{MayBeSaid}
use Rattle.dsr_command_certify.proofs.SaidLines.{plan_valid, said_once, said_right}
use Rattle.dsr_command_certify.proofs.TakenLevels.{taken_levels}

pub low_valid : (text : List ℕ) (spec : Spec) (choice : Choice) → IsSpecificationOf text spec → IsPlan spec choice → HasLowLevels spec choice → IsCertificate spec (certificate_text spec choice)
low_valid text spec choice its plan low = plan_valid spec (names_spelled text spec its) choice plan low

pub taken_valid : (text : List ℕ) (spec : Spec) (choice : Choice) → IsSpecificationOf text spec → IsTaken spec choice → IsCertificate spec (certificate_text spec choice)
taken_valid text spec choice its taken = low_valid text spec choice its taken.plan (taken_levels text spec choice its taken)

pub right_said : (text : List ℕ) (spec : Spec) (choice : Choice) → IsSpecificationOf text spec → MayBeSaid spec choice → HasNoWrongLine spec (certificate_text spec choice)
right_said text spec choice its said = said_right spec (names_spelled text spec its) choice said

pub once_said : (text : List ℕ) (spec : Spec) (choice : Choice) → IsSpecificationOf text spec → MayBeSaid spec choice → IsReadOnce spec (certificate_text spec choice) choice
once_said text spec choice its said = said_once spec (names_spelled text spec its) choice said
