-- What comes of certifying a specification.
use Rattle.std.specs.Prelude.{◌≡◌, ◌++◌, codes, decimal}
use Rattle.dsr_cert.specs.Certificates.{certificate_text}
use Rattle.dsr_command_certify.specs.declared.certifying.Certified.{Certified}
use Rattle.dsr_command_certify.specs.declared.certifying.Certified.TheVariants.{Certificate, Unplanned}
use Rattle.dsr_ir.specs.declared.declarations.Spec.{Spec}
use Rattle.dsr_command_plan.specs.Levels.{level_count}
use Rattle.dsr_command_plan.specs.StuckTexts.{refused_answer}
use Rattle.dsr_plan_theory.specs.StuckSets.{HasNoPlan, IsStuckSet}
use Rattle.dsr_plan_theory.specs.Taken.{IsTaken}
use Rattle.dsr_plan_theory.specs.declared.choices.Choice.{Choice}
use Rattle.dsr_plan_theory.specs.declared.refusals.StuckSet.{StuckSet}
use Rattle.dsr_script.specs.Moves.{shown}
use Rattle.dsr_script.specs.Scripts.{Answer}
use Rattle.dsr_script.specs.declared.status.Verdict.TheVariants as verdicts

abbrev pub certified_answer : Choice → Answer
certified_answer choice = record {
  verdict = verdicts.Ok;
  text = codes "certified " ++ decimal (level_count choice.rows) ++ codes "\n";
}

-- the certificate of the plan that is taken, with what is told of it; or the answer that there is
-- no plan
abbrev pub IsCertified : Spec → Certified → Type 0
IsCertified spec (Certificate bytes told) =
    (choice : Choice) × IsTaken spec choice × (bytes.items ≡ certificate_text spec choice)
    × (shown told ≡ certified_answer choice)
IsCertified spec (Unplanned told) =
    (set : StuckSet) × IsStuckSet spec set × HasNoPlan spec × (shown told ≡ refused_answer spec set)
