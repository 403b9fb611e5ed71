use Rattle.std.proofs.Common.{refl, subst}
use Rattle.dsr_command_certify.specs.Certified.{IsCertified}
use Rattle.dsr_command_plan.specs.declared.plans.Found.TheVariants as plan_found
use Rattle.dsr_script.specs.Moves.{shown}
use Rattle.dsr_cli.proofs.waiting.save_certificate.Goals as goal

pub returns-in-Certificate-clause-follows : goal.returns-in-Certificate-clause-follows
returns-in-Certificate-clause-follows c =
    let is = subst (IsCertified c.args.spec.now) c.in-Certificate.is c.in_ok-bytes.ensures in
    (plan_found.Plan is.0, is.1, (c.in-Certificate.bytes.items, shown c.in-Certificate.told, (is.2, is.3), refl))

pub returns-in-Unplanned-clause-follows : goal.returns-in-Unplanned-clause-follows
returns-in-Unplanned-clause-follows c =
    let is = subst (IsCertified c.args.spec.now) c.in-Unplanned.is c.in_ok-bytes.ensures in
    (plan_found.Stuck is.0, (is.1, is.2), (shown c.in-Unplanned.told, is.3, refl))
