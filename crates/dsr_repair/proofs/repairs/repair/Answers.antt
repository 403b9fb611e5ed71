-- A whole repair is one run, of which laws tell the rest.
use Rattle.std.proofs.Common.{subst}
use Rattle.dsr_bound_laws.proofs.Runs.{run_bounded}
use Rattle.dsr_plan_theory.specs.Plans.{IsPlan}
use Rattle.dsr_run_laws.proofs.RunOnce.{run_keeps, run_keeps_fixed}
use Rattle.dsr_repair.proofs.repairs.repair.Goals as goal

pub make_rounds-requires-clause-planned : goal.make_rounds-requires-clause-planned
make_rounds-requires-clause-planned g c = subst (λ s. IsPlan s c.args.plan.now.1) c.spec-spec.ensures.is c.spec-spec.ensures.plan

pub returns-clause-short : goal.returns-clause-short
returns-clause-short g c =
    run_bounded c.args.plan.now.0 c.args.plan.now.1 c.args.layout.now
    (subst (λ s. IsPlan s c.args.plan.now.1) c.spec-spec.ensures.is c.spec-spec.ensures.plan)
    (g.I.ImageBytes.bytes c.args.image.now) (g.I.ImageBytes.bytes c.make_rounds.new.image) c.make_rounds.new.log.entries
    c.requires.image c.make_rounds.ensures.steps

pub returns-clause-image : goal.returns-clause-image
returns-clause-image g c =
    run_keeps c.args.plan.now.0 c.args.plan.now.1 c.args.layout.now
    (subst (λ s. IsPlan s c.args.plan.now.1) c.spec-spec.ensures.is c.spec-spec.ensures.plan)
    (g.I.ImageBytes.bytes c.args.image.now) (g.I.ImageBytes.bytes c.make_rounds.new.image) c.make_rounds.new.log.entries
    c.requires.image c.make_rounds.ensures.steps

pub returns-clause-fixed : goal.returns-clause-fixed
returns-clause-fixed g c =
    run_keeps_fixed c.args.plan.now.0 c.args.plan.now.1 c.args.layout.now
    (subst (λ s. IsPlan s c.args.plan.now.1) c.spec-spec.ensures.is c.spec-spec.ensures.plan)
    (g.I.ImageBytes.bytes c.args.image.now) (g.I.ImageBytes.bytes c.make_rounds.new.image) c.make_rounds.new.log.entries
    c.requires.image c.make_rounds.ensures.steps
