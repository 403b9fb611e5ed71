-- The rounds of a repair.
use Rattle.std.proofs.Common.{[], length, refl, subst, arith}
use Rattle.dsr_repair.proofs.RunOn.{less_left_by, run_of_round, run_same}
use Rattle.dsr_repair.specs.Rounds.{EndsRound}
use Rattle.dsr_repair_theory.specs.Runs.IsPartRun.{begins}
use Rattle.dsr_repair.proofs.repairs.make_rounds.Goals as goal

pub returns-in_err-repair-clause-steps : goal.returns-in_err-repair-clause-steps
returns-in_err-repair-clause-steps g c =
    let old = g.I.ImageBytes.bytes c.args.image.now in
    run_same c.args.plan.now.0 c.args.plan.now.1 c.args.layout.now old old old [] c.args.log.now.entries begins refl
    c.requires.empty

pub rounds-init : goal.rounds-init
rounds-init g c =
    let old = g.I.ImageBytes.bytes c.args.image.now in
    record {
      steps = run_same c.args.plan.now.0 c.args.plan.now.1 c.args.layout.now old old old [] c.args.log.now.entries begins refl
          c.requires.empty;
      under_way = c.in_ok-repair.ensures;
    }

pub returns-in_err-outcome-clause-steps : goal.returns-in_err-outcome-clause-steps
returns-in_err-outcome-clause-steps g c =
    run_of_round c.args.plan.now.0 c.args.plan.now.1 c.args.layout.now (g.I.ImageBytes.bytes c.args.image.now)
    (g.I.ImageBytes.bytes c.rounds.image) (g.I.ImageBytes.bytes c.go_on.new.image) c.rounds.log.entries c.go_on.new.log.entries
    c.rounds.invariant.steps c.go_on.ensures.round

pub returns-in-Some-clause-steps : goal.returns-in-Some-clause-steps
returns-in-Some-clause-steps g c =
    run_of_round c.args.plan.now.0 c.args.plan.now.1 c.args.layout.now (g.I.ImageBytes.bytes c.args.image.now)
    (g.I.ImageBytes.bytes c.rounds.image) (g.I.ImageBytes.bytes c.go_on.new.image) c.rounds.log.entries c.go_on.new.log.entries
    c.rounds.invariant.steps c.go_on.ensures.round

pub rounds-smaller : goal.rounds-smaller
rounds-smaller g c =
    let full = subst (EndsRound c.args.plan.now.0 c.args.plan.now.1 c.args.layout.now (g.I.ImageBytes.bytes c.go_on.new.image)
    4096 c.rounds.log.entries c.go_on.new.log.entries) c.in_default.is c.in_ok-outcome.ensures.ends in
    less_left_by c.args.plan.now.0 c.args.plan.now.1 c.args.layout.now c.requires.planned (g.I.ImageBytes.bytes c.args.image.now) c.requires.image
    (g.I.ImageBytes.bytes c.go_on.new.image) c.go_on.new.log.entries (length c.rounds.log.entries) (length c.go_on.new.log.entries)
    (run_of_round c.args.plan.now.0 c.args.plan.now.1 c.args.layout.now (g.I.ImageBytes.bytes c.args.image.now)
    (g.I.ImageBytes.bytes c.rounds.image) (g.I.ImageBytes.bytes c.go_on.new.image) c.rounds.log.entries c.go_on.new.log.entries
    c.rounds.invariant.steps c.go_on.ensures.round)
    refl (omega (arith, full))

pub rounds-preserved : goal.rounds-preserved
rounds-preserved g c = record {
  steps = run_of_round c.args.plan.now.0 c.args.plan.now.1 c.args.layout.now (g.I.ImageBytes.bytes c.args.image.now)
      (g.I.ImageBytes.bytes c.rounds.image) (g.I.ImageBytes.bytes c.go_on.new.image) c.rounds.log.entries c.go_on.new.log.entries
      c.rounds.invariant.steps c.go_on.ensures.round;
  under_way = c.go_on.ensures.under_way;
}
