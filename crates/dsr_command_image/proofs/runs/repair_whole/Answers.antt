-- The rounds of a repair, told.
use Rattle.std.proofs.Common.{◌≡◌, ◌<◌, ◌+◌, [], length, refl, subst, arith}
use Rattle.dsr_command_image.proofs.Rounds.{told_on}
use Rattle.dsr_plan_theory.specs.Plans.{IsPlan}
use Rattle.dsr_repair.proofs.RunOn.{less_left_by}
use Rattle.dsr_repair.specs.Rounds.{EndsRound}
use Rattle.dsr_repair_theory.specs.Runs.IsPartRun.{begins}
use Rattle.dsr_command_image.proofs.runs.repair_whole.Goals as goal

pub rounds-init : goal.rounds-init
rounds-init c = record {
  told = record { entries = []; steps = begins; told = c.new-text.ensures.items; counted = refl };
  under_way = c.in_ok-repair.ensures;
}

pub rounds-preserved : goal.rounds-preserved
rounds-preserved c = record {
  told = told_on c.args.plan.now.0 c.spec.result.now c.args.plan.now.1 c.args.layout.now c.args.image c.rounds.fixed c.go_on.new.image
      c.rounds.text.items c.tell_log.new.text.items c.rounds.count c.in_ok-count.count c.clear.new.self.entries c.go_on.new.log.entries
      c.spec.ensures.is c.rounds.invariant.told c.clear.ensures.entries c.go_on.ensures.round c.in_ok-count.ensures.count c.in_ok-count.ensures.told;
  under_way = c.go_on.ensures.under_way;
}

pub returns-in-Some : goal.returns-in-Some
returns-in-Some c =
    let told = told_on c.args.plan.now.0 c.spec.result.now c.args.plan.now.1 c.args.layout.now c.args.image c.rounds.fixed c.go_on.new.image
    c.rounds.text.items c.tell_log.new.text.items c.rounds.count c.in_ok-count.count c.clear.new.self.entries c.go_on.new.log.entries
    c.spec.ensures.is c.rounds.invariant.told c.clear.ensures.entries c.go_on.ensures.round c.in_ok-count.ensures.count c.in_ok-count.ensures.told in
    record {
      run = record {
        entries = told.entries;
        is = record {
          steps = told.steps;
          ends = subst (EndsRound c.args.plan.now.0 c.args.plan.now.1 c.args.layout.now c.go_on.new.image
              4096 c.clear.new.self.entries c.go_on.new.log.entries) c.in-Some.is c.in_ok-ended.ensures.ends;
        };
        told = told.told;
        counted = told.counted;
      };
    }

pub rounds-smaller : goal.rounds-smaller
rounds-smaller c =
    let told = told_on c.args.plan.now.0 c.spec.result.now c.args.plan.now.1 c.args.layout.now c.args.image c.rounds.fixed c.go_on.new.image
    c.rounds.text.items c.tell_log.new.text.items c.rounds.count c.in_ok-count.count c.clear.new.self.entries c.go_on.new.log.entries
    c.spec.ensures.is c.rounds.invariant.told c.clear.ensures.entries c.go_on.ensures.round c.in_ok-count.ensures.count c.in_ok-count.ensures.told in
    let full = subst (EndsRound c.args.plan.now.0 c.args.plan.now.1 c.args.layout.now c.go_on.new.image
    4096 c.clear.new.self.entries c.go_on.new.log.entries) c.in_default.is c.in_ok-ended.ensures.ends in
    let counted = c.in_ok-count.ensures.count in
    less_left_by c.args.plan.now.0 c.args.plan.now.1 c.args.layout.now
    (subst (λ s. IsPlan s c.args.plan.now.1) c.spec.ensures.is c.spec.ensures.plan) c.args.image c.requires.image
    c.go_on.new.image told.entries c.rounds.count c.in_ok-count.count told.steps told.counted (omega (arith, full, counted))
