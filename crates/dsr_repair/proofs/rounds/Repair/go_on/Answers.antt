-- A round.
use Rattle.std.proofs.Common.{◌≡◌, ◌+◌, ◌∷◌, [], ◌∙◌, length, sym, ap, subst, arith}
use Rattle.std.proofs.lemmas.List.{length-append}
use Rattle.dsr_meaning.specs.Consistency.{IsConsistent}
use Rattle.dsr_repair.proofs.RunOn.{round_begins, round_on}
use Rattle.dsr_repair.specs.Stepping.{TakesTurn, State, state}
use Rattle.dsr_repair_theory.specs.Turns.{IsTurn}
use Rattle.dsr_repair.proofs.rounds.Repair.go_on.Goals as goal

pub loop-made-init : goal.loop-made-init
loop-made-init g c = record {
  under_way = c.requires.under_way;
  round = round_begins c.args.plan.now.0 c.args.plan.now.1 c.args.layout.now (g.I.ImageBytes.bytes c.args.image.now) c.args.log.now.entries;
  count = omega arith;
}

pub returns-in-Done-clause-ends : goal.returns-in-Done-clause-ends
returns-in-Done-clause-ends g c =
    let old = g.I.ImageBytes.bytes c.loop-made.image in
    let new = g.I.ImageBytes.bytes c.step.new.image in
    let taken = subst (TakesTurn c.args.plan.now.0 c.args.plan.now.1 c.args.layout.now (state old c.loop-made.log.entries c.loop-made.self.model) (state new c.step.new.log.entries c.step.new.model))
    c.in-Done.is c.in_ok-step.ensures.taken in
    subst (IsConsistent c.args.plan.now.0 c.args.layout.now) (sym (ap (λ (s : State). s.bytes) taken))
    (subst (IsTurn c.args.plan.now.0 c.args.plan.now.1 c.args.layout.now old) c.in-Done.is c.in_ok-step.ensures.turn)

pub loop-made-preserved : goal.loop-made-preserved
loop-made-preserved g c =
    let old = g.I.ImageBytes.bytes c.loop-made.image in
    let new = g.I.ImageBytes.bytes c.step.new.image in
    let taken = subst (TakesTurn c.args.plan.now.0 c.args.plan.now.1 c.args.layout.now (state old c.loop-made.log.entries c.loop-made.self.model) (state new c.step.new.log.entries c.step.new.model))
    c.in-Step.is c.in_ok-step.ensures.taken in
    let longer : length c.step.new.log.entries ≡ length c.loop-made.log.entries + 1 =
    ap length taken.pushed ∙ length-append c.loop-made.log.entries (taken.entry ∷ []) in
    record {
      under_way = record {
        modelled = c.step.ensures.modelled;
        rules = c.loop-made.invariant.under_way.rules;
        cursor = c.step.ensures.cursor;
        backed = c.step.ensures.backed;
      };
      round = round_on c.args.plan.now.0 c.args.plan.now.1 c.args.layout.now (g.I.ImageBytes.bytes c.args.image.now) old new
          c.args.log.now.entries c.loop-made.log.entries c.step.new.log.entries taken.entry c.loop-made.invariant.round taken.made taken.pushed;
      count = let before = c.loop-made.invariant.count in omega (arith, longer, before);
    }
