-- An audit, from what is replayed on an image of which all is claimed.
use Rattle.std.proofs.Common.{◌≡◌, ◌<◌, ◌+◌, ◌∙◌, length, refl, sym, ap, subst, arith}
use Rattle.dsr_plan_theory.specs.Plans.{IsPlan}
use Rattle.dsr_replay.proofs.Audited.{is_audited, is_short, is_unlike_fixed, part_on, unlike_on}
use Rattle.dsr_replay.proofs.Replayed.{fault_told, handed_on, parts_none}
use Rattle.dsr_replay.specs.Audits.{IsAuditFault}
use Rattle.dsr_step_theory.specs.Images.{IsImageOf}
use Rattle.dsr_replay.proofs.auditing.audit.Goals as goal

pub returns-in_err-claim-clause-part : goal.returns-in_err-claim-clause-part
returns-in_err-claim-clause-part g c = parts_none c.args.plan.now.0 c.args.plan.now.1 c.args.layout.now (g.I.ImageBytes.bytes c.args.image.now) c.args.log.now.entries (g.I.ImageBytes.bytes c.claim.new.self) c.claim.ensures.bytes

pub replay_all-requires-clause-planned : goal.replay_all-requires-clause-planned
replay_all-requires-clause-planned g c = subst (λ s. IsPlan s c.args.plan.now.1) c.spec.ensures.is c.spec.ensures.plan

pub replay_all-requires-clause-image : goal.replay_all-requires-clause-image
replay_all-requires-clause-image g c = subst (IsImageOf c.args.plan.now.0 c.args.layout.now) (sym c.claim.ensures.bytes) c.requires.image

pub replay_all-requires-clause-claimed : goal.replay_all-requires-clause-claimed
replay_all-requires-clause-claimed g c =
    λ i from before. c.in_ok-claim.ensures.claimed i from
    (subst (λ n. i < 0 + n) (ap length c.claim.ensures.bytes ∙ sym c.len-length.ensures.count) before)

pub returns-in_err-turn-clause-refused : goal.returns-in_err-turn-clause-refused
returns-in_err-turn-clause-refused g c =
    let old = g.I.ImageBytes.bytes c.args.image.now in
    handed_on (IsAuditFault c.args.plan.now.0 c.args.plan.now.1 c.args.layout.now old c.args.log.now.entries c.args.fixed.now) c.in_err-turn.field-0.0
    (fault_told c.args.plan.now.0 c.args.plan.now.1 c.args.layout.now old c.args.log.now.entries c.args.fixed.now c.in_err-turn.field-0.0
    (unlike_on c.args.plan.now.0 c.args.plan.now.1 c.args.layout.now old (g.I.ImageBytes.bytes c.claim.new.self) c.claim.ensures.bytes c.args.log.now.entries c.in_err-turn.field-0.0 c.in_err-turn.ensures.unlike))
    c.from_residual-in_err-turn.result c.from_residual-in_err-turn.ensures.1

pub returns-in_err-turn-clause-part : goal.returns-in_err-turn-clause-part
returns-in_err-turn-clause-part g c =
    part_on c.args.plan.now.0 c.args.plan.now.1 c.args.layout.now (g.I.ImageBytes.bytes c.args.image.now) (g.I.ImageBytes.bytes c.claim.new.self) c.claim.ensures.bytes c.args.log.now.entries
    (g.I.ImageBytes.bytes c.replay_all.new.image) c.replay_all.ensures.part

pub returns-in_default : goal.returns-in_default
returns-in_default g c =
    let old = g.I.ImageBytes.bytes c.args.image.now in
    let claimed = g.I.ImageBytes.bytes c.claim.new.self in
    let reached = g.I.ImageBytes.bytes c.replay_all.new.image in
    let plan = subst (λ s. IsPlan s c.args.plan.now.1) c.spec.ensures.is c.spec.ensures.plan in
    record {
      audited = tt;
      refused = is_short c.args.plan.now.0 c.args.plan.now.1 c.args.layout.now old claimed c.claim.ensures.bytes c.args.log.now.entries reached c.in_ok-turn.ensures.replayed
          c.in_ok-turn.turn c.in_ok-turn.ensures.turn plan c.requires.image c.in_default.not-Done c.len.result c.len.ensures;
      part = part_on c.args.plan.now.0 c.args.plan.now.1 c.args.layout.now old claimed c.claim.ensures.bytes c.args.log.now.entries reached c.replay_all.ensures.part;
    }

pub returns-in-Some : goal.returns-in-Some
returns-in-Some g c =
    let old = g.I.ImageBytes.bytes c.args.image.now in
    let claimed = g.I.ImageBytes.bytes c.claim.new.self in
    let reached = g.I.ImageBytes.bytes c.replay_all.new.image in
    record {
      audited = tt;
      refused = is_unlike_fixed c.args.plan.now.0 c.args.plan.now.1 c.args.layout.now old claimed c.claim.ensures.bytes c.args.log.now.entries reached c.in_ok-turn.ensures.replayed
          c.in_ok-turn.turn c.in_ok-turn.ensures.turn c.in-Done.is c.args.fixed.now c.in-Some.place c.in-Some.ensures;
      part = part_on c.args.plan.now.0 c.args.plan.now.1 c.args.layout.now old claimed c.claim.ensures.bytes c.args.log.now.entries reached c.replay_all.ensures.part;
    }

pub returns-in-None : goal.returns-in-None
returns-in-None g c =
    let old = g.I.ImageBytes.bytes c.args.image.now in
    let claimed = g.I.ImageBytes.bytes c.claim.new.self in
    let reached = g.I.ImageBytes.bytes c.replay_all.new.image in
    record {
      audited = is_audited c.args.plan.now.0 c.args.plan.now.1 c.args.layout.now old claimed c.claim.ensures.bytes c.args.log.now.entries reached c.in_ok-turn.ensures.replayed
          c.in_ok-turn.turn c.in_ok-turn.ensures.turn c.in-Done.is c.args.fixed.now c.in-None.ensures;
      refused = tt;
      part = part_on c.args.plan.now.0 c.args.plan.now.1 c.args.layout.now old claimed c.claim.ensures.bytes c.args.log.now.entries reached c.replay_all.ensures.part;
    }
