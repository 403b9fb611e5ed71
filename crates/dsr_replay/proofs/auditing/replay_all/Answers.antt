-- The entries, one after the other.
use Rattle.std.proofs.Common.{◌≡◌, ◌≤◌, ◌+◌, ◌∙◌, IfSome, suc, drop, length, refl, sym, subst, arith}
use Rattle.dsr_fixpoint.specs.Models.{IsLaidOut, IsModelOf, IsPreparedFor}
use Rattle.dsr_plan_theory.specs.declared.choices.Choice.{Choice}
use Rattle.dsr_repair.proofs.Moved.{cursor_begins, few_rows}
use Rattle.dsr_repair.proofs.StepMade.{laid_out}
use Rattle.dsr_repair.specs.Orders.{IsRepairOrder}
use Rattle.dsr_replay.proofs.Places.{left_behind, next_is, some_left}
use Rattle.dsr_replay.proofs.Replayed.{handed_on, is_unlike, parts_none, parts_some, replays_more, replays_none}
use Rattle.dsr_replay.specs.Steps.{IsUnlike}
use Rattle.dsr_replay.specs.Audits.{IsReplayed}
use Rattle.dsr_resolve.proofs.AcceptedLayouts.{legal_of}
use Rattle.dsr_supported.specs.Supported.{IsSupportFor}
use Rattle.dsr_replay.proofs.auditing.replay_all.Goals as goal

pub new-requires : goal.new-requires
new-requires g c = record {
  few = subst (λ (choice : Choice). length choice.rows ≤ 128) (sym c.choice.ensures.is)
      (few_rows c.args.plan.now.0 c.args.plan.now.1 c.requires.image.typed c.requires.planned);
}

pub returns-in_err-cursor-clause-part : goal.returns-in_err-cursor-clause-part
returns-in_err-cursor-clause-part g c = parts_none c.args.plan.now.0 c.args.plan.now.1 c.args.layout.now (g.I.ImageBytes.bytes c.args.image.now) c.args.log.now.entries (g.I.ImageBytes.bytes c.args.image.now) refl

pub prepare-requires-clause-legal : goal.prepare-requires-clause-legal
prepare-requires-clause-legal g c =
    legal_of c.args.plan.now.0 (g.I.ImageBytes.bytes c.args.image.now) c.args.layout.now c.requires.image.layout_is
    c.requires.image.typed c.requires.image.small

pub returns-in_err-model-clause-part : goal.returns-in_err-model-clause-part
returns-in_err-model-clause-part g c = parts_none c.args.plan.now.0 c.args.plan.now.1 c.args.layout.now (g.I.ImageBytes.bytes c.args.image.now) c.args.log.now.entries (g.I.ImageBytes.bytes c.args.image.now) refl

pub returns-in_err-rules-clause-part : goal.returns-in_err-rules-clause-part
returns-in_err-rules-clause-part g c = parts_none c.args.plan.now.0 c.args.plan.now.1 c.args.layout.now (g.I.ImageBytes.bytes c.args.image.now) c.args.log.now.entries (g.I.ImageBytes.bytes c.args.image.now) refl

pub rebuild-requires-clause-laid_out : goal.rebuild-requires-clause-laid_out
rebuild-requires-clause-laid_out g c =
    subst (λ s. IsLaidOut s c.args.layout.now (g.I.ImageBytes.bytes c.args.image.now)) (sym c.requires.spec)
    (laid_out c.args.plan.now.0 c.args.layout.now (g.I.ImageBytes.bytes c.args.image.now) c.requires.image)

pub loop-place-init : goal.loop-place-init
loop-place-init g c =
    let old = g.I.ImageBytes.bytes c.args.image.now in
    record {
      replayed = replays_none c.args.plan.now.0 c.args.plan.now.1 c.args.layout.now old c.args.log.now.entries;
      left = c.entries-entries.ensures;
      within = omega arith;
      modelled = record {
        image = c.requires.image;
        prepared = subst (λ s. IsPreparedFor s c.args.layout.now c.rebuild.new.model) c.requires.spec c.rebuild.ensures.prepared;
        model = subst (λ s. IsModelOf s c.args.layout.now old c.rebuild.new.model) c.requires.spec c.rebuild.ensures.model;
      };
      cursor = cursor_begins c.args.plan.now.0 c.args.plan.now.1 c.args.layout.now old c.in_ok-cursor.cursor
          (subst (λ choice. IsRepairOrder choice c.in_ok-cursor.cursor.order.items) c.choice.ensures.is c.in_ok-cursor.ensures.ordered)
          c.in_ok-cursor.ensures.begins;
      backed = subst (λ o. IfSome o (IsSupportFor c.args.plan.now.0 c.args.layout.now old c.in_ok-rules.field-0 c.rebuild.new.model)) (sym c.new-backing.ensures) tt;
      claimed = c.requires.claimed;
    }

pub next_entry-told-requires : goal.next_entry-told-requires
next_entry-told-requires g c =
    λ none. some_left c.args.log.now.entries c.loop-place.place (omega (arith, c.loop-place-test.true, c.len-place-end.ensures))
    (sym c.loop-place.invariant.left ∙ none)

pub returns-in_err-replay-clause-unlike : goal.returns-in_err-replay-clause-unlike
returns-in_err-replay-clause-unlike g c =
    let told_is = next_is c.args.log.now.entries c.loop-place.place c.next_entry-told.result c.next_entry-told.new.entries (sym c.loop-place.invariant.left ∙ c.next_entry-told.ensures) in
    handed_on (IsUnlike c.args.plan.now.0 c.args.plan.now.1 c.args.layout.now (g.I.ImageBytes.bytes c.args.image.now) c.args.log.now.entries) c.in_err-replay.field-0.0
    (is_unlike c.args.plan.now.0 c.args.plan.now.1 c.args.layout.now (g.I.ImageBytes.bytes c.args.image.now) c.args.log.now.entries c.loop-place.place (g.I.ImageBytes.bytes c.loop-place.image)
    c.loop-place.invariant.replayed c.next_entry-told.result told_is c.in_err-replay.field-0.0 c.in_err-replay.ensures.unlike)
    c.from_residual-in_err-replay.result c.from_residual-in_err-replay.ensures.1

pub loop-place-preserved : goal.loop-place-preserved
loop-place-preserved g c =
    let first = sym c.loop-place.invariant.left ∙ c.next_entry-told.ensures in
    let told_is = next_is c.args.log.now.entries c.loop-place.place c.next_entry-told.result c.next_entry-told.new.entries first in
    let next : suc c.loop-place.place ≡ c.loop-place.place + 1 = omega arith in
    let rest : drop (c.loop-place.place + 1) c.args.log.now.entries ≡ c.next_entry-told.new.entries =
    subst (λ n. drop n c.args.log.now.entries ≡ c.next_entry-told.new.entries) next (left_behind c.args.log.now.entries c.loop-place.place c.next_entry-told.result c.next_entry-told.new.entries first) in
    record {
      replayed = replays_more c.args.plan.now.0 c.args.plan.now.1 c.args.layout.now (g.I.ImageBytes.bytes c.args.image.now) c.args.log.now.entries c.loop-place.place (g.I.ImageBytes.bytes c.loop-place.image)
          c.loop-place.invariant.replayed c.next_entry-told.result told_is (g.I.ImageBytes.bytes c.replay.new.image) c.in_ok-replay.ensures.matched;
      left = sym rest;
      within = omega (arith, c.loop-place-test.true, c.len-place-end.ensures);
      modelled = c.in_ok-replay.ensures.modelled;
      backed = c.in_ok-replay.ensures.backed;
      cursor = c.in_ok-replay.ensures.cursor;
      claimed = c.in_ok-replay.ensures.claimed;
    }

pub returns-clause-replayed : goal.returns-clause-replayed
returns-clause-replayed g c =
    let all : c.loop-place.place ≡ length c.args.log.now.entries = omega (arith, c.loop-place-test.false, c.len-place-end.ensures, c.loop-place.invariant.within) in
    subst (λ n. IsReplayed c.args.plan.now.0 c.args.plan.now.1 c.args.layout.now (g.I.ImageBytes.bytes c.args.image.now) c.args.log.now.entries n (g.I.ImageBytes.bytes c.loop-place.image)) all c.loop-place.invariant.replayed

pub returns-in_err-replay-clause-part : goal.returns-in_err-replay-clause-part
returns-in_err-replay-clause-part g c =
    parts_some c.args.plan.now.0 c.args.plan.now.1 c.args.layout.now (g.I.ImageBytes.bytes c.args.image.now) c.args.log.now.entries c.loop-place.place (g.I.ImageBytes.bytes c.loop-place.image)
    (g.I.ImageBytes.bytes c.replay.new.image) c.loop-place.invariant.replayed c.in_err-replay.ensures.stays

pub returns-clause-part : goal.returns-clause-part
returns-clause-part g c = (c.loop-place.place, c.loop-place.invariant.replayed)
