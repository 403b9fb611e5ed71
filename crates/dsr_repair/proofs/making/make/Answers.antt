-- A step, made in place.
use Rattle.std.proofs.Common.{◌≡◌, ◌<◌, ◌∙◌, ◌++◌, ◌∷◌, [], true, All, length, ap, sym, subst, arith}
use Rattle.dsr_log.specs.Entries.{entry_of}
use Rattle.dsr_repair.proofs.Noting.{changed_are, changed_few, noted_below}
use Rattle.dsr_repair.proofs.Sets.{entry_made, sets_few}
use Rattle.dsr_repair.proofs.StepSpans.{can_reset, entries_there, fresh_claimed, step_long, writes_claimed}
use Rattle.dsr_repair.proofs.Untouched.{untouched_stay}
use Rattle.dsr_repair.specs.Notes.{AreNoted}
use Rattle.dsr_repair.specs.Spans.{AreSpansClaimed, AreWithin, step_spans}
use Rattle.dsr_repair_theory.specs.Entries.{IsEntryOf}
use Rattle.dsr_repair_theory.specs.declared.entries.ByteChange.{ByteChange}
use Rattle.dsr_repair_theory.specs.declared.entries.Entry.{Entry}
use Rattle.dsr_step_theory.specs.Steps.{CanWrite}
use Rattle.dsr_update.proofs.StepLayouts.{all_there, step_legal}
use Rattle.dsr_repair.proofs.making.make.Goals as goal

pub touched-requires-clause-legal : goal.touched-requires-clause-legal
touched-requires-clause-legal g c =
    step_legal c.args.spec.now c.args.layout.now c.args.step.now c.args.update.now
    (length (g.I.ImageBytes.bytes c.args.image.now)) c.requires.can c.requires.can.small

pub touched-requires-clause-entries : goal.touched-requires-clause-entries
touched-requires-clause-entries g c =
    entries_there c.args.spec.now c.args.layout.now c.args.step.now c.args.update.now
    (length (g.I.ImageBytes.bytes c.args.image.now)) c.requires.can c.items-writes.result.now c.items-writes.ensures

pub note_all-requires : goal.note_all-requires
note_all-requires g c =
    let bytes = length (g.I.ImageBytes.bytes c.args.image.now) in
    record {
      within = subst (λ ss. AreWithin ss bytes) (sym c.deref.ensures.value)
          (subst (AreWithin c.touched.new.spans.items) (sym (step_long c.args.spec.now c.args.layout.now c.args.step.now c.args.update.now bytes c.requires.can))
          c.in_ok-touched.ensures.within);
    }

pub claim_spans-requires : goal.claim_spans-requires
claim_spans-requires g c =
    let bytes = length (g.I.ImageBytes.bytes c.args.image.now) in
    record {
      within = subst (λ ss. AreWithin ss bytes) (sym c.deref-2.ensures.value)
          (subst (AreWithin c.touched.new.spans.items) (sym (step_long c.args.spec.now c.args.layout.now c.args.step.now c.args.update.now bytes c.requires.can))
          c.in_ok-touched.ensures.within);
    }

pub reset_fresh-requires-clause-can : goal.reset_fresh-requires-clause-can
reset_fresh-requires-clause-can g c =
    can_reset c.args.spec.now c.args.layout.now c.args.step.now c.args.update.now (length (g.I.ImageBytes.bytes c.args.image.now)) c.requires.can
    (length (g.I.ImageBytes.bytes c.claim_spans.new.image)) (ap length c.claim_spans.ensures.bytes)

pub reset_fresh-requires-clause-claimed : goal.reset_fresh-requires-clause-claimed
reset_fresh-requires-clause-claimed g c =
    let claimed = g.I.ImageBytes.claimed c.claim_spans.new.image in
    fresh_claimed claimed c.args.layout.now c.args.step.now c.items-writes.result.now
    (subst (λ ss. AreSpansClaimed ss claimed) (c.deref-2.ensures.value ∙ c.in_ok-touched.ensures.spans) c.in_ok-claim_spans.ensures.claimed)

pub set_all-requires : goal.set_all-requires
set_all-requires g c =
    let spec = c.args.spec.now in
    let layout = c.args.layout.now in
    let step = c.args.step.now in
    let update = c.args.update.now in
    let bytes = length (g.I.ImageBytes.bytes c.args.image.now) in
    let writes = c.items-writes.result.now in
    let claimed = g.I.ImageBytes.claimed c.claim_spans.new.image in
    let now = g.I.ImageBytes.claimed c.reset_fresh.new.image in
    record {
      legal = step_legal spec layout step update bytes c.requires.can c.requires.can.small;
      declared = all_there spec layout step update bytes c.requires.can writes;
      can = subst (All (CanWrite spec layout step)) (sym c.items-writes.ensures) c.requires.can.writes;
      long = c.reset_fresh.ensures.long ∙ (ap length c.claim_spans.ensures.bytes ∙ step_long spec layout step update bytes c.requires.can);
      claimed = writes_claimed now layout step writes
          (subst (AreSpansClaimed (step_spans layout step writes)) (sym c.reset_fresh.ensures.kept)
          (subst (λ ss. AreSpansClaimed ss claimed) (c.deref-2.ensures.value ∙ c.in_ok-touched.ensures.spans) c.in_ok-claim_spans.ensures.claimed));
      none = c.make_room.ensures.none;
      room = c.in_ok-make_room.ensures.room;
    }

pub keep_changed-requires : goal.keep_changed-requires
keep_changed-requires g c =
    let old = g.I.ImageBytes.bytes c.args.image.now in
    let long = c.set_all.ensures.long ∙ (c.reset_fresh.ensures.long ∙ ap length c.claim_spans.ensures.bytes) in
    subst (λ m. All (λ (n : ByteChange). n.place < m) c.note_all.new.notes.items) (sym long)
    (noted_below c.deref.result.now old 0 c.note_all.new.notes.items c.in_ok-note_all.ensures)

pub push-requires-clause-room_for_sets : goal.push-requires-clause-room_for_sets
push-requires-clause-room_for_sets g c =
    let few = sets_few c.args.spec.now c.args.layout.now c.args.step.now c.set_all.ensures.set in
    let told = ap (λ (e : Entry). length e.sets) c.new.ensures in
    let same = ap length c.deref-3.ensures.value in
    omega (arith, few, told, same, c.in_ok-reserve.ensures.room_for_sets)

pub push-requires-clause-room_for_bytes : goal.push-requires-clause-room_for_bytes
push-requires-clause-room_for_bytes g c =
    let notes = c.note_all.new.notes in
    let few = changed_few (g.I.ImageBytes.bytes c.set_all.new.image) notes.items in
    let told = ap (λ (e : Entry). length e.bytes) c.new.ensures in
    let same = ap length (c.deref-4.ensures.value ∙ c.keep_changed.ensures) in
    omega (arith, few, told, same, c.len.ensures, notes.ok.0, c.in_ok-reserve.ensures.room_for_bytes)

pub returns-clause-made : goal.returns-clause-made
returns-clause-made g c =
    let spec = c.args.spec.now in
    let layout = c.args.layout.now in
    let step = c.args.step.now in
    let update = c.args.update.now in
    let old = g.I.ImageBytes.bytes c.args.image.now in
    let between = g.I.ImageBytes.bytes c.reset_fresh.new.image in
    let new = g.I.ImageBytes.bytes c.set_all.new.image in
    let notes = c.note_all.new.notes.items in
    let sets = c.deref-3.result.now in
    let bytes = c.deref-4.result.now in
    let spans = step_spans layout step update.writes in
    let listed = c.deref.ensures.value ∙ (c.in_ok-touched.ensures.spans ∙ ap (step_spans layout step) c.items-writes.ensures) in
    let long = c.set_all.ensures.long ∙ (c.reset_fresh.ensures.long ∙ ap length c.claim_spans.ensures.bytes) in
    record {
      entry = c.new.result;
      pushed = c.push.ensures.entries ∙ ap (λ before. before ++ c.new.result ∷ []) c.reserve.ensures.same;
      told = subst (IsEntryOf spec layout step update old new)
          (sym (c.new.ensures ∙ ap (λ head. entry_of head sets bytes) c.head_of.ensures))
          (entry_made spec layout step update old (g.I.ImageBytes.bytes c.claim_spans.new.image) between new c.items-writes.result.now
          c.set_all.new.sets.items sets bytes c.claim_spans.ensures.bytes c.items-writes.ensures c.reset_fresh.ensures.put c.set_all.ensures.set c.deref-3.ensures.value
          (λ reset set. c.deref-4.ensures.value ∙ (c.keep_changed.ensures
          ∙ changed_are spans old new long (untouched_stay spec layout step update old between new c.set_all.new.sets.items c.requires.can reset set) notes
          (subst (λ ss. AreNoted ss old 0 notes) listed c.in_ok-note_all.ensures))));
    }

pub returns-clause-kept : goal.returns-clause-kept
returns-clause-kept g c = λ i is.
    subst (λ f. f i ≡ true) (sym (c.set_all.ensures.kept ∙ c.reset_fresh.ensures.kept)) (c.claim_spans.ensures.kept i is)
