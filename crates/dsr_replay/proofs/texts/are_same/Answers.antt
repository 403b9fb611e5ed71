use Rattle.std.proofs.Common.{rules, ◌≡◌, ◌∙◌, Decides, false, true, not, refl, sym, ap}
use Rattle.std.proofs.lemmas.Slice.Eq.{slice_eq-Decides}
use Rattle.dsr_log.specs.Entries.{head_of}
use Rattle.dsr_repair_theory.specs.declared.entries.Entry.{Entry}
use Rattle.dsr_replay.proofs.Alike.{same_entry, turned}
use Rattle.dsr_replay.proofs.texts.are_same.Goals as goal

pub returns-then-ne-2 : goal.returns-then-ne-2
returns-then-ne-2 c =
    let sets = slice_eq-Decides (λ a b. search rules) c.sets.result.now c.sets-2.result.now (not c.ne-2.result) (turned c.ne-2.ensures) in
    (λ t. absurd cc, λ same. sym (ap not c.if-ne-2.true) ∙ sets.1 (c.sets.ensures ∙ ap (λ (e : Entry). e.sets) same ∙ sym c.sets-2.ensures))

pub returns : goal.returns
returns c =
    let sets = slice_eq-Decides (λ a b. search rules) c.sets.result.now c.sets-2.result.now (not c.ne-2.result) (turned c.ne-2.ensures) in
    let bytes = slice_eq-Decides (λ a b. search rules) c.bytes.result.now c.bytes-2.result.now c.eq.result c.eq.ensures in (
      λ t. same_entry c.args.told.now c.args.made.now (sym c.head.ensures ∙ search rules ∙ c.head-2.ensures)
          (sym c.sets.ensures ∙ sets.0 (ap not c.if-ne-2.false) ∙ c.sets-2.ensures)
          (sym c.bytes.ensures ∙ bytes.0 t ∙ c.bytes-2.ensures),
      λ same. bytes.1 (c.bytes.ensures ∙ ap (λ (e : Entry). e.bytes) same ∙ sym c.bytes-2.ensures),
    )
