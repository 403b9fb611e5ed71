-- The record has the entries of its field, and the reset value fits them.
use Rattle.std.proofs.Common.{◌≡◌, ◌<◌, ◌^◌, ◌∙◌, length, sym, ap, subst}
use Rattle.std.specs.Prelude.{IfSome, unwrap_or}
use Rattle.dsr_meaning.specs.Cells.{width_bits}
use Rattle.dsr_meaning.specs.Legal.{entry_count}
use Rattle.dsr_step_theory.specs.Puts.{ArePut}
use Rattle.dsr_step_theory.specs.Puts.ArePut.{done}
use Rattle.dsr_update.proofs.Left.{none_without_number, none_without_place, puts_of_field}
use Rattle.dsr_update.proofs.RecordEntries.{as_long, has_entry, reset_fits}
use Rattle.dsr_update.proofs.resets.reset_field.Goals as goal
use Rattle.dsr_update.proofs.resets.reset_field.Goals.{in-Some, in-None}

pub returns-in_default-clause-put : goal.returns-in_default-clause-put
returns-in_default-clause-put g c =
    subst (λ xs. ArePut xs (g.I.ImageBytes.bytes c.args.image.now) (g.I.ImageBytes.bytes c.args.image.now))
    (none_without_place c.args.layout.now c.args.elem c.args.place c.args.field.now c.in_default.field-0-0 (sym c.reset_number.ensures ∙ c.in_default.is-0) (sym c.field_place.ensures ∙ c.in_default.is-1)) done

pub returns-in_default-2-clause-put : goal.returns-in_default-2-clause-put
returns-in_default-2-clause-put g c =
    subst (λ xs. ArePut xs (g.I.ImageBytes.bytes c.args.image.now) (g.I.ImageBytes.bytes c.args.image.now))
    (none_without_number c.args.layout.now c.args.elem c.args.place c.args.field.now (sym c.reset_number.ensures ∙ c.in_default.is-0)) done

pub put_entries-requires-clause-slot : goal.put_entries-requires-clause-slot
put_entries-requires-clause-slot g c = c.requires.can.slot

pub put_entries-requires-clause-long : goal.put_entries-requires-clause-long
put_entries-requires-clause-long g c = as_long c.args.spec.now c.args.layout.now c.args.elem (length (g.I.ImageBytes.bytes c.args.image.now)) c.requires.can

pub put_entries-requires-clause-entries : goal.put_entries-requires-clause-entries
put_entries-requires-clause-entries g c i below =
    let at = c.in-Some-Some.at in
    let counted : c.match-at.count ≡ entry_count at = elim c.match-at.branch [
      | in-Some w ↦ w.count-is ∙ sym (ap (λ o. unwrap_or o 1) w.in-Some.is)
      | in-None w ↦ w.count-is ∙ sym (ap (λ o. unwrap_or o 1) w.in-None.is)
    ] in
    has_entry c.args.spec.now c.args.layout.now c.args.elem (length (g.I.ImageBytes.bytes c.args.image.now)) c.requires.can c.args.place c.args.field.now c.requires.of_record at
    (sym c.field_place.ensures ∙ c.in-Some-Some.is-1) i (subst (λ n. i < n) counted below)

pub put_entries-requires-clause-fits : goal.put_entries-requires-clause-fits
put_entries-requires-clause-fits g c =
    let found = sym c.field_place.ensures ∙ c.in-Some-Some.is-1 in
    let value = c.in-Some-Some.value in
    subst (λ o. IfSome o (λ place. value < 2 ^ width_bits place.width)) (sym found)
    (reset_fits c.args.spec.now c.args.layout.now c.args.elem (length (g.I.ImageBytes.bytes c.args.image.now)) c.requires.can c.args.place c.args.field.now c.requires.of_record c.in-Some-Some.at found
    value (sym c.reset_number.ensures ∙ c.in-Some-Some.is-0))

pub returns-clause-put : goal.returns-clause-put
returns-clause-put g c =
    let at = c.in-Some-Some.at in
    let counted : c.match-at.count ≡ entry_count at = elim c.match-at.branch [
      | in-Some w ↦ w.count-is ∙ sym (ap (λ o. unwrap_or o 1) w.in-Some.is)
      | in-None w ↦ w.count-is ∙ sym (ap (λ o. unwrap_or o 1) w.in-None.is)
    ] in
    subst (λ xs. ArePut xs (g.I.ImageBytes.bytes c.args.image.now) (g.I.ImageBytes.bytes c.put_entries.new.image))
    (puts_of_field c.args.layout.now c.args.elem c.args.place c.args.field.now c.in-Some-Some.value c.match-at.count at
    (sym c.reset_number.ensures ∙ c.in-Some-Some.is-0) (sym c.field_place.ensures ∙ c.in-Some-Some.is-1) counted)
    c.put_entries.ensures.put
