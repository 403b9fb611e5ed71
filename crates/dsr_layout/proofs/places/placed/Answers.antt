use Rattle.std.proofs.Common.{inr, sym, ap, map, ◌++◌, option_map, ◌∙◌}
use Rattle.std.proofs.lemmas.Result.{err_from_is_err_and}
use Rattle.dsr_meaning.specs.Places.{placed}
use Rattle.dsr_layout.specs.Tables.{known, clip_place}
use Rattle.dsr_layout.proofs.Clipping.{fault_of, nothing_before, placed_next, placed_missing, placed_last}
use Rattle.dsr_layout.proofs.places.placed.Goals as goal

pub loop-field-init : goal.loop-field-init
loop-field-init c =
    let all = option_map (map clip_place) (placed (known c.args.fixed.now) c.args.start c.args.fields.now) in
    (c.ranges.start.fits, ap (λ qs. option_map (λ ps. qs ++ ps) all) c.new-places.ensures.items ∙ nothing_before all)

pub loop-field-preserved : goal.loop-field-preserved
loop-field-preserved c = (c.bit_behind-bit.type_inv, placed_next (known c.args.fixed.now) c.args.fields.now c.loop-field.field-index c.field-item.result c.loop-field-test.true c.field-item.is c.loop-field.bit c.loop-field.places.items c.loop-field.invariant.0 (sym c.entries_of.ensures ∙ c.in_ok-length.ensures.ok_part) c.in_ok-push.ensures.items c.bit_behind-bit.ensures c.loop-field.invariant.1)

pub returns-in_err-length-clause-refused : goal.returns-in_err-length-clause-refused
returns-in_err-length-clause-refused c =
    let p = err_from_is_err_and c.from_residual.result c.from_residual.ensures.1 in
    let missing = placed_missing (known c.args.fixed.now) c.args.fields.now c.loop-field.field-index c.field-item.result c.loop-field-test.true c.field-item.is c.loop-field.bit c.loop-field.places.items (sym c.entries_of.ensures ∙ c.in_err-length.ensures.ok_part) c.loop-field.invariant.1 in
    rw p.1 (inr (p.2 ∙ fault_of c.entries_of.result c.in_err-length.ensures.value c.in_err-length.ensures.ok_part, missing))

pub returns-clause-placed : goal.returns-clause-placed
returns-clause-placed c = placed_last (known c.args.fixed.now) c.loop-field.bit c.args.fields.now c.loop-field.field-index c.loop-field-test.false c.loop-field.invariant.1
