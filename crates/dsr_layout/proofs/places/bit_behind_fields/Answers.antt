use Rattle.std.proofs.Common.{refl, sym, ◌∙◌}
use Rattle.dsr_layout.specs.Tables.{known}
use Rattle.dsr_layout.proofs.Clipping.{behind_next, behind_missing, behind_last}
use Rattle.dsr_layout.proofs.places.bit_behind_fields.Goals as goal

pub loop-field-init : goal.loop-field-init
loop-field-init c = (c.ranges.start.fits, refl)

pub loop-field-preserved : goal.loop-field-preserved
loop-field-preserved c = (c.bit_behind-bit.type_inv, behind_next (known c.args.fixed.now) c.args.fields.now c.loop-field.field-index c.field-item.result c.loop-field-test.true c.field-item.is c.loop-field.bit (sym c.entries_of.ensures ∙ c.in_ok-entries.was) c.bit_behind-bit.ensures c.loop-field.invariant.1)

pub returns-in_err-entries : goal.returns-in_err-entries
returns-in_err-entries c = c.from_residual.ensures ∙ behind_missing (known c.args.fixed.now) c.args.fields.now c.loop-field.field-index c.field-item.result c.loop-field-test.true c.field-item.is c.loop-field.bit (sym c.entries_of.ensures ∙ c.in_err-entries.was) c.loop-field.invariant.1

pub returns : goal.returns
returns c = behind_last (known c.args.fixed.now) c.loop-field.bit c.args.fields.now c.loop-field.field-index c.loop-field-test.false c.loop-field.invariant.0 c.loop-field.invariant.1
