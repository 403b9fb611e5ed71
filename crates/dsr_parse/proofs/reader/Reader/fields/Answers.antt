use Rattle.std.proofs.Common.{sym, ◌∙◌}
use Rattle.dsr_parse.proofs.Passing.{passed_on, next_is, other_is, items_none, items_more, items_done, items_halt}
use Rattle.dsr_parse.proofs.PartTexts.{field_shorter}
use Rattle.dsr_parse.proofs.reader.Reader.fields.Goals as goal

pub loop-fields-init : goal.loop-fields-init
loop-fields-init c = items_none c.new-fields.ensures.items

pub returns-in_err-field-clause-err : goal.returns-in_err-field-clause-err
returns-in_err-field-clause-err c = passed_on c.from_residual.result c.from_residual.ensures.1 (items_halt (next_is (sym c.is_field.ensures ∙ c.loop-fields-test.true)) c.loop-fields.invariant c.in_err-field.ensures.err)

pub loop-fields-smaller : goal.loop-fields-smaller
loop-fields-smaller c = field_shorter c.in_ok-field.field-0 c.in_ok-field.ensures.ok

pub loop-fields-preserved : goal.loop-fields-preserved
loop-fields-preserved c = items_more (next_is (sym c.is_field.ensures ∙ c.loop-fields-test.true)) c.in_ok-push.ensures.items c.loop-fields.invariant c.in_ok-field.ensures.ok

pub returns-clause-ok : goal.returns-clause-ok
returns-clause-ok c = items_done (other_is (sym c.is_field.ensures ∙ c.loop-fields-test.false)) c.loop-fields.invariant
