use Rattle.std.proofs.Common.{◌≡◌, ◌∙◌, true, false, refl, sym}
use Rattle.dsr_answers.specs.Texts.{field_name}
use Rattle.dsr_report.specs.Reports.{set_line}
use Rattle.dsr_report_read.proofs.Ahead.{refused}
use Rattle.dsr_report_read.proofs.Sole.{begins_as, differs, field_begins, made_set, same_path, sole_set}
use Rattle.dsr_report_read.specs.Lenient.{field_ahead}
use Rattle.dsr_report_read.specs.Reads.{IsSetAt}
use Rattle.dsr_report_read.proofs.sets.read_set_at.Goals as goal

pub returns-then-not-is_ahead : goal.returns-then-not-is_ahead
returns-then-not-is_ahead c = λ x such is.
    refused c.if-not-is_ahead.ensures
    (begins_as (field_ahead c.args.spec.now c.args.pool c.args.text.now) c.field_ahead.result.now (field_name c.args.spec.now c.args.place.structure c.args.place.field) c.field_name-name.result.now
    c.field_ahead.ensures c.field_name-name.ensures (field_begins c.args.spec.now c.args.pool c.args.place c.args.text.now x such is))

pub returns-then-not-branch : goal.returns-then-not-branch
returns-then-not-branch c =
    differs (IsSetAt c.args.spec.now c.args.pool c.args.place) (set_line c.args.spec.now) c.args.text.now c.set_in-set.result
    (λ x such is. sole_set c.args.spec.now c.args.pool c.args.place c.args.text.now x such is (record { field = c.args.place; indexed = c.is_some.result })
    (same_path c.args.spec.now c.args.pool c.args.place c.args.text.now x such is c.args.field.now c.requires.declared c.is_some.result c.is_some.ensures) c.set_in-set.result c.set_in-set.ensures)
    (λ same. let e : false ≡ true = sym c.if-not-branch.true ∙ c.in_ok-is_set.ensures.1 same in absurd cc)

pub returns : goal.returns
returns c = (
  made_set c.args.spec.now c.args.pool c.args.place c.args.text.now c.args.field.now c.requires.declared (c.if-not-has_name.ensures.0 refl) c.requires.of_pool
      c.is_some.result c.is_some.ensures c.set_in-set.result c.set_in-set.ensures (c.if-not-is_record.ensures.0 refl),
  c.in_ok-is_set.ensures.0 c.if-not-branch.false,
)
