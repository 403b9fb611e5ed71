use Rattle.std.proofs.Common.{true, false, ◌≡◌, ◌∙◌, IsSome, drop, length, sym, ap, subst, arith}
use Rattle.dsr_report_read.proofs.Ahead.{refused}
use Rattle.dsr_answers.specs.Texts.{constraint_name}
use Rattle.dsr_report.specs.Reports.{update_line}
use Rattle.dsr_report_read.proofs.Sole.{begins_as, differs, its_literal, name_begins, sole_head}
use Rattle.dsr_report_read.specs.Lenient.{behind_number, name_ahead}
use Rattle.dsr_report_read.specs.Lines.{bare}
use Rattle.dsr_report_read.specs.Reads.{IsHeadOf}
use Rattle.dsr_report_read.proofs.heads.read_head_of.Goals as goal
use Rattle.dsr_update_theory.specs.Templates.{literal_at}

pub returns-then-not-is_ahead : goal.returns-then-not-is_ahead
returns-then-not-is_ahead c = λ x such is.
    refused c.if-not-is_ahead.ensures
    (begins_as (name_ahead c.args.text.now) c.skip-2.result.now (constraint_name c.args.spec.now c.args.number) c.constraint_name.result.now
    (c.skip-2.ensures ∙ ap (drop 1) (c.number_ahead.ensures.rest ∙ ap behind_number c.skip.ensures)) c.constraint_name.ensures
    (name_begins c.args.spec.now c.requires.typed c.args.count c.args.number c.ranges.count.fits c.args.text.now x such is))

pub returns-then-not-has_literal : goal.returns-then-not-has_literal
returns-then-not-has_literal c = λ x such is.
    refused c.if-not-has_literal.ensures
    (subst (λ h. IsSome (literal_at c.args.constraint.now h.conj h.literal))
    (sym (sole_head c.args.spec.now c.requires.typed c.args.count c.args.number c.ranges.count.fits c.args.text.now x such is c.args.constraint.now c.requires.constraint c.head_in-head.result c.head_in-head.ensures))
    (its_literal c.args.spec.now c.requires.typed c.args.count c.args.number c.ranges.count.fits c.args.text.now x such is c.args.constraint.now c.requires.constraint))

pub returns-then-items-head : goal.returns-then-items-head
returns-then-items-head c = λ x such is.
    let same = ap (λ h. h.rule) (sole_head c.args.spec.now c.requires.typed c.args.count c.args.number c.ranges.count.fits c.args.text.now x such is c.args.constraint.now c.requires.constraint c.head_in-head.result c.head_in-head.ensures) in
    let less = such.is_head.rule in
    let many = ap length c.items.ensures in
    let test = c.if-items-head.true in
    absurd (omega (arith, same, less, many, test))

pub returns-then-not-branch : goal.returns-then-not-branch
returns-then-not-branch c =
    differs (IsHeadOf c.args.spec.now c.args.number) (λ h. update_line c.args.spec.now c.args.count (bare h)) c.args.text.now c.head_in-head.result
    (λ x such is. sole_head c.args.spec.now c.requires.typed c.args.count c.args.number c.ranges.count.fits c.args.text.now x such is c.args.constraint.now c.requires.constraint c.head_in-head.result c.head_in-head.ensures)
    (λ same. let e : false ≡ true = sym c.if-not-branch.true ∙ c.in_ok-is_update.ensures.1 same in absurd cc)
