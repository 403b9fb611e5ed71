use Rattle.std.proofs.Common.{◌≡◌, true, false, ◌∙◌, sym, ap, arith}
use Rattle.std.proofs.lemmas.Grind.{common_steps}
use Rattle.dsr_report.specs.Reports.{reset_line}
use Rattle.dsr_report_read.proofs.Sole.{differs, sole_reset}
use Rattle.dsr_report_read.specs.Lenient.{element_ahead}
use Rattle.dsr_report_read.specs.Reads.{IsRecordIn}
use Rattle.dsr_report_read.proofs.records.read_reset_in.Goals as goal

pub returns-then-not-branch : goal.returns-then-not-branch
returns-then-not-branch c =
    differs (IsRecordIn c.args.spec.now c.args.pool) (reset_line c.args.spec.now) c.args.text.now c.element.result.0
    (λ x such is. sole_reset c.args.spec.now c.args.pool c.args.text.now x such is c.element.result.0 (c.element.ensures.elem ∙ ap (element_ahead c.args.spec.now c.args.pool) c.skip-2.ensures))
    (λ same. let e : false ≡ true = sym c.if-not-branch.true ∙ c.in_ok-is_reset.ensures.1 same in absurd cc)

pub returns-then-not-is_ahead : goal.returns-then-not-is_ahead
returns-then-not-is_ahead c = grind (arith, common_steps)
