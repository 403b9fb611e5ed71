use Rattle.std.proofs.Common.{◌≡◌, ◌∙◌, true, false, sym}
use Rattle.dsr_report.specs.Reports.{byte_line}
use Rattle.dsr_report_read.proofs.Sole.{differs, sole_change}
use Rattle.dsr_report_read.specs.Forms.{IsChange}
use Rattle.dsr_report_read.proofs.records.read_change.Goals as goal

pub returns-then-not-branch : goal.returns-then-not-branch
returns-then-not-branch c =
    differs IsChange byte_line c.args.text.now c.change_in-change.result (sole_change c.args.text.now c.change_in-change.result c.change_in-change.ensures)
    (λ same. let e : false ≡ true = sym c.if-not-branch.true ∙ c.in_ok-is_change.ensures.1 same in absurd cc)
