use Rattle.dsr_cert.proofs.Appended.{text_more}
use Rattle.dsr_cert.specs.Certificates.{row_lines}
use Rattle.dsr_cert.proofs.writing.push_rows.Goals as goal

pub loop-number-preserved : goal.loop-number-preserved
loop-number-preserved c =
    text_more (row_lines c.args.spec.now) c.args.rows.now c.loop-number.number c.index-rows-number.result c.loop-number-test.true c.index-rows-number.is c.args.text.now.items c.loop-number.text.items c.push_row.new.text.items c.loop-number.invariant c.in_ok-push_row.ensures
