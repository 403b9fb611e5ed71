use Rattle.std.proofs.Common.{◌∙◌, length, ap, arith}
use Rattle.dsr_edit_text.proofs.Rows.{fault_told, few_lines, script_read}
use Rattle.dsr_edit_text.specs.Shown.{texts_of}
use Rattle.dsr_report_read.proofs.Row.{texts_long}
use Rattle.dsr_edit_text.proofs.reading.read.Goals as goal

pub returns-clause-read : goal.returns-clause-read
returns-clause-read c = script_read c.args.second c.args.text.now (texts_of c.deref.result.now) c.read_groups.result (ap texts_of c.deref.ensures.value ∙ c.in_ok-texts.ensures.lines) c.read_groups.ensures

pub returns-clause-few : goal.returns-clause-few
returns-clause-few c =
    let long = texts_long c.deref.result.now in
    let same = ap length c.deref.ensures.value in
    let few = c.in_ok-texts.ensures.few in
    few_lines c.args.second (texts_of c.deref.result.now) c.read_groups.result (omega (arith, long, same, few)) c.read_groups.ensures

pub returns-clause-fault : goal.returns-clause-fault
returns-clause-fault c = fault_told c.args.second c.args.text.now (texts_of c.deref.result.now) c.read_groups.result (ap texts_of c.deref.ensures.value ∙ c.in_ok-texts.ensures.lines) c.read_groups.ensures
