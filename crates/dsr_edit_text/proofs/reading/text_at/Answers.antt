use Rattle.dsr_report_read.proofs.Row.{item_got}
use Rattle.dsr_edit_text.proofs.reading.text_at.Goals as goal

pub returns : goal.returns
returns c = item_got c.args.texts.now c.args.place _ c.requires.inside
