use Rattle.dsr_edit_text.proofs.Spelled.{record_of_head, record_of_slot}
use Rattle.dsr_edit_text.specs.Shown.{shown}
use Rattle.dsr_edit_text.proofs.reading.is_record.Goals as goal

pub returns-in-Some : goal.returns-in-Some
returns-in-Some c = record_of_slot c.args.second (shown c.args.set.now) c.in-Some.field-0 c.in-Some.is c.is_name.result c.is_name.ensures

pub returns-in-None : goal.returns-in-None
returns-in-None c = record_of_head c.args.second (shown c.args.set.now) c.in-None.is c.is_head.result c.is_head.ensures
