use Rattle.dsr_edit_text.proofs.Back.{field_word, no_field, no_record, no_text, pool_word, read_so}
use Rattle.dsr_edit_text.proofs.reading.read_set.Goals as goal

pub is_record-requires : goal.is_record-requires
is_record-requires c = record { word = pool_word c.args.second c.args.text.now c.set_in-set.result c.set_in-set.ensures }

pub is_name-requires : goal.is_name-requires
is_name-requires c = record { word = field_word c.args.second c.args.text.now c.set_in-set.result c.set_in-set.ensures }

pub returns-then-not-is_record : goal.returns-then-not-is_record
returns-then-not-is_record c = no_record c.args.second c.args.text.now c.set_in-set.result c.set_in-set.ensures c.is_record.result c.is_record.ensures c.if-not-is_record.true

pub returns-then-not-is_name : goal.returns-then-not-is_name
returns-then-not-is_name c = no_field c.args.second c.args.text.now c.set_in-set.result c.set_in-set.ensures c.is_name.result c.is_name.ensures c.if-not-is_name.true

pub returns-then-not-branch : goal.returns-then-not-branch
returns-then-not-branch c = no_text c.args.second c.args.text.now c.set_in-set.result c.set_in-set.ensures c.in_ok-is_set.field-0 c.in_ok-is_set.ensures c.if-not-branch.true

pub returns : goal.returns
returns c =
    read_so c.args.second c.args.text.now c.set_in-set.result c.set_in-set.ensures c.is_record.result c.is_name.result c.in_ok-is_set.field-0
    c.is_record.ensures c.if-not-is_record.false c.is_name.ensures c.if-not-is_name.false c.in_ok-is_set.ensures c.if-not-branch.false
