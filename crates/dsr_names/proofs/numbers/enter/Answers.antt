use Rattle.std.specs.Str.{bytes_eq}
use Rattle.indexmap.specs.IndexMap.{get}
use Rattle.dsr_names.proofs.Numbering.{enter_known, enter_new}
use Rattle.dsr_names.proofs.numbers.enter.Goals as goal

pub returns-then-contains_key : goal.returns-then-contains_key
returns-then-contains_key c = enter_known (get bytes_eq c.args.table.now) c.args.name.now c.args.number c.if-contains_key.ensures

pub returns : goal.returns
returns c = enter_new (get bytes_eq c.args.table.now) c.args.name.now c.args.number c.if-contains_key.ensures c.in_ok-key.ensures c.in_ok-insert.ensures.updates.0
