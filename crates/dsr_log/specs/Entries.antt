-- An entry in parts.
use Rattle.std.specs.Prelude.{List}
use Rattle.dsr_log.specs.declared.entries.EntryHead.{EntryHead}
use Rattle.dsr_repair_theory.specs.declared.entries.ByteChange.{ByteChange}
use Rattle.dsr_repair_theory.specs.declared.entries.CellSet.{CellSet}
use Rattle.dsr_repair_theory.specs.declared.entries.Entry.{Entry}

-- the entry with this head, these sets and these bytes
abbrev pub entry_of : EntryHead → List CellSet → List ByteChange → Entry
entry_of head sets bytes = record {
  constraint = head.constraint;
  binding = head.binding;
  conj = head.conj;
  literal = head.literal;
  rule = head.rule;
  reset = head.reset;
  sets = sets;
  bytes = bytes;
}

-- the entry's head
abbrev pub head_of : Entry → EntryHead
head_of entry = record {
  constraint = entry.constraint;
  binding = entry.binding;
  conj = entry.conj;
  literal = entry.literal;
  rule = entry.rule;
  reset = entry.reset;
}
