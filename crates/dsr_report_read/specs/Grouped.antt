-- Lines in a row, as entries.
use Rattle.std.specs.Prelude.{List, [], ◌∷◌, Option, None, Some, drop, length}
use Rattle.std.specs.Option.{option_map_or}
use Rattle.dsr_ir.specs.declared.tuples.Element.{Element}
use Rattle.dsr_log.specs.declared.entries.EntryHead.{EntryHead}
use Rattle.dsr_repair_theory.specs.declared.entries.ByteChange.{ByteChange}
use Rattle.dsr_repair_theory.specs.declared.entries.CellSet.{CellSet}
use Rattle.dsr_repair_theory.specs.declared.entries.Entry.{Entry}
use Rattle.dsr_report_read.specs.declared.lines.Head.{Head}
use Rattle.dsr_report_read.specs.declared.lines.Line.{Line}
use Rattle.dsr_report_read.specs.declared.lines.Line.TheVariants as lines

-- ---- what a line tells

abbrev pub head_of : Line → Option Head
head_of (lines.Update head) = Some head
head_of line = None

abbrev pub reset_of : Line → Option Element
reset_of (lines.Reset elem) = Some elem
reset_of line = None

abbrev pub set_of : Line → Option CellSet
set_of (lines.Set set) = Some set
set_of line = None

abbrev pub change_of : Line → Option ByteChange
change_of (lines.Byte change) = Some change
change_of line = None

-- ---- lines in a row

-- what the lines at the front tell, as long as they tell such a thing
abbrev pub told_ahead : {T : Type 0} → (Line → Option T) → List Line → List T
told_ahead tells [] = []
told_ahead tells (line ∷ rest) = option_map_or (λ x. x ∷ told_ahead tells rest) (tells line) []

-- the reset at the front, and what stands behind it
abbrev pub reset_ahead : List Line → Option Element
reset_ahead [] = None
reset_ahead (line ∷ rest) = reset_of line

abbrev pub behind_reset : List Line → List Line
behind_reset [] = []
behind_reset (line ∷ rest) = option_map_or (λ _. rest) (reset_of line) (line ∷ rest)

abbrev pub sets_ahead : List Line → List CellSet
sets_ahead lines = told_ahead set_of lines

abbrev pub bytes_ahead : List Line → List ByteChange
bytes_ahead lines = told_ahead change_of lines

-- what is told of an update beside what it changed
abbrev pub head_with : Head → Option Element → EntryHead
head_with head reset = record {
  constraint = head.constraint;
  binding = head.binding;
  conj = head.conj;
  literal = head.literal;
  rule = head.rule;
  reset = reset;
}

-- the entry of an update with what stands behind it
abbrev pub entry_of : Head → List Line → Entry
entry_of head rest = record {
  constraint = head.constraint;
  binding = head.binding;
  conj = head.conj;
  literal = head.literal;
  rule = head.rule;
  reset = reset_ahead rest;
  sets = sets_ahead (behind_reset rest);
  bytes = bytes_ahead (drop (length (sets_ahead (behind_reset rest))) (behind_reset rest));
}

abbrev pub entries_of : List Line → List Entry
entries_of [] = []
entries_of (line ∷ rest) =
    option_map_or (λ head. entry_of head rest ∷ entries_of rest) (head_of line) (entries_of rest)
