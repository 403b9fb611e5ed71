-- The lines of a report, one after the other.
use Rattle.std.specs.Prelude.{ℕ, ◌+◌, Bool, true, false, not, if◌then◌else◌, List, [], ◌∷◌, Option, None, Some}
use Rattle.dsr_ir.specs.declared.declarations.Spec.{Spec}
use Rattle.dsr_repair_theory.specs.declared.entries.Entry.{Entry}
use Rattle.dsr_report.specs.Reports.{byte_line, end_line, reset_line, set_line, update_line}
use Rattle.dsr_report_read.specs.declared.lines.Head.{Head}
use Rattle.dsr_report_read.specs.declared.lines.Kind.{Kind}
use Rattle.dsr_report_read.specs.declared.lines.Kind.TheVariants as kinds
use Rattle.dsr_report_read.specs.declared.lines.Line.{Line}
use Rattle.dsr_report_read.specs.declared.lines.Line.TheVariants as lines
use Rattle.dsr_report_read.specs.declared.lines.State.{State}

-- ---- a line

-- an entry that nothing else is told of
abbrev pub bare : Head → Entry
bare head = record {
  constraint = head.constraint;
  binding = head.binding;
  conj = head.conj;
  literal = head.literal;
  rule = head.rule;
  reset = None;
  sets = [];
  bytes = [];
}

-- the line, with so many updates before it
abbrev pub line_text : Spec → ℕ → Line → List ℕ
line_text spec count (lines.Update head) = update_line spec (count + 1) (bare head)
line_text spec count (lines.Reset elem) = reset_line spec elem
line_text spec count (lines.Set set) = set_line spec set
line_text spec count (lines.Byte change) = byte_line change
line_text spec count lines.End = end_line count

abbrev pub kind_of : Line → Kind
kind_of (lines.Update head) = kinds.Update
kind_of (lines.Reset elem) = kinds.Reset
kind_of (lines.Set set) = kinds.Set
kind_of (lines.Byte change) = kinds.Byte
kind_of lines.End = kinds.End

-- ---- which line may follow which

-- an update begins an entry, and the end ends the last one
abbrev pub is_outer : Kind → Bool
is_outer kinds.Update = true
is_outer kinds.End = true
is_outer kind = false

abbrev pub is_reset : Kind → Bool
is_reset kinds.Reset = true
is_reset kind = false

abbrev pub is_byte : Kind → Bool
is_byte kinds.Byte = true
is_byte kind = false

-- in an entry a reset comes first, then sets, then bytes; nothing follows the end
abbrev pub may_follow : Option Kind → Kind → Bool
may_follow None kind = is_outer kind
may_follow (Some kinds.Update) kind = true
may_follow (Some kinds.Reset) kind = not (is_reset kind)
may_follow (Some kinds.Set) kind = not (is_reset kind)
may_follow (Some kinds.Byte) kind = if is_outer kind then true else is_byte kind
may_follow (Some kinds.End) kind = false

-- ---- lines in a row

abbrev pub start : State
start = record { count = 0; last = None }

abbrev pub counted : ℕ → Line → ℕ
counted count (lines.Update head) = count + 1
counted count line = count

-- what stands before a line, and then with it
abbrev pub moved : State → Line → State
moved state line = record { count = counted state.count line; last = Some (kind_of line) }

abbrev pub state_after : State → List Line → State
state_after state [] = state
state_after state (line ∷ rest) = state_after (moved state line) rest

abbrev pub line_texts : Spec → State → List Line → List (List ℕ)
line_texts spec state [] = []
line_texts spec state (line ∷ rest) = line_text spec state.count line ∷ line_texts spec (moved state line) rest
