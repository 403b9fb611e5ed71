use Rattle.std.proofs.Common.{map}
use Rattle.dsr_edit_text.proofs.Rows.{AreRead}
use Rattle.dsr_edit_text.specs.Shown.{shown, shown_groups, texts_of}
use Rattle.dsr_edit_text.proofs.reading.read_groups.Given as goal

abbrev pub invariant-loop-place : goal.invariant-loop-place
invariant-loop-place l = AreRead l.second (texts_of l.texts) l.place (shown_groups l.groups.items) (map shown l.group.items)
