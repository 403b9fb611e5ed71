use Rattle.std.proofs.Common.{◌≡◌}
use Rattle.dsr_command_edit.proofs.Stepped.{AreMadeTo}
use Rattle.dsr_edit_text.specs.Shown.{shown_groups}
use Rattle.dsr_command_edit.proofs.editing.edit_groups.Given as goal

abbrev pub invariant-loop-number : goal.invariant-loop-number
invariant-loop-number l = record {
  spec_is : l.session.0 ≡ l.spec;
  layout_is : l.session.1 ≡ l.fn.session.1;
  made : AreMadeTo l.spec l.fn.session.1 (shown_groups l.groups) l.number l.line l.fn.session.2 l.session.2;
}
