use Rattle.std.proofs.Common.{sym, ◌∙◌}
use Rattle.dsr_names.proofs.Finding.{finds_then, finds_when}
use Rattle.dsr_struct.proofs.lookups.Names.check_named_field.Goals as goal
use Rattle.dsr_struct.proofs.lookups.Names.check_named_field.Goals.{then-is_some, else-is_some}

pub returns : goal.returns
returns c =
    finds_then (finds_when _ _ c.is_declared_above-is_twice.ensures c.note_if.ensures)
    (finds_then c.note_if-2.ensures
    (finds_then (finds_when _ _ c.is_misaligned.ensures c.note_if-3.ensures)
    (finds_then (finds_when _ _ (elim c.if-is_some.branch [
      | then-is_some w ↦ rw (sym w.if-is_some.ensures) (w.is_misplaced-is ∙ w.is_misplaced-is_misplaced.ensures)
      | else-is_some w ↦ rw (sym c.is_some.ensures ∙ w.if-is_some.false) (w.is_misplaced-is ∙ w.if-is_some.false)
    ]) c.note_if-4.ensures)
    (finds_then c.check_width.ensures (finds_then c.check_maybe_expr.ensures c.check_content.ensures)))))
