use Rattle.std.proofs.Common.{ap, is_none, not, ◌∙◌}
use Rattle.dsr_language_theory.specs.Names.{is_at}
use Rattle.dsr_names.proofs.Finding.{finds_then, finds_when}
use Rattle.dsr_struct.proofs.lookups.Names.check_pool.Goals as goal

pub returns : goal.returns
returns c =
    finds_then (finds_when _ _ (ap not (c.is_at-is_first.ensures ∙ ap (is_at c.args.number) c.pool.ensures)) c.note_if.ensures)
    (finds_then c.note_if-2.ensures (finds_then (finds_when _ _ (ap is_none c.used_structure.ensures) c.note_unknown.ensures)
    (finds_then c.check_expr.ensures (finds_then c.check_maybe_expr.ensures
    (finds_then c.check_expr-2.ensures (finds_then c.check_expr-3.ensures (finds_then c.check_expr-4.ensures c.check_expr-5.ensures)))))))
