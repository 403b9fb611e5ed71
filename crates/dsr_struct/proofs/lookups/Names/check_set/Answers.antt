use Rattle.std.proofs.Common.{ap, not, ◌∙◌, is_none}
use Rattle.dsr_language_theory.specs.Names.{is_at}
use Rattle.dsr_names.proofs.Finding.{finds_then, finds_when}
use Rattle.dsr_struct.proofs.lookups.Names.check_set.Goals as goal

pub returns : goal.returns
returns c =
    finds_then (finds_when _ _ (ap not (c.is_at-is_first.ensures ∙ ap (is_at c.args.number) c.set.ensures)) c.note_if.ensures)
    (finds_then c.note_if-2.ensures (finds_then (finds_when _ _ (ap is_none c.pool.ensures) c.note_unknown.ensures) c.check_view.ensures))
