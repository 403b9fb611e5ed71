use Rattle.std.proofs.Common.{ap, not, ◌∙◌}
use Rattle.dsr_language_theory.specs.Names.{is_at}
use Rattle.dsr_names.proofs.Finding.{finds_then, finds_when}
use Rattle.dsr_struct.proofs.lookups.Names.check_structure.Goals as goal

pub returns : goal.returns
returns c =
    finds_then (finds_when _ _ (ap not (c.is_at-is_first.ensures ∙ ap (is_at c.args.number) c.structure.ensures)) c.note_if.ensures)
    (finds_then c.note_if-2.ensures (finds_then c.check_parent.ensures c.check_fields.ensures))
