use Rattle.std.proofs.lemmas.Result.{on_ok_weaker}
use Rattle.dsr_print.proofs.Steps.{adds_then, line}
use Rattle.dsr_print.proofs.structures.StructureDeclaration.add_line.Goals as goal

pub returns : goal.returns
returns c = on_ok_weaker c.end_line.result (λ last. line c.in_ok-begin_line.ensures (adds_then c.in_ok-add_name.ensures (adds_then c.in_ok-add_parent.ensures (adds_then c.in_ok-add_sign.ensures (adds_then (rw c.items.ensures at c.in_ok-add_fields.ensures) c.in_ok-add_sign-2.ensures)))) last) c.end_line.ensures
