use Rattle.std.proofs.lemmas.Result.{on_ok_weaker}
use Rattle.dsr_print.proofs.Steps.{adds_then}
use Rattle.dsr_print.proofs.structures.add_named_field.Goals as goal

pub returns : goal.returns
returns c = on_ok_weaker c.add_sign.result (λ last. adds_then c.in_ok-add_fixed.ensures (adds_then c.in_ok-add_width.ensures (adds_then c.in_ok-add_name.ensures (adds_then c.in_ok-add_length.ensures (adds_then c.in_ok-add_content.ensures last))))) c.add_sign.ensures
