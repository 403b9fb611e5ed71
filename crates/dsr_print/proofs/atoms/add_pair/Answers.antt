use Rattle.std.proofs.lemmas.Result.{on_ok_weaker}
use Rattle.dsr_print.proofs.Steps.{adds_then}
use Rattle.dsr_print.proofs.atoms.add_pair.Goals as goal

pub returns : goal.returns
returns c = on_ok_weaker c.add_name.result (λ last. adds_then c.in_ok-add_sign.ensures (adds_then c.in_ok-add_var.ensures (adds_then c.in_ok-add_sign-2.ensures (adds_then c.in_ok-add_var-2.ensures (adds_then c.in_ok-add_sign-3.ensures (adds_then c.in_ok-add_keyword.ensures last)))))) c.add_name.ensures
