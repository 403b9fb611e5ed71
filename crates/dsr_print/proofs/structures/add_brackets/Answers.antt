use Rattle.std.proofs.lemmas.Result.{on_ok_weaker}
use Rattle.dsr_print.proofs.Steps.{adds_then}
use Rattle.dsr_print.proofs.structures.add_brackets.Goals as goal

pub returns : goal.returns
returns c = on_ok_weaker c.add_sign-2.result (λ last. adds_then (adds_then c.in_ok-add_sign.ensures c.in_ok-add_expr.ensures) last) c.add_sign-2.ensures
