use Rattle.std.proofs.lemmas.Result.{on_ok_weaker}
use Rattle.dsr_print.proofs.Steps.{adds_then}
use Rattle.dsr_print.proofs.structures.add_skipped.Goals as goal

pub returns : goal.returns
returns c = on_ok_weaker c.add_sign.result (λ last. adds_then (adds_then c.in_ok-add_keyword.ensures c.in_ok-add_expr.ensures) last) c.add_sign.ensures
