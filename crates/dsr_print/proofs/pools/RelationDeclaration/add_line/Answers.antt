use Rattle.std.proofs.lemmas.Result.{on_ok_weaker}
use Rattle.dsr_print.proofs.Steps.{adds_then, line}
use Rattle.dsr_print.proofs.pools.RelationDeclaration.add_line.Goals as goal

pub returns : goal.returns
returns c = on_ok_weaker c.end_line.result (λ last. line c.in_ok-begin_line.ensures (adds_then c.in_ok-add_name.ensures (adds_then c.in_ok-add_sign.ensures (adds_then c.in_ok-add_var.ensures (adds_then c.in_ok-add_sign-2.ensures (adds_then c.in_ok-add_target.ensures c.in_ok-add_sign-3.ensures))))) last) c.end_line.ensures
