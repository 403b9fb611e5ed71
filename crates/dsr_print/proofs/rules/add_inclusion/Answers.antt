use Rattle.std.proofs.lemmas.Result.{on_ok_weaker}
use Rattle.dsr_print.proofs.Steps.{adds_then, placed}
use Rattle.dsr_print.proofs.rules.add_inclusion.Goals as goal

pub returns-in_ok-add_keyword-in-Pair : goal.returns-in_ok-add_keyword-in-Pair
returns-in_ok-add_keyword-in-Pair c = on_ok_weaker c.add_name.result (λ last. rw c.in-Pair.is (adds_then (placed c.in_ok-add_sign-in-Pair.ensures) (adds_then c.in_ok-add_term-in-Pair.ensures (adds_then c.in_ok-add_sign-in-Pair-2.ensures (adds_then c.in_ok-add_path-in-Pair.ensures (adds_then c.in_ok-add_sign-in-Pair-3.ensures (adds_then c.in_ok-add_keyword-in-Pair.ensures last))))))) c.add_name.ensures
