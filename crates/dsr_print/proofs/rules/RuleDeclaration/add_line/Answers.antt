use Rattle.std.proofs.lemmas.Result.{on_ok_weaker}
use Rattle.dsr_print.proofs.Steps.{adds_then, line}
use Rattle.dsr_print.proofs.rules.RuleDeclaration.add_line.Goals as goal

pub returns : goal.returns
returns c = on_ok_weaker c.end_line.result (λ last. line c.in_ok-begin_line.ensures (adds_then c.in_ok-add_premise.ensures (adds_then c.in_ok-add_span.ensures (adds_then c.in_ok-add_guards.ensures (adds_then c.in_ok-add_sign.ensures (adds_then c.in_ok-add_inclusion.ensures c.in_ok-add_sign-2.ensures))))) last) c.end_line.ensures
