use Rattle.std.proofs.Common.{arith}
use Rattle.std.proofs.lemmas.Grind.{common_steps}
use Rattle.dsr_syntax_theory.specs.TreeTexts.{more_guard_text}
use Rattle.dsr_print.proofs.Steps.{adds_item, adds_then}
use Rattle.dsr_print.proofs.rules.add_more_guards.Goals as goal

pub loop-guard-preserved : goal.loop-guard-preserved
loop-guard-preserved c = adds_item more_guard_text c.args.guards.now c.loop-guard.guard-index c.guard-item.result c.loop-guard-test.true c.guard-item.is c.loop-guard.invariant (adds_then c.in_ok-add_keyword.ensures c.in_ok-add_guard.ensures)

pub returns : goal.returns
returns c = grind (arith, common_steps)
