use Rattle.std.proofs.Common.{arith}
use Rattle.std.proofs.lemmas.Grind.{common_steps}
use Rattle.dsr_answers.proofs.Violated.{some_violated}
use Rattle.dsr_answers.proofs.verdicts.verdict.Goals as goal

pub returns : goal.returns
returns c =
    some_violated c.args.spec.now c.args.violations.now c.push-2.new.text.items
    (grind (arith, common_steps)) (grind (arith, common_steps))

pub returns-then-is_empty : goal.returns-then-is_empty
returns-then-is_empty c = grind (arith, common_steps)

pub loop-constraint-preserved : goal.loop-constraint-preserved
loop-constraint-preserved c = grind (arith, common_steps)
