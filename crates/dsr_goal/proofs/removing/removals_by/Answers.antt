use Rattle.std.proofs.Common.{map, ap, ◌∙◌, arith, rules}
use Rattle.std.proofs.lemmas.Grind.{common_steps}
use Rattle.std.proofs.lemmas.List.{take_all}
use Rattle.dsr_goal.specs.Removing.{removal_by}
use Rattle.dsr_goal.proofs.removing.removals_by.Goals as goal

pub returns : goal.returns
returns c = c.loop-number.invariant ∙ ap (map (λ r. removal_by c.args.base.now c.args.var r.0 r.1.now)) (take_all c.loop-number.number-index c.args.rules.now c.loop-number-test.false)

pub loop-number-preserved : goal.loop-number-preserved
loop-number-preserved c = grind (arith, common_steps)
