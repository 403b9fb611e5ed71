use Rattle.std.proofs.Common.{map, ap, ◌∙◌}
use Rattle.std.proofs.lemmas.List.{take_all}
use Rattle.dsr_goal.specs.Raws.{with_trim}
use Rattle.dsr_goal.proofs.literals.with_each_trim.Goals as goal

pub returns : goal.returns
returns c = c.loop-trim.invariant ∙ ap (map (with_trim c.args.supply.now)) (take_all c.loop-trim.trim-index c.args.trims.now c.loop-trim-test.false)
