use Rattle.std.proofs.Common.{map, ap, ◌∙◌}
use Rattle.dsr_goal.specs.Raws.{with_trim}
use Rattle.dsr_goal.proofs.Givers.{flat_last, flat_next}
use Rattle.dsr_goal.proofs.literals.with_trims.Goals as goal

pub loop-supply-preserved : goal.loop-supply-preserved
loop-supply-preserved c = flat_next (λ s. map (with_trim s) c.args.trims.now) c.args.supplied.now c.loop-supply.supply-index c.supply-item.result c.loop-supply-test.true c.in_ok-append.ensures.items c.loop-supply.invariant (c.in_ok-more.ensures ∙ ap (λ s. map (with_trim s) c.args.trims.now) c.supply-item.is)

pub returns : goal.returns
returns c = flat_last (λ s. map (with_trim s) c.args.trims.now) c.args.supplied.now c.loop-supply.supply-index c.loop-supply-test.false c.loop-supply.invariant
