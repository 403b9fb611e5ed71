-- What `push_complements` leaves to show.
use Rattle.std.proofs.Common.{◌≤◌, ◌++◌, length, ap, subst, ◌∙◌, take_all}
use Rattle.dsr_effect.specs.Table.{complement_flows}
use Rattle.dsr_meaning.specs.Lists.{each_at}
use Rattle.dsr_effect.proofs.FlowLists.{complements_more}
use Rattle.dsr_effect.proofs.rows.push_complements.Goals as goal

pub loop-set-preserved : goal.loop-set-preserved
loop-set-preserved c =
    complements_more c.args.structures.now c.items-declared-items.result.now c.args.structures.now.sets c.items-declared-items.ensures c.loop-set.set c.declared-item.result c.loop-set-test.true c.declared-item.is
    c.args.flows.now.items c.loop-set.flows.items c.push_complement.new.flows.items c.loop-set.invariant c.in_ok-push_complement.ensures

pub returns : goal.returns
returns c =
    let base = c.args.structures.now in
    let past = subst (λ ys. length ys ≤ c.loop-set.set) c.items-declared-items.ensures c.loop-set-test.false in
    c.loop-set.invariant ∙ ap (λ ys. c.args.flows.now.items ++ each_at (complement_flows base) 0 ys) (take_all c.loop-set.set base.sets past)
