-- What the loop of `push_complements` keeps.
use Rattle.std.proofs.Common.{◌≡◌, ◌++◌, take}
use Rattle.dsr_effect.specs.Table.{complement_flows}
use Rattle.dsr_meaning.specs.Lists.{each_at}
use Rattle.dsr_effect.proofs.rows.push_complements.Given as goal

abbrev pub invariant-loop-set : goal.invariant-loop-set
invariant-loop-set l =
    l.flows.items ≡ l.fn.flows.items ++ each_at (complement_flows l.structures) 0 (take l.set l.structures.sets)
