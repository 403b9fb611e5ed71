use Rattle.std.proofs.Common.{take}
use Rattle.dsr_compensate.specs.Taking.{pairs_of}
use Rattle.dsr_graph_theory.specs.Lists.{AreCompensable}
use Rattle.dsr_compensate.specs.Owned.{owner_of}
use Rattle.dsr_compensate.proofs.passes.all_compensable.Given as goal

abbrev pub invariant-loop-template : goal.invariant-loop-template
invariant-loop-template l = AreCompensable (owner_of l.owner) (take l.template-index l.tried) (pairs_of l.all.items)
