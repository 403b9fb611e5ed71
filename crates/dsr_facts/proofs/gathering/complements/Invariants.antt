use Rattle.std.proofs.Common.{◌≡◌, take}
use Rattle.dsr_meaning.specs.Lists.{each_at}
use Rattle.dsr_update_theory.specs.Facts.{complement_by}
use Rattle.dsr_facts.proofs.gathering.complements.Given as goal

abbrev pub invariant-loop-set : goal.invariant-loop-set
invariant-loop-set l = l.pairs.items ≡ each_at complement_by 0 (take l.set l.declared-items)
