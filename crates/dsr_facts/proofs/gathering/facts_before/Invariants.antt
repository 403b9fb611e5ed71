use Rattle.std.proofs.Common.{◌≡◌, ◌++◌, take}
use Rattle.std.specs.List.{flat_map}
use Rattle.dsr_meaning.specs.Lists.{each_at}
use Rattle.dsr_update_theory.specs.Facts as said
use Rattle.dsr_facts.proofs.gathering.facts_before.Given as goal

abbrev pub invariant-loop-number : goal.invariant-loop-number
invariant-loop-number l =
    (l.found.injective.items ≡ flat_map (λ c. said.injective_by (said.fact_of l.spec c)) (take l.number l.declared-items))
    × (l.found.exclusive.items ≡ each_at said.complement_by 0 l.spec.base.sets ++ flat_map (λ c. said.exclusive_by (said.fact_of l.spec c)) (take l.number l.declared-items))
    × (l.found.apart.items ≡ flat_map (λ c. said.apart_by (said.fact_of l.spec c)) (take l.number l.declared-items))
    × (l.found.from.items ≡ each_at (λ k c. said.giver_by k (said.fact_of l.spec c)) 0 (take l.number l.declared-items))
