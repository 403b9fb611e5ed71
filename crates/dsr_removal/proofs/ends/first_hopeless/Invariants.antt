use Rattle.std.proofs.Common.{◌<◌, ℕ}
use Rattle.dsr_placement.specs.Placing.{IsLeft}
use Rattle.dsr_plan_theory.specs.StuckSets.{IsHopeless}
use Rattle.dsr_removal.proofs.ends.first_hopeless.Given as goal

-- none of those so far is hopeless
abbrev pub invariant-loop-number : goal.invariant-loop-number
invariant-loop-number l = (m : ℕ) → m < l.number → IsHopeless l.spec (IsLeft l.left) m → ⊥
