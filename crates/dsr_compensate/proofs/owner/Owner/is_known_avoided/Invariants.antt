use Rattle.std.proofs.Common.{◌<◌, ℕ}
use Rattle.dsr_update_theory.specs.Avoided.{IsAvoided}
use Rattle.dsr_update_theory.specs.KnownSets.{IsKnown}
use Rattle.dsr_compensate.proofs.owner.Owner.is_known_avoided.Given as goal

-- none of the sets so far is known and avoided
abbrev pub invariant-loop-set : goal.invariant-loop-set
invariant-loop-set l =
    (set : ℕ) → set < l.set → IsKnown l.fn.self.spec.now l.fn.self.constraint.now.quant l.var set → IsAvoided l.fn.self.spec.now l.avoid set → ⊥
