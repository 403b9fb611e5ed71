-- All slots below the number are members of the sets.
use Rattle.std.proofs.Common.{◌<◌, ℕ}
use Rattle.dsr_repair.specs.Supplies.{IsUsed}
use Rattle.dsr_model.specs.Facts.{IsInModel}
use Rattle.dsr_repair.proofs.fresh.taken_to.Given as goal

abbrev pub invariant-loop-set : goal.invariant-loop-set
invariant-loop-set l = (k : ℕ) → k < l.taken → IsUsed (IsInModel l.model) l.sets (record { pool = l.pool; slot = k })
