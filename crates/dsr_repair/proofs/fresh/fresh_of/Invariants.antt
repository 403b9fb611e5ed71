-- Each slot before this one is a member of a set that is avoided.
use Rattle.std.proofs.Common.{◌<◌, ℕ}
use Rattle.dsr_repair.specs.Supplies.{IsUsed}
use Rattle.dsr_model.specs.Facts.{IsInModel}
use Rattle.dsr_repair.proofs.fresh.fresh_of.Given as goal

abbrev pub invariant-loop-slot : goal.invariant-loop-slot
invariant-loop-slot l = (k : ℕ) → k < l.slot → IsUsed (IsInModel l.model) l.sets (record { pool = l.pool; slot = k })
