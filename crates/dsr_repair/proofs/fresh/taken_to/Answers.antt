-- What one set has taken is taken.
use Rattle.std.proofs.Common.{get_or}
use Rattle.std.proofs.lemmas.Option.{slice_get-get_or}
use Rattle.dsr_model.specs.Facts.{IsInModel}
use Rattle.dsr_repair.proofs.Filled.{either_to}
use Rattle.dsr_repair.proofs.Taken.{taken_here}
use Rattle.dsr_repair.specs.Supplies.{IsUsed}
use Rattle.dsr_repair.proofs.fresh.taken_to.Goals as goal

pub loop-set-preserved : goal.loop-set-preserved
loop-set-preserved c =
    let sets = c.args.sets.now in
    let at = c.loop-set.set-index in
    either_to (λ k. IsUsed (IsInModel c.args.model.now) sets (record { pool = c.args.pool; slot = k })) c.loop-set.taken c.filled_to.result
    c.later-taken.result c.later-taken.ensures c.loop-set.invariant
    (λ k below. taken_here (IsInModel c.args.model.now) sets (record { pool = c.args.pool; slot = k }) at (get_or sets at 0)
    (slice_get-get_or sets at 0 c.loop-set-test.true) (c.filled_to.ensures k below))
