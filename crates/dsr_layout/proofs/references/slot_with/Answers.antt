use Rattle.std.proofs.Common.{ap, sym, ◌∙◌, arith}
use Rattle.std.specs.Prelude.{is_some}
use Rattle.dsr_layout.proofs.Codes.{before_codes, at_steps, beside_steps}
use Rattle.dsr_layout.proofs.references.slot_with.Goals as goal
use Rattle.dsr_layout.proofs.references.slot_with.Goals.{else-distance-pool-eq0-via-then-distance-pool-eq0+else-slot-pool, else-distance-pool-eq0-via-else-distance-pool-eq0}

pub returns-in_err-distance-clause-code : goal.returns-in_err-distance-clause-code
returns-in_err-distance-clause-code c =
    let missed = c.in_err-distance.ensures in
    ap is_some c.from_residual.ensures ∙ sym (before_codes c.args.pool.now c.args.value c.args.pool.now.count (omega (arith, missed)))

pub returns-then-slot-pool-clause-code : goal.returns-then-slot-pool-clause-code
returns-then-slot-pool-clause-code c =
    let p = c.in_ok-distance.ensures in
    sym (at_steps c.args.pool.now c.args.value c.args.pool.now.count p.0 (rw p.1 at c.if-distance-pool-eq0.true) (rw p.1 at c.if-slot-pool.true))

pub returns-else-distance-pool-eq0-clause-code : goal.returns-else-distance-pool-eq0-clause-code
returns-else-distance-pool-eq0-clause-code c =
    let p = c.in_ok-distance.ensures in
    sym (beside_steps c.args.pool.now c.args.value c.args.pool.now.count c.requires.step (elim c.else-distance-pool-eq0.branch [
      | else-distance-pool-eq0-via-then-distance-pool-eq0+else-slot-pool w ↦ λ whole below. let q = rw p.1 at w.if-slot-pool.false in omega (arith, q, below)
      | else-distance-pool-eq0-via-else-distance-pool-eq0 w ↦ λ whole below. (rw p.1 at w.if-distance-pool-eq0.false) whole
    ]))
