use Rattle.std.proofs.Common.{arith}
use Rattle.dsr_overlay.proofs.Claimed.{not_all, on_error}
use Rattle.dsr_overlay.proofs.overlay.OverlayImageBytes.claim.Goals as goal

pub returns-in_err-own-clause-needed : goal.returns-in_err-own-clause-needed
returns-in_err-own-clause-needed c =
    on_error c.from_residual.result
    (not_all c.args.at c.args.count c.div_ceil-number-end.result c.args.self.now c.loop-number.self (omega arith) (omega (arith, c.div_ceil-number-end.ensures)) c.loop-number.number c.loop-number.invariant (omega arith) (omega arith) c.in_err-own.ensures.needed)
