use Rattle.std.proofs.Common.{◌≡◌, ◌+◌, suc, ap, ◌∙◌, arith}
use Rattle.dsr_meaning.specs.Lists.{each_at}
use Rattle.dsr_meaning.specs.Refusals.{Overlap, refused_when, share_byte}
use Rattle.dsr_layout.specs.Ranges.{range_of}
use Rattle.dsr_layout.specs.Telling.{told_of}
use Rattle.dsr_layout.proofs.Items.{item_is}
use Rattle.dsr_layout.proofs.Looking.{each_at_map, goes_on, none_where}
use Rattle.dsr_layout.proofs.pool_checks.overlap_with.Goals as goal

pub loop-i-init : goal.loop-i-init
loop-i-init c =
    let next : c.args.number + 1 + 0 ≡ suc c.args.number = omega arith in
    ap (λ n. told_of (each_at (λ q r. refused_when (share_byte (range_of c.args.range.now) (range_of r)) (Overlap c.args.number q)) n c.args.later.now)) next
    ∙ ap told_of (each_at_map _ range_of (suc c.args.number) c.args.later.now)

pub loop-i-preserved : goal.loop-i-preserved
loop-i-preserved c =
    goes_on _ c.args.later.now c.loop-i.i _ (c.args.number + 1 + c.loop-i.i) _ c.loop-i-test.true (item_is c.args.later.now c.loop-i.i _ c.loop-i-test.true) (omega arith) (none_where _ c.if-share_byte.ensures)
    ∙ c.loop-i.invariant
