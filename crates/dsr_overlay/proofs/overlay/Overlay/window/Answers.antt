use Rattle.std.proofs.Common.{◌<◌, ◌≢◌, length, arith, ◌∙◌, below_more, get_or-set_other, get_or-set_same}
use Rattle.std.proofs.lemmas.List.{length-set}
use Rattle.dsr_overlay.proofs.overlay.Overlay.window.Goals as goal

pub loop-i-preserved : goal.loop-i-preserved
loop-i-preserved c = record {
  bytes =
      below_more _ _ (λ k h. let ne : k ≢ c.loop-i.i = omega arith in rw get_or-set_other (c.loop-i.invariant.bytes k h))
      (let lt : c.loop-i.i < length c.loop-i.part = omega (arith, c.loop-i.invariant.eight) in rw get_or-set_same c.byte_at.ensures);
  eight = length-set c.loop-i.part c.loop-i.i c.byte_at.result ∙ c.loop-i.invariant.eight;
}
