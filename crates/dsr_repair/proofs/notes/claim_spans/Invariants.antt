-- The bytes of the spans before this one are claimed.
use Rattle.std.proofs.Common.{◌≡◌, take}
use Rattle.dsr_image.specs.Images.{StayClaimed}
use Rattle.dsr_repair.specs.Spans.{AreSpansClaimed}
use Rattle.dsr_repair.proofs.notes.claim_spans.Given as goal

abbrev pub invariant-loop-span : goal.invariant-loop-span
invariant-loop-span g l = record {
  bytes : g.I.ImageBytes.bytes l.image ≡ g.I.ImageBytes.bytes l.fn.image;
  claimed : AreSpansClaimed (take l.span-index l.spans) (g.I.ImageBytes.claimed l.image);
  kept : StayClaimed (g.I.ImageBytes.claimed l.fn.image) (g.I.ImageBytes.claimed l.image);
}
