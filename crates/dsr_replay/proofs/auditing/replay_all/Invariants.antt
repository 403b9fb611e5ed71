-- The first entries are replayed on an image with its layout and its model, and the others are left.
use Rattle.std.proofs.Common.{◌≡◌, ◌≤◌, drop, length}
use Rattle.dsr_image.specs.Images.{AreClaimed}
use Rattle.dsr_repair.specs.Cursors.{IsCursorOn}
use Rattle.dsr_repair.specs.Stepping.{IsModelled}
use Rattle.dsr_replay.specs.Audits.{IsReplayed}
use Rattle.dsr_supported.specs.Supported.{IsSupportFor}
use Rattle.std.specs.Prelude.{IfSome}
use Rattle.dsr_replay.proofs.auditing.replay_all.Given as goal

abbrev pub invariant-loop-place : goal.invariant-loop-place
invariant-loop-place g l = record {
  replayed : IsReplayed l.plan.0 l.plan.1 l.layout (g.I.ImageBytes.bytes l.fn.image) l.log.entries l.place (g.I.ImageBytes.bytes l.image);
  left : l.entries ≡ drop l.place l.log.entries;
  within : l.place ≤ length l.log.entries;
  modelled : IsModelled l.plan.0 l.layout (g.I.ImageBytes.bytes l.image) l.model;
  backed : IfSome l.backing.support (IsSupportFor l.plan.0 l.layout (g.I.ImageBytes.bytes l.image) l.rules l.model);
  cursor : IsCursorOn l.plan.0 l.plan.1 l.layout (g.I.ImageBytes.bytes l.image) l.cursor;
  claimed : AreClaimed (g.I.ImageBytes.claimed l.image) 0 (length (g.I.ImageBytes.bytes l.image));
}
