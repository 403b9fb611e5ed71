-- The writes before this one are made, and this is what they set; there is room for what the others set.
use Rattle.std.proofs.Common.{◌≡◌, ◌≤◌, ◌+◌, ◌-◌, All, length, take}
use Rattle.std.specs.Prelude.{IfSome, vec_capacity, vec_len}
use Rattle.dsr_image.specs.Images.{IsCellClaimed}
use Rattle.dsr_repair_theory.specs.Entries.{AreSet}
use Rattle.dsr_step_theory.specs.Steps.{written_cell}
use Rattle.dsr_repair.proofs.entries.set_all.Given as goal

abbrev pub invariant-loop-write : goal.invariant-loop-write
invariant-loop-write g l = record {
  set : AreSet l.spec l.layout l.step (take l.write-index l.writes) (g.I.ImageBytes.bytes l.fn.image) (g.I.ImageBytes.bytes l.image) l.sets.items;
  long : length (g.I.ImageBytes.bytes l.image) ≡ length (g.I.ImageBytes.bytes l.fn.image);
  kept : g.I.ImageBytes.claimed l.image ≡ g.I.ImageBytes.claimed l.fn.image;
  claimed : All (λ w. IfSome (written_cell l.layout l.step w) (IsCellClaimed (g.I.ImageBytes.claimed l.image))) l.writes;
  room : vec_len l.sets + (length l.writes - l.write-index) ≤ vec_capacity l.sets;
}
