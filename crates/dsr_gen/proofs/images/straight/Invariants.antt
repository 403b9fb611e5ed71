use Rattle.std.proofs.Common.{◌≡◌, ◌-◌}
use Rattle.std.specs.List.{range_with_len}
use Rattle.dsr_gen.proofs.images.straight.Given as goal

abbrev pub invariant-loop-slot : goal.invariant-loop-slot
invariant-loop-slot l = record {
  links : l.links.items ≡ range_with_len 2 (l.slot - 1);
  begun : l.number ≡ 0 → l.slot ≡ 1;
}
