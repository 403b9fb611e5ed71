use Rattle.std.proofs.Common.{◌≡◌, take}
use Rattle.dsr_edit.proofs.puts.copied.Given as goal

-- the bytes so far
abbrev pub invariant-loop-at : goal.invariant-loop-at
invariant-loop-at l = l.bytes.items ≡ take l.at l.image
