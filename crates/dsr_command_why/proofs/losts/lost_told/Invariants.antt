use Rattle.std.proofs.Common.{◌≡◌, take}
use Rattle.std.specs.List.{flat_map}
use Rattle.dsr_command_why.specs.Losts.{lost_line}
use Rattle.dsr_command_why.proofs.losts.lost_told.Given as goal

-- the lines so far
abbrev pub invariant-loop-elem : goal.invariant-loop-elem
invariant-loop-elem l = l.text.items ≡ flat_map (lost_line l.spec) (take l.elem-index l.lost)
