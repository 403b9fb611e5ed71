use Rattle.std.proofs.Common.{take}
use Rattle.dsr_command_why.specs.Whys.{AreLines}
use Rattle.dsr_command_why.proofs.lines.lines.Given as goal

-- the lines so far
abbrev pub invariant-loop-place : goal.invariant-loop-place
invariant-loop-place l = AreLines l.fn.spec l.fn.layout l.fn.image (take l.place l.chain) l.text.items
