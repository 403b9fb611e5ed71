use Rattle.std.proofs.Common.{◌≡◌, drop}
use Rattle.dsr_repair_theory.specs.Choices as said
use Rattle.dsr_repair.proofs.choosing.written_size.Given as goal

abbrev pub invariant-loop-write : goal.invariant-loop-write
invariant-loop-write l = said.written_size (drop l.write-index l.writes) ≡ said.written_size l.fn.writes
