use Rattle.std.proofs.Common.{◌≡◌, map, take}
use Rattle.dsr_cert.specs.Searches.{is_test}
use Rattle.dsr_cert.proofs.flaws.conj_marks.Given as goal

abbrev pub invariant-loop-way : goal.invariant-loop-way
invariant-loop-way l = l.marks.items ≡ map is_test (take l.way-index l.ways)
