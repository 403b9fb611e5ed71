use Rattle.std.proofs.Common.{◌≡◌, map, take}
use Rattle.dsr_cert.specs.Searches.{is_test}
use Rattle.dsr_cert.proofs.flaws.marks.Given as goal

abbrev pub invariant-loop-ways : goal.invariant-loop-ways
invariant-loop-ways l = l.rows.items ≡ map (λ ways. map is_test ways) (take l.ways-index l.row.ways)
