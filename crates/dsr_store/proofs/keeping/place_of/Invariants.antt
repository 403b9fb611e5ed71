use Rattle.std.proofs.Common.{◌≡◌, drop}
use Rattle.dsr_store.specs.Keeping.{place_from}
use Rattle.dsr_store.proofs.keeping.place_of.Given as goal

abbrev pub invariant-loop-place : goal.invariant-loop-place
invariant-loop-place l = place_from l.place l.name (drop l.place l.files) ≡ place_from 0 l.name l.files
