-- The bytes of the writes up to this one, with those that are left, are all.
use Rattle.std.proofs.Common.{◌≡◌, ◌++◌, drop}
use Rattle.std.specs.List.{filter_map}
use Rattle.dsr_repair.specs.Spans.{AreWithin, step_spans, write_span}
use Rattle.dsr_repair.proofs.touched.touched.Given as goal

abbrev pub invariant-loop-write : goal.invariant-loop-write
invariant-loop-write l = record {
  spans : l.spans.items ++ filter_map (write_span l.layout l.step) (drop l.write-index l.writes) ≡ step_spans l.layout l.step l.writes;
  within : AreWithin l.spans.items l.layout.length;
}
