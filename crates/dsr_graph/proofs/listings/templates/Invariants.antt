use Rattle.std.proofs.Common.{◌≡◌, take}
use Rattle.dsr_compensate.specs.Taking.{templates_of}
use Rattle.dsr_graph.proofs.listings.templates.Given as goal

abbrev pub invariant-loop-its : goal.invariant-loop-its
invariant-loop-its l = l.templates.items ≡ templates_of (take l.its-index l.judged)
