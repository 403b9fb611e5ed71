use Rattle.std.proofs.Common.{[], take}
use Rattle.dsr_update_theory.specs.Templates.{AreOnce}
use Rattle.dsr_graph.proofs.causes.each_once.Given as goal

abbrev pub invariant-loop-cause : goal.invariant-loop-cause
invariant-loop-cause l = AreOnce [] (take l.cause-index l.causes) l.once.items
