use Rattle.std.proofs.Common.{IfSome, map}
use Rattle.dsr_model.specs.Facts.{IsInModel}
use Rattle.dsr_truth.specs.Walks.{AreFound, MayBind, bindings_after}
use Rattle.dsr_truth.proofs.violated.violations_over.Given as goal
use Rattle.dsr_meaning.specs.Consistency.{bound_constraint}

-- the violated bindings so far were found
abbrev pub invariant-loop-binding : goal.invariant-loop-binding
invariant-loop-binding l = record {
  found : AreFound (IsInModel l.model) l.spec l.number l.last (map bound_constraint l.found.items);
  kind : IfSome l.last (MayBind l.model l.quant);
}

abbrev pub decreases-loop-binding : goal.decreases-loop-binding
decreases-loop-binding l = bindings_after l.model l.quant l.last
