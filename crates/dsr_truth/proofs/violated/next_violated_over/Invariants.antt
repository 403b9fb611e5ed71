use Rattle.std.proofs.Common.{IfSome}
use Rattle.dsr_model.specs.Facts.{IsInModel}
use Rattle.dsr_truth.proofs.Searching.{IsSearched}
use Rattle.dsr_truth.specs.Walks.{MayBind, bindings_after}
use Rattle.dsr_truth.proofs.violated.next_violated_over.Given as goal

-- no binding so far is violated
abbrev pub invariant-loop-binding : goal.invariant-loop-binding
invariant-loop-binding l = record {
  searched : IsSearched (IsInModel l.model) l.constraint l.fn.before l.last;
  kind : IfSome l.last (MayBind l.model l.quant);
}

abbrev pub decreases-loop-binding : goal.decreases-loop-binding
decreases-loop-binding l = bindings_after l.model l.quant l.last
