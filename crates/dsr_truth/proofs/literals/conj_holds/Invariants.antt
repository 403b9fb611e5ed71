use Rattle.std.proofs.Common.{All, take}
use Rattle.dsr_meaning.specs.Truth.{LiteralHolds}
use Rattle.dsr_model.specs.Facts.{IsInModel}
use Rattle.dsr_truth.proofs.literals.conj_holds.Given as goal

-- the literals so far are true
abbrev pub invariant-loop-item : goal.invariant-loop-item
invariant-loop-item l = All (LiteralHolds (IsInModel l.model) l.binding) (take l.item-index l.item-items)
