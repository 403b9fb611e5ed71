use Rattle.std.proofs.Common.{refl}
use Rattle.dsr_meaning.specs.Consistency.{ConjHolds, IsBinding}
use Rattle.dsr_model.specs.Facts.{IsInModel}
use Rattle.dsr_truth.proofs.Satisfying.{some_or_none, tells_second_of}
use Rattle.dsr_truth.specs.Walks.{IsSatisfied, IsUnsatisfied}
use Rattle.dsr_truth.proofs.violated.is_violated.Goals as goal

pub returns-then-is_binding : goal.returns-then-is_binding
returns-then-is_binding c =
    let is_fact = IsInModel c.args.model.now in
    let b = c.args.binding.now in
    let constraint = c.args.constraint.now in
    let apart = some_or_none (ConjHolds is_fact b) constraint.conjs in
    tells_second_of (IsSatisfied is_fact b constraint) (IsUnsatisfied is_fact b constraint) apart
    (IsBinding is_fact constraint.quant b) c.is_satisfied.result (c.if-is_binding.ensures.0 refl)
    c.is_satisfied.ensures
