use Rattle.std.proofs.Common.{◌≡◌, get_or, subst, sym}
use Rattle.std.specs.Prelude.{IsFalse, IsSomeAnd, IsTrue, ◌↔◌}
use Rattle.dsr_meaning.specs.Consistency.{ConjHolds}
use Rattle.dsr_model.specs.Facts.{IsInModel}
use Rattle.dsr_truth.proofs.Satisfying.{declared_at, some_or_none, tells_first, tells_second}
use Rattle.dsr_truth.specs.Walks.{IsSatisfied, IsUnsatisfied}
use Rattle.dsr_truth.proofs.literals.holds.Goals as goal

pub returns-clause-satisfied : goal.returns-clause-satisfied
returns-clause-satisfied c =
    let is_fact = IsInModel c.args.model.now in
    let b = c.args.binding.now in
    let at = c.args.constraint in
    let constraint = c.index-items-constraint.result in
    let is = subst (λ xs. constraint ≡ get_or xs at constraint) c.items.ensures c.index-items-constraint.is in
    let declared = declared_at c.args.spec.now.constraints at constraint c.requires.declared is in
    let apart = some_or_none (ConjHolds is_fact b) constraint.conjs in
    subst (λ o. IsTrue c.is_satisfied.result ↔ IsSomeAnd o (IsSatisfied is_fact b)) (sym declared)
    (tells_first (IsSatisfied is_fact b constraint) (IsUnsatisfied is_fact b constraint) apart
    c.is_satisfied.result c.is_satisfied.ensures)

pub returns-clause-unsatisfied : goal.returns-clause-unsatisfied
returns-clause-unsatisfied c =
    let is_fact = IsInModel c.args.model.now in
    let b = c.args.binding.now in
    let at = c.args.constraint in
    let constraint = c.index-items-constraint.result in
    let is = subst (λ xs. constraint ≡ get_or xs at constraint) c.items.ensures c.index-items-constraint.is in
    let declared = declared_at c.args.spec.now.constraints at constraint c.requires.declared is in
    let apart = some_or_none (ConjHolds is_fact b) constraint.conjs in
    subst (λ o. IsFalse c.is_satisfied.result ↔ IsSomeAnd o (IsUnsatisfied is_fact b)) (sym declared)
    (tells_second (IsSatisfied is_fact b constraint) (IsUnsatisfied is_fact b constraint) apart
    c.is_satisfied.result c.is_satisfied.ensures)
