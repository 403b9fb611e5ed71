use Rattle.std.proofs.Common.{ℕ, List, MatchOption, subst}
use Rattle.dsr_meaning.specs.Consistency.{IsFirstViolated, NoneIsViolated, bound_constraint}
use Rattle.dsr_model.specs.Facts.{IsInModel}
use Rattle.dsr_repair.proofs.cursors.first_by.Goals as goal

pub returns-in-Some : goal.returns-in-Some
returns-in-Some c =
    subst (λ (order : List ℕ). MatchOption c.first_after.result (NoneIsViolated (IsInModel c.args.model.now) c.args.spec.now order)
    (λ v. IsFirstViolated (IsInModel c.args.model.now) c.args.spec.now order (bound_constraint v)))
    c.deref.ensures.value c.first_after.ensures

pub returns-in-None : goal.returns-in-None
returns-in-None c =
    subst (λ (order : List ℕ). MatchOption c.first_violated.result (NoneIsViolated (IsInModel c.args.model.now) c.args.spec.now order)
    (λ v. IsFirstViolated (IsInModel c.args.model.now) c.args.spec.now order (bound_constraint v)))
    c.deref-in-None.ensures.value c.first_violated.ensures
