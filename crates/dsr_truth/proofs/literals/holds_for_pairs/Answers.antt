use Rattle.std.proofs.Common.{sym, subst}
use Rattle.std.specs.Prelude.{MatchBool}
use Rattle.dsr_ir.specs.declared.tuples.Binding.TheVariants as bindings
use Rattle.dsr_meaning.specs.Truth.{AtomHolds}
use Rattle.dsr_model.specs.Facts.{IsInModel}
use Rattle.dsr_truth.specs.Walks.{HoldsForPairs}
use Rattle.dsr_truth.proofs.literals.holds_for_pairs.Goals as goal

pub returns-in-Count : goal.returns-in-Count
returns-in-Count c = λ yes.
    let is_fact = IsInModel c.args.model.now in
    let literal = c.in-Some.alone in
    subst (HoldsForPairs is_fact) (sym c.in-Some.is)
    (λ x y.
    subst (λ negated. MatchBool negated (AtomHolds is_fact (bindings.Pair x y) literal.atom → ⊥) (AtomHolds is_fact (bindings.Pair x y) literal.atom)) (sym c.if-alone.false)
    (subst (AtomHolds is_fact (bindings.Pair x y)) (sym c.in-Count.is) (c.sources_compare.ensures yes x y)))
