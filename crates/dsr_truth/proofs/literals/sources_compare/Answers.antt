use Rattle.std.proofs.Common.{sym, subst}
use Rattle.dsr_ir.specs.declared.tuples.Binding.TheVariants as bindings
use Rattle.dsr_meaning.specs.Truth.{HasSize}
use Rattle.dsr_model.specs.Facts.{IsInModel}
use Rattle.dsr_truth.proofs.Compared.{smaller_compares}
use Rattle.dsr_truth.proofs.literals.sources_compare.Goals as goal

pub returns-in-Lt : goal.returns-in-Lt
returns-in-Lt c = λ yes x y.
    let own = c.in-Some-most_sources.ensures y in (
      own.n,
      subst (λ measure. HasSize (IsInModel c.args.model.now) (bindings.Pair x y) measure own.n) (sym c.in-Some.ensures) own.many,
      smaller_compares c.args.op own.n c.in-Some-most_sources.most c.args.number c.in-Lt.is own.few (c.compares.ensures.holds.0 yes),
    )
