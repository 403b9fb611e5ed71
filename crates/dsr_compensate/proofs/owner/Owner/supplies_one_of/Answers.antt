use Rattle.std.proofs.Common.{◌↔◌, IsTrue, sym, ap, subst}
use Rattle.dsr_ir.specs.declared.constraints.Atom.TheVariants.{Count}
use Rattle.dsr_graph_theory.specs.Sides.{SuppliesOne}
use Rattle.dsr_meaning.specs.Typed.{IsTypedMeasure}
use Rattle.dsr_compensate.proofs.Deciding.{fresh_alone, gains_fresh_alone}
use Rattle.dsr_compensate.proofs.owner.Owner.supplies_one_of.Goals as goal

pub returns-in-Whole : goal.returns-in-Whole
returns-in-Whole c = λ change op k same is.
    let declared = subst (IsTypedMeasure c.args.self.now.spec.now.base c.args.self.now.constraint.now.quant) c.in-Whole.is c.requires.measure in
    subst (λ m. IsTrue c.is_fresh_alone.result ↔ SuppliesOne change (Count m op k)) (sym c.in-Whole.is)
    (gains_fresh_alone c.args.self.now.spec.now.base c.args.effect.now c.in-Whole.set c.tags_of.result c.is_fresh_alone.result change declared (ap (λ s. s.base) same) is c.tags_of.ensures (fresh_alone c.tags_of.result c.is_fresh_alone.result c.is_fresh_alone.ensures))
