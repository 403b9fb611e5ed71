use Rattle.std.proofs.Common.{◌∙◌, ◌↔◌, ℕ, IsSomeAnd, IsTrue, subst, sym}
use Rattle.dsr_ir.specs.declared.tuples.Element.{Element}
use Rattle.dsr_ir.specs.declared.tuples.Fact.TheVariants as facts
use Rattle.dsr_ir.specs.declared.tuples.Target.TheVariants.{Num}
use Rattle.dsr_meaning.specs.Instances.{Compares}
use Rattle.dsr_meaning.specs.Truth.{HasBound}
use Rattle.dsr_model.specs.Facts.{IsInModel}
use Rattle.dsr_truth.proofs.Compared.{values_meet}
use Rattle.dsr_truth.proofs.literals.value_compares.Goals as goal

pub returns : goal.returns
returns c =
    let is_fact = IsInModel c.args.model.now in
    let b = c.args.binding.now in
    let bound = c.args.bound.now in
    let held = λ (x : Element) (value : ℕ). is_fact (facts.Pair c.args.rel x (Num value)) in
    let meets = λ (x : Element).
    (n : ℕ) × HasBound is_fact b bound n × ((value : ℕ) → held x value → Compares c.args.op value n) in
    subst (λ o. IsTrue c.values_compare.result ↔ IsSomeAnd o meets) (sym c.in-Some.is ∙ c.element_of.ensures)
    (values_meet is_fact b bound c.args.op c.in-Some-bound_of.number (held c.in-Some.source)
    c.values_compare.result c.in-Some-bound_of.ensures c.values_compare.ensures)
