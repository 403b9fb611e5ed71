use Rattle.std.proofs.Common.{None, Some, subst, sym}
use Rattle.dsr_ir.specs.declared.constraints.Measure.TheVariants.{Out}
use Rattle.dsr_ir.specs.declared.constraints.Var.TheVariants.{First}
use Rattle.dsr_ir.specs.declared.tuples.Binding.TheVariants.{Each}
use Rattle.dsr_ir.specs.declared.tuples.Fact.{Fact}
use Rattle.dsr_ir.specs.declared.tuples.Fact.TheVariants as facts
use Rattle.dsr_ir.specs.declared.tuples.Target.{Target}
use Rattle.dsr_ir.specs.declared.tuples.Target.TheVariants.{Elem, Num}
use Rattle.dsr_meaning.specs.Looking.{FindsGreatestCounted}
use Rattle.dsr_model.specs.Facts.{IsInModel}
use Rattle.dsr_truth.proofs.Compared.{greatest_value}
use Rattle.dsr_truth.specs.Values.{FindsGreatestValue}
use Rattle.dsr_truth.proofs.literals.greatest_value.Goals as goal

pub returns-in_err-fact : goal.returns-in_err-fact
returns-in_err-fact c =
    let is_fact = IsInModel c.args.model.now in
    subst (FindsGreatestValue (λ value. is_fact (facts.Pair c.args.rel c.args.source (Num value))))
    (sym c.from_residual.ensures) (greatest_value is_fact c.args.rel c.args.source None c.in_err-fact.ensures)

pub returns-in-Num : goal.returns-in-Num
returns-in-Num c =
    let is_fact = IsInModel c.args.model.now in
    let finds = λ (f : Fact). FindsGreatestCounted is_fact (Each c.args.source) (Out First c.args.rel) (Some f) in
    let pair = λ (t : Target). facts.Pair c.in-Pair.field-0 c.in-Pair.field-1 t in
    let most = subst finds c.in-Pair.is c.in_ok-fact.ensures in
    greatest_value is_fact c.args.rel c.args.source (Some (pair (Num c.in-Num.value)))
    (subst (λ t. finds (pair t)) c.in-Num.is most)

pub returns-in-Elem : goal.returns-in-Elem
returns-in-Elem c =
    let is_fact = IsInModel c.args.model.now in
    let finds = λ (f : Fact). FindsGreatestCounted is_fact (Each c.args.source) (Out First c.args.rel) (Some f) in
    let pair = λ (t : Target). facts.Pair c.in-Pair.field-0 c.in-Pair.field-1 t in
    let most = subst finds c.in-Pair.is c.in_ok-fact.ensures in
    greatest_value is_fact c.args.rel c.args.source (Some (pair (Elem c.in-Elem.field-0)))
    (subst (λ t. finds (pair t)) c.in-Elem.is most)
