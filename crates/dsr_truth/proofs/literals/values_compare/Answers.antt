use Rattle.std.proofs.Common.{ℕ}
use Rattle.dsr_ir.specs.declared.tuples.Fact.TheVariants as facts
use Rattle.dsr_ir.specs.declared.tuples.Target.TheVariants.{Num}
use Rattle.dsr_model.specs.Facts.{IsInModel}
use Rattle.dsr_truth.proofs.Compared.{tells_alike, tells_down, tells_other, tells_up}
use Rattle.dsr_truth.proofs.literals.values_compare.Goals as goal

pub returns-in-Lt : goal.returns-in-Lt
returns-in-Lt c =
    tells_up (λ (v : ℕ). IsInModel c.args.model.now (facts.Pair c.args.rel c.args.source (Num v)))
    c.args.number c.args.op c.greatest_compares.result c.in-Lt.is c.greatest_compares.ensures

pub returns-in-Gt : goal.returns-in-Gt
returns-in-Gt c =
    tells_down (λ (v : ℕ). IsInModel c.args.model.now (facts.Pair c.args.rel c.args.source (Num v)))
    c.args.number c.args.op c.least_compares.result c.in-Gt.is c.least_compares.ensures

pub returns-then-least_compares : goal.returns-then-least_compares
returns-then-least_compares c =
    tells_alike (λ (v : ℕ). IsInModel c.args.model.now (facts.Pair c.args.rel c.args.source (Num v)))
    c.args.number c.args.op c.least_compares-in-Eq.result c.greatest_compares-then-least_compares.result
    c.in-Eq.is c.if-least_compares.true c.least_compares-in-Eq.ensures
    c.greatest_compares-then-least_compares.ensures

pub returns-in-Ne : goal.returns-in-Ne
returns-in-Ne c =
    tells_other (λ (v : ℕ). IsInModel c.args.model.now (facts.Pair c.args.rel c.args.source (Num v)))
    c.args.number c.args.op c.has_value.result c.in-Ne.is c.has_value.ensures
