use Rattle.std.proofs.Common.{ℕ, arith}
use Rattle.dsr_ir.specs.declared.tuples.Fact.TheVariants as facts
use Rattle.dsr_ir.specs.declared.tuples.Target.TheVariants.{Num}
use Rattle.dsr_model.specs.Facts.{IsInModel}
use Rattle.dsr_truth.proofs.Compared.{least_tells}
use Rattle.dsr_truth.proofs.literals.least_compares.Goals as goal

pub returns-in-Some : goal.returns-in-Some
returns-in-Some c =
    least_tells (λ (v : ℕ). IsInModel c.args.model.now (facts.Pair c.args.rel c.args.source (Num v)))
    c.args.number c.args.op c.compares.result c.in-Some.value c.in-Some.ensures c.compares.ensures.computes

pub returns-in-None : goal.returns-in-None
returns-in-None c = λ value held. absurd (c.in-None.ensures value held (omega arith))
