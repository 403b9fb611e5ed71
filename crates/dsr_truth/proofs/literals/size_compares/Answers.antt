use Rattle.dsr_model.specs.Facts.{IsInModel}
use Rattle.dsr_truth.proofs.Compared.{size_meets}
use Rattle.dsr_truth.proofs.literals.size_compares.Goals as goal

pub returns-in-Some : goal.returns-in-Some
returns-in-Some c =
    size_meets (IsInModel c.args.model.now) c.args.binding.now c.args.measure.now c.args.op c.in-Some.size
    c.args.number c.compares.result c.in-Some.ensures c.compares.ensures.computes
