use Rattle.std.proofs.Common.{subst, sym}
use Rattle.dsr_model.specs.Facts.{IsInModel}
use Rattle.dsr_truth.specs.Walks.{FindsLeastBinding, IsLaterBinding}
use Rattle.dsr_truth.proofs.walks.next_binding.Goals as goal

pub returns-in-None-clause-next : goal.returns-in-None-clause-next
returns-in-None-clause-next c =
    let later = IsLaterBinding (IsInModel c.args.model.now) c.args.quant in
    subst (λ before. FindsLeastBinding (later before) c.first_binding.result) (sym c.in-None.is)
    c.first_binding.ensures.next
