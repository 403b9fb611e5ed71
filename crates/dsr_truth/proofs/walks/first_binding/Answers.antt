use Rattle.std.proofs.Common.{None, subst, sym}
use Rattle.dsr_ir.specs.declared.constraints.Quant.{Quant}
use Rattle.dsr_model.specs.Facts.{IsInModel}
use Rattle.dsr_truth.specs.Walks.{FindsLeastBinding, IsLaterBinding}
use Rattle.dsr_truth.proofs.walks.first_binding.Goals as goal

pub returns-in-Each-clause-next : goal.returns-in-Each-clause-next
returns-in-Each-clause-next c =
    let found = λ (q : Quant).
    FindsLeastBinding (IsLaterBinding (IsInModel c.args.model.now) q None) c.next_each.result in
    subst found (sym c.in-Each.is) c.next_each.ensures.next

pub returns-in-Pairs-clause-next : goal.returns-in-Pairs-clause-next
returns-in-Pairs-clause-next c =
    let found = λ (q : Quant).
    FindsLeastBinding (IsLaterBinding (IsInModel c.args.model.now) q None) c.next_pair.result in
    subst found (sym c.in-Pairs.is) c.next_pair.ensures.next
