use Rattle.std.proofs.Common.{Option, None, Some, option_map, subst, sym}
use Rattle.dsr_ir.specs.declared.constraints.Quant.TheVariants as quants
use Rattle.dsr_ir.specs.declared.tuples.Fact.{Fact}
use Rattle.dsr_ir.specs.declared.tuples.Fact.TheVariants.{Member}
use Rattle.dsr_ir.specs.declared.updates.Symbol.TheVariants.{Set}
use Rattle.dsr_meaning.specs.Looking.{FindsNextFact}
use Rattle.dsr_model.specs.Facts.{IsInModel}
use Rattle.dsr_truth.proofs.Ordering.{each_next}
use Rattle.dsr_truth.specs.Walks.{FindsLeastBinding, IsLaterBinding, each}
use Rattle.dsr_truth.proofs.walks.next_each.Goals as goal

pub returns-in_err-next-clause-next : goal.returns-in_err-next-clause-next
returns-in_err-next-clause-next c =
    let is_fact = IsInModel c.args.model.now in
    let set = c.args.set in
    let none =
    subst (λ f. FindsNextFact is_fact (Set set) f None) c.member_fact-last.ensures c.in_err-next.ensures.next in
    subst (FindsLeastBinding (IsLaterBinding is_fact (quants.Each set) (option_map each c.args.before)))
    (sym c.from_residual.ensures) (each_next c.args.model.now set c.args.before None none)

pub returns-in-Member-clause-next : goal.returns-in-Member-clause-next
returns-in-Member-clause-next c =
    let is_fact = IsInModel c.args.model.now in
    let set = c.args.set in
    let found = λ (f : Option Fact). FindsNextFact is_fact (Set set) f (Some c.in_ok-next.next) in
    let next = subst found c.member_fact-last.ensures c.in_ok-next.ensures.next in
    let last = option_map (λ e. Member set e) c.args.before in
    each_next c.args.model.now set c.args.before (Some (Member c.in-Member.field-0 c.in-Member.elem))
    (subst (λ f. FindsNextFact is_fact (Set set) last (Some f)) c.in-Member.is next)
