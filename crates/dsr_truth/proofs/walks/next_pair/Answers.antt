use Rattle.std.proofs.Common.{Option, None, Some, option_map, subst, sym}
use Rattle.dsr_ir.specs.declared.constraints.Quant.TheVariants as quants
use Rattle.dsr_ir.specs.declared.tuples.Element.{Element}
use Rattle.dsr_ir.specs.declared.tuples.Fact.{Fact}
use Rattle.dsr_ir.specs.declared.tuples.Fact.TheVariants.{Pair}
use Rattle.dsr_ir.specs.declared.tuples.Target.{Target}
use Rattle.dsr_ir.specs.declared.tuples.Target.TheVariants.{Elem, Num}
use Rattle.dsr_ir.specs.declared.updates.Symbol.TheVariants.{Rel}
use Rattle.dsr_meaning.specs.Looking.{FindsNextFact}
use Rattle.dsr_model.specs.Facts.{IsInModel}
use Rattle.dsr_truth.proofs.Ordering.{pair_next}
use Rattle.dsr_truth.specs.Walks.{FindsLeastBinding, IsLaterBinding, pair}
use Rattle.dsr_truth.proofs.walks.next_pair.Goals as goal

pub returns-in_err-next-clause-next : goal.returns-in_err-next-clause-next
returns-in_err-next-clause-next c =
    let is_fact = IsInModel c.args.model.now in
    let rel = c.args.rel in
    let none =
    subst (λ f. FindsNextFact is_fact (Rel rel) f None) c.pair_fact-last.ensures c.in_err-next.ensures.next in
    subst (FindsLeastBinding (IsLaterBinding is_fact (quants.Pairs rel) (option_map pair c.args.before)))
    (sym c.from_residual.ensures)
    (pair_next c.args.model.now rel c.args.before None c.in_err-next.ensures.kinds none)

pub returns-in-Elem-clause-next : goal.returns-in-Elem-clause-next
returns-in-Elem-clause-next c =
    let is_fact = IsInModel c.args.model.now in
    let rel = c.args.rel in
    let last = option_map (λ (p : Element × Element). Pair rel p.0 (Elem p.1)) c.args.before in
    let found = λ (f : Option Fact). FindsNextFact is_fact (Rel rel) f (Some c.in_ok-next.next) in
    let next = subst found c.pair_fact-last.ensures c.in_ok-next.ensures.next in
    let finds = λ (f : Fact). FindsNextFact is_fact (Rel rel) last (Some f) in
    let pair = λ (t : Target). Pair c.in-Pair.field-0 c.in-Pair.source t in
    pair_next c.args.model.now rel c.args.before (Some (pair (Elem c.in-Elem.target))) c.in_ok-next.ensures.kinds
    (subst (λ t. finds (pair t)) c.in-Elem.is (subst finds c.in-Pair.is next))

pub returns-in-Num-clause-next : goal.returns-in-Num-clause-next
returns-in-Num-clause-next c =
    let is_fact = IsInModel c.args.model.now in
    let rel = c.args.rel in
    let last = option_map (λ (p : Element × Element). Pair rel p.0 (Elem p.1)) c.args.before in
    let found = λ (f : Option Fact). FindsNextFact is_fact (Rel rel) f (Some c.in_ok-next.next) in
    let next = subst found c.pair_fact-last.ensures c.in_ok-next.ensures.next in
    let finds = λ (f : Fact). FindsNextFact is_fact (Rel rel) last (Some f) in
    let pair = λ (t : Target). Pair c.in-Pair.field-0 c.in-Pair.source t in
    pair_next c.args.model.now rel c.args.before (Some (pair (Num c.in-Num.field-0))) c.in_ok-next.ensures.kinds
    (subst (λ t. finds (pair t)) c.in-Num.is (subst finds c.in-Pair.is next))
