use Rattle.std.proofs.Common.{All, refl, subst}
use Rattle.std.proofs.lemmas.List.{take_all}
use Rattle.std.proofs.lemmas.List.Elements.{All-more}
use Rattle.dsr_meaning.specs.Truth.{LiteralHolds}
use Rattle.dsr_model.specs.Facts.{IsInModel}
use Rattle.dsr_truth.proofs.literals.conj_holds.Goals as goal

pub loop-item-preserved : goal.loop-item-preserved
loop-item-preserved c =
    All-more (LiteralHolds (IsInModel c.args.model.now) c.args.binding.now) c.items-item-items.result.now
    c.loop-item.item-index _ c.loop-item-test.true c.loop-item.invariant (c.if-not-literal.ensures.0 refl)

pub returns : goal.returns
returns c =
    let holds = LiteralHolds (IsInModel c.args.model.now) c.args.binding.now in
    let items = c.items-item-items.result.now in
    let whole = take_all c.loop-item.item-index items c.loop-item-test.false in
    let all = subst (All holds) c.items-item-items.ensures (subst (All holds) whole c.loop-item.invariant) in
    (λ _. all, λ _. refl)
