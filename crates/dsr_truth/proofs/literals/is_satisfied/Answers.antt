use Rattle.std.proofs.Common.{◌≡◌, All, false, true, refl, subst, sym}
use Rattle.std.proofs.lemmas.List.{take_all}
use Rattle.std.proofs.lemmas.List.Elements.{All-more}
use Rattle.dsr_ir.specs.declared.constraints.Conj.{Conj}
use Rattle.dsr_meaning.specs.Consistency.{ConjHolds}
use Rattle.dsr_meaning.specs.Counting.{IsIn}
use Rattle.dsr_model.specs.Facts.{IsInModel}
use Rattle.dsr_truth.proofs.Satisfying.{item_in}
use Rattle.dsr_truth.proofs.literals.is_satisfied.Goals as goal

pub returns-then-conj_holds : goal.returns-then-conj_holds
returns-then-conj_holds c =
    let conj = c.conj-item.result in
    let items = c.items-conj-items.result.now in
    let at = item_in items c.loop-conj.conj-index conj c.loop-conj-test.true in
    let here = subst (λ x. IsIn x items) (sym c.conj-item.is) at in
    (conj, subst (IsIn conj) c.items-conj-items.ensures here, c.if-conj_holds.ensures.0 refl)

pub loop-conj-preserved : goal.loop-conj-preserved
loop-conj-preserved c =
    let fails = λ (conj : Conj). ConjHolds (IsInModel c.args.model.now) c.args.binding.now conj → ⊥ in
    let this : fails c.conj-item.result =
    λ holds. let both : false ≡ true = c.if-conj_holds.ensures.1 holds in cc in
    All-more fails c.items-conj-items.result.now c.loop-conj.conj-index c.conj-item.result
    c.loop-conj-test.true c.loop-conj.invariant (subst fails c.conj-item.is this)

pub returns : goal.returns
returns c =
    let fails = λ (conj : Conj). ConjHolds (IsInModel c.args.model.now) c.args.binding.now conj → ⊥ in
    let items = c.items-conj-items.result.now in
    let whole = take_all c.loop-conj.conj-index items c.loop-conj-test.false in
    subst (All fails) c.items-conj-items.ensures (subst (All fails) whole c.loop-conj.invariant)
