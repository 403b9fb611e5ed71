use Rattle.std.proofs.Common.{◌≡◌, ◌++◌, [], ◌∷◌, length, take, refl, sym, ap, subst, ◌∙◌, arith}
use Rattle.dsr_compensate.proofs.Later.{take_next, take_whole}
use Rattle.dsr_compensate.proofs.GoneOver.{compensable_more, pairs_more_of}
use Rattle.dsr_compensate.specs.Taking.{pairs_of}
use Rattle.dsr_graph_theory.specs.Lists.{AreCompensable, done}
use Rattle.dsr_compensate.specs.Owned.{owner_of}
use Rattle.dsr_compensate.proofs.passes.all_compensable.Goals as goal

pub loop-template-init : goal.loop-template-init
loop-template-init c = subst (AreCompensable (owner_of c.args.owner.now) []) (sym (ap pairs_of c.new-all.ensures.items)) done

pub loop-template-preserved : goal.loop-template-preserved
loop-template-preserved c =
    let owner = owner_of c.args.owner.now in
    let number = c.loop-template.template-index in
    let next = take_next c.args.tried.now c.args.tried.now refl number c.loop-template-test.true c.template-item.result c.template-item.is in
    subst (λ ts. AreCompensable owner ts (pairs_of c.push.new.self.items)) (sym next)
    (subst (AreCompensable owner (take number c.args.tried.now ++ c.template-item.result ∷ [])) (sym (ap pairs_of c.in_ok-push.ensures.items ∙ pairs_more_of c.loop-template.all.items c.in_ok-next.next))
    (subst (λ t. AreCompensable owner (take number c.args.tried.now ++ c.template-item.result ∷ []) (pairs_of c.loop-template.all.items ++ (t, c.in_ok-next.next.writes) ∷ [])) (sym c.in_ok-next.ensures.template)
    (compensable_more owner (take number c.args.tried.now) (pairs_of c.loop-template.all.items) c.template-item.result c.in_ok-next.next.writes c.loop-template.invariant c.in_ok-next.ensures.writes)))

pub returns : goal.returns
returns c =
    subst (λ ts. AreCompensable (owner_of c.args.owner.now) ts (pairs_of c.loop-template.all.items)) (take_whole c.loop-template.template-index c.args.tried.now c.loop-template-test.false) c.loop-template.invariant
