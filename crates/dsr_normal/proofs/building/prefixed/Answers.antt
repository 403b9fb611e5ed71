use Rattle.std.proofs.Common.{[], ◌∷◌, sym, ap, ◌++◌, ◌∙◌, arith}
use Rattle.std.proofs.lemmas.Grind.{common_steps}
use Rattle.dsr_normal.specs.Literals.{literals_of}
use Rattle.dsr_normal.proofs.Conjunctions.{literals_append, prefixed_step}
use Rattle.dsr_normal.proofs.building.prefixed.Goals as goal

pub loop-other-preserved : goal.loop-other-preserved
loop-other-preserved c =
    ap literals_of c.in_ok-push.ensures.items
    ∙ literals_append _ _
    ∙ (λ i. c.loop-other.invariant i ++ (c.in_ok-conj.ensures i ∷ []))
    ∙ sym (prefixed_step c.args.left.now.literals c.args.right.now c.loop-other.other-index c.other-item.result c.loop-other-test.true c.other-item.is)

pub returns : goal.returns
returns c = grind (arith, common_steps)
