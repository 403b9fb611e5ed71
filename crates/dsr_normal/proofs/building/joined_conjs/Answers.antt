use Rattle.std.proofs.Common.{sym, ap, ◌++◌, ◌∙◌, arith}
use Rattle.std.proofs.lemmas.Grind.{common_steps}
use Rattle.dsr_normal.specs.Literals.{literals_of}
use Rattle.dsr_normal.proofs.Conjunctions.{literals_append, joined_step}
use Rattle.dsr_normal.proofs.building.joined_conjs.Goals as goal

pub loop-first-preserved : goal.loop-first-preserved
loop-first-preserved c =
    ap literals_of c.in_ok-append.ensures.items
    ∙ literals_append _ _
    ∙ (λ i. c.loop-first.invariant i ++ c.in_ok-more.ensures i)
    ∙ sym (joined_step c.args.left.now (literals_of c.args.right.now) c.loop-first.first-index c.first-item.result c.loop-first-test.true c.first-item.is)

pub returns : goal.returns
returns c = grind (arith, common_steps)
