use Rattle.std.proofs.Common.{◌++◌, ◌∙◌, ap, arith}
use Rattle.std.proofs.lemmas.Grind.{common_steps}
use Rattle.dsr_update_theory.specs.Facts.{complement_by}
use Rattle.dsr_facts.proofs.Taking.{each_more}
use Rattle.dsr_facts.proofs.gathering.complements.Goals as goal

pub loop-set-preserved : goal.loop-set-preserved
loop-set-preserved c =
    c.in_ok-push_complement.ensures
    ∙ ap (λ pairs. pairs ++ complement_by c.loop-set.set c.declared-item.result) c.loop-set.invariant
    ∙ each_more complement_by c.items-declared-items.result.now c.loop-set.set c.declared-item.result c.loop-set-test.true c.declared-item.is

pub returns : goal.returns
returns c = grind (arith, common_steps)
