use Rattle.std.proofs.Common.{refl, ap, ◌∙◌, arith}
use Rattle.std.proofs.lemmas.Grind.{common_steps}
use Rattle.dsr_meaning.specs.Lists.{each_at}
use Rattle.dsr_meaning.specs.Refusals.{reference_refusals}
use Rattle.dsr_layout.specs.Telling.{told_of}
use Rattle.dsr_layout.proofs.Looking.{goes_on, is_none}
use Rattle.dsr_layout.proofs.code_checks.code_too_wide.Goals as goal

pub loop-i-preserved : goal.loop-i-preserved
loop-i-preserved c =
    goes_on _ c.args.structures.now c.loop-i.i c.index-structures-i.result c.loop-i.i _ c.loop-i-test.true c.index-structures-i.is refl (
    is_none c.if-is_some.ensures
    ∙ c.own_reference-fault.ensures
    ∙ ap (λ fs. told_of (each_at (reference_refusals c.args.layout.now c.loop-i.i) 0 fs)) c.items.ensures)
    ∙ c.loop-i.invariant

pub returns-then-is_some : goal.returns-then-is_some
returns-then-is_some c = grind (arith, common_steps)

pub returns : goal.returns
returns c = grind (arith, common_steps)
