use Rattle.std.proofs.Common.{refl, ◌∙◌, arith}
use Rattle.std.proofs.lemmas.Grind.{common_steps}
use Rattle.dsr_layout.proofs.Looking.{goes_on, is_none}
use Rattle.dsr_layout.proofs.code_checks.own_reference.Goals as goal

pub loop-i-preserved : goal.loop-i-preserved
loop-i-preserved c =
    goes_on _ c.args.fields.now c.loop-i.i c.index-fields-i.result c.loop-i.i _ c.loop-i-test.true c.index-fields-i.is refl (is_none c.if-is_some.ensures ∙ c.reference-fault.ensures)
    ∙ c.loop-i.invariant

pub returns-then-is_some : goal.returns-then-is_some
returns-then-is_some c = grind (arith, common_steps)

pub returns : goal.returns
returns c = grind (arith, common_steps)
