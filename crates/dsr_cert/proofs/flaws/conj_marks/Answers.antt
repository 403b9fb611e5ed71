use Rattle.std.proofs.Common.{◌++◌, [], ◌∷◌, ap, ◌∙◌, arith}
use Rattle.std.proofs.lemmas.Grind.{common_steps}
use Rattle.dsr_cert.proofs.Tested.{marked_more}
use Rattle.dsr_cert.specs.Searches.{is_test}
use Rattle.dsr_cert.proofs.flaws.conj_marks.Goals as goal

pub loop-way-preserved : goal.loop-way-preserved
loop-way-preserved c =
    marked_more is_test c.args.ways.now c.loop-way.way-index c.way-item.result c.loop-way-test.true c.way-item.is c.loop-way.marks.items c.push.new.self.items c.loop-way.invariant
    (c.in_ok-push.ensures.items ∙ ap (λ mark. c.loop-way.marks.items ++ mark ∷ []) c.is_test.ensures)

pub returns : goal.returns
returns c = grind (arith, common_steps)
