use Rattle.std.proofs.Common.{map, ap, ◌∙◌, ◌∷◌, [], arith}
use Rattle.std.proofs.lemmas.Grind.{common_steps}
use Rattle.std.proofs.lemmas.List.{map-append}
use Rattle.dsr_names.proofs.Ancestors.{line_after, lines_next}
use Rattle.dsr_names.proofs.tables.lines_of.Goals as goal

pub loop-structure-preserved : goal.loop-structure-preserved
loop-structure-preserved c =
    let lines = c.loop-structure.lines.items in
    let known = map (λ v. v.items) lines in
    let pushed = ap (map (λ v. v.items)) c.in_ok-push.ensures.items ∙ map-append (λ v. v.items) lines (c.in_ok-line.line ∷ []) in
    lines_next known c.args.structures.now c.loop-structure.structure-index c.structure-item.result c.loop-structure-test.true c.structure-item.is c.loop-structure.invariant pushed
    (c.in_ok-line.ensures ∙ ap (λ ls. line_after (map (λ v. v.items) ls) c.structure-item.result.parent) c.deref.ensures.value)

pub returns : goal.returns
returns c = grind (arith, common_steps)
