use Rattle.std.proofs.Common.{◌≡◌, ◌<◌, ◌++◌, [], ◌∷◌, List, map, length, get_or, ap, subst, ◌∙◌}
use Rattle.dsr_cert.proofs.Tested.{marked_more}
use Rattle.dsr_cert.specs.Searches.{is_test}
use Rattle.dsr_plan_theory.specs.declared.choices.Way.{Way}
use Rattle.dsr_cert.proofs.flaws.marks.Goals as goal

pub loop-ways-preserved : goal.loop-ways-preserved
loop-ways-preserved c =
    let i = c.loop-ways.ways-index in
    let ways = c.ways-item.result in
    let rows = c.loop-ways.rows.items in
    let same = c.items-ways-items.ensures in
    marked_more (λ (its : List Way). map is_test its) c.args.row.now.ways i ways (subst (λ xs. i < length xs) same c.loop-ways-test.true) (subst (λ xs. ways ≡ get_or xs i ways) same c.ways-item.is) rows c.push.new.self.items c.loop-ways.invariant
    (c.in_ok-push.ensures.items ∙ ap (λ marks. rows ++ marks ∷ []) (c.new.ensures ∙ c.in_ok-conj_marks.ensures ∙ ap (map is_test) c.items.ensures))
