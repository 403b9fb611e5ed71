use Rattle.std.proofs.Common.{Bool, ap, ◌∙◌}
use Rattle.std.proofs.lemmas.List.{take_all}
use Rattle.std.specs.List.{position_from}
use Rattle.std.specs.Str.{bytes_eq}
use Rattle.indexmap.specs.IndexMap.{get}
use Rattle.dsr_names.specs.Tables.{is_named}
use Rattle.dsr_names.proofs.Numbering.{position_next, position_stays}
use Rattle.dsr_names.proofs.numbers.numbers_from.Goals as goal
use Rattle.dsr_names.proofs.numbers.numbers_from.Goals.{in-Some+in_ok-enter, in_default}

pub loop-number-preserved : goal.loop-number-preserved
loop-number-preserved g c = λ q.
    let test : g.row.T.Denot → Bool = λ x. is_named (g.T.Named.own_name x) q in
    let items = c.args.items.now in
    let i = c.loop-number.number in
    let x = c.index-items-number.result in
    elim c.match-own_name.branch [
      | in-Some+in_ok-enter w ↦ ap (λ m. get bytes_eq m q) w.table-is ∙ w.in_ok-enter.ensures q ∙ position_next test c.args.first items i x c.loop-number-test.true c.index-items-number.is (c.loop-number.invariant q) (ap (λ o. is_named o q) w.in-Some.ensures)
      | in_default w ↦ ap (λ m. get bytes_eq m q) w.table-is ∙ position_stays test c.args.first items i x c.loop-number-test.true c.index-items-number.is (c.loop-number.invariant q) (ap (λ o. is_named o q) w.in_default.ensures)
    ]

pub returns : goal.returns
returns g c = λ q.
    c.loop-number.invariant q
    ∙ ap (position_from (λ x. is_named (g.T.Named.own_name x) q) c.args.first) (take_all c.loop-number.number c.args.items.now c.loop-number-test.false)
