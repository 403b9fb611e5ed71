use Rattle.std.proofs.Common.{refl, sym, ap, ◌∙◌, arith}
use Rattle.dsr_syntax_theory.specs.TreeTexts.{unit_text, join_text, formula_text}
use Rattle.dsr_tree.specs.Trees.{unit_shape, join_shape, formula_shape}
use Rattle.std.proofs.lemmas.Result.{IfOk-weaker}
use Rattle.dsr_parse.proofs.Passing.{passed_on, err_from, said_shorter, next_is, other_is, halts_first, halts_rest, halts_left, halts_right, reads_then, reads_left, reads_right, reads_as, reads_within, says_within, unit_inside, unit_halts, formula_inside, formula_halts, items_none, items_more, items_halt}
use Rattle.dsr_parse.proofs.Grouped.{behind_is, behind_stops}
use Rattle.dsr_parse.proofs.Staying.{took, took_next, token_shorter}
use Rattle.dsr_parse.proofs.TreeRows.{formula_made, join_made}
use Rattle.dsr_parse.proofs.reader.Reader.+formulas.Goals as goal

pub formula-returns-in_err-first-clause-err : goal.formula-returns-in_err-first-clause-err
formula-returns-in_err-first-clause-err t c = passed_on c.from_residual.result c.from_residual.ensures.1 (halts_first c.in_err-first.ensures.err)

pub formula-more_joins-requires : goal.formula-more_joins-requires
formula-more_joins-requires t c = let w = reads_within c.in_ok-first.ensures.ok in (omega (arith, c.decreases), c.requires)

pub formula-returns-in_err-first-2-clause-err : goal.formula-returns-in_err-first-2-clause-err
formula-returns-in_err-first-2-clause-err t c = passed_on c.from_residual-in_err-first-2.result c.from_residual-in_err-first-2.ensures.1 (halts_rest c.in_ok-first.ensures.ok (behind_stops _ c.more_joins.result c.in_err-first-2.ensures.err c.more_joins.ensures.err))

pub formula-returns-clause-ok : goal.formula-returns-clause-ok
formula-returns-clause-ok t c = reads_as (formula_made (record { first = c.in_ok-first-2.first; rest = c.in_ok-first-2.rest })) (reads_then (reads_as (ap (λ f. join_text (join_shape f)) c.in_ok-first-2.ensures.ok.0) c.in_ok-first.ensures.ok) (behind_is _ c.more_joins.result c.in_ok-first-2.ensures.ok c.more_joins.ensures.ok))

pub join-returns-in_err-first-clause-err : goal.join-returns-in_err-first-clause-err
join-returns-in_err-first-clause-err t c = passed_on c.from_residual.result c.from_residual.ensures.1 (halts_first c.in_err-first.ensures.err)

pub join-more_units-requires : goal.join-more_units-requires
join-more_units-requires t c = let w = reads_within c.in_ok-first.ensures.ok in (omega (arith, c.decreases), c.requires)

pub join-returns-in_err-first-2-clause-err : goal.join-returns-in_err-first-2-clause-err
join-returns-in_err-first-2-clause-err t c = passed_on c.from_residual-in_err-first-2.result c.from_residual-in_err-first-2.ensures.1 (halts_rest c.in_ok-first.ensures.ok (behind_stops _ c.more_units.result c.in_err-first-2.ensures.err c.more_units.ensures.err))

pub join-returns-clause-ok : goal.join-returns-clause-ok
join-returns-clause-ok t c = reads_as (join_made (record { first = c.in_ok-first-2.first; rest = c.in_ok-first-2.rest })) (reads_then (reads_as (ap (λ u. unit_text (unit_shape u)) c.in_ok-first-2.ensures.ok.0) c.in_ok-first.ensures.ok) (behind_is _ c.more_units.result c.in_ok-first-2.ensures.ok c.more_units.ensures.ok))

pub more_joins-loop-joins-init : goal.more_joins-loop-joins-init
more_joins-loop-joins-init t c = items_none c.new-joins.ensures.items

pub more_joins-join-requires : goal.more_joins-join-requires
more_joins-join-requires t c =
    let before = says_within c.loop-joins.invariant.says in
    let less = token_shorter (took c.take_word.result c.loop-joins-test.ensures c.take_word.ensures.some) in
    (omega (arith, c.decreases), c.requires)

pub more_joins-returns-in_err-join-clause-err : goal.more_joins-returns-in_err-join-clause-err
more_joins-returns-in_err-join-clause-err t c = passed_on c.from_residual.result c.from_residual.ensures.1 (items_halt (took_next c.take_word.result c.loop-joins-test.ensures c.take_word.ensures.next) c.loop-joins.invariant (halts_rest (took c.take_word.result c.loop-joins-test.ensures c.take_word.ensures.some) c.in_err-join.ensures.err))

pub more_joins-loop-joins-smaller : goal.more_joins-loop-joins-smaller
more_joins-loop-joins-smaller t c =
    let less = token_shorter (took c.take_word.result c.loop-joins-test.ensures c.take_word.ensures.some) in
    let within = reads_within c.in_ok-join.ensures.ok in
    omega arith

pub more_joins-loop-joins-preserved : goal.more_joins-loop-joins-preserved
more_joins-loop-joins-preserved t c = items_more (took_next c.take_word.result c.loop-joins-test.ensures c.take_word.ensures.next) c.in_ok-push.ensures.items c.loop-joins.invariant (reads_then (took c.take_word.result c.loop-joins-test.ensures c.take_word.ensures.some) c.in_ok-join.ensures.ok)

pub more_units-loop-units-init : goal.more_units-loop-units-init
more_units-loop-units-init t c = items_none c.new-units.ensures.items

pub more_units-unit-requires : goal.more_units-unit-requires
more_units-unit-requires t c =
    let before = says_within c.loop-units.invariant.says in
    let less = token_shorter (took c.take_word.result c.loop-units-test.ensures c.take_word.ensures.some) in
    (omega (arith, c.decreases), c.requires)

pub more_units-returns-in_err-unit-clause-err : goal.more_units-returns-in_err-unit-clause-err
more_units-returns-in_err-unit-clause-err t c = passed_on c.from_residual.result c.from_residual.ensures.1 (items_halt (took_next c.take_word.result c.loop-units-test.ensures c.take_word.ensures.next) c.loop-units.invariant (halts_rest (took c.take_word.result c.loop-units-test.ensures c.take_word.ensures.some) c.in_err-unit.ensures.err))

pub more_units-loop-units-smaller : goal.more_units-loop-units-smaller
more_units-loop-units-smaller t c =
    let less = token_shorter (took c.take_word.result c.loop-units-test.ensures c.take_word.ensures.some) in
    let within = reads_within c.in_ok-unit.ensures.ok in
    omega arith

pub more_units-loop-units-preserved : goal.more_units-loop-units-preserved
more_units-loop-units-preserved t c = items_more (took_next c.take_word.result c.loop-units-test.ensures c.take_word.ensures.next) c.in_ok-push.ensures.items c.loop-units.invariant (reads_then (took c.take_word.result c.loop-units-test.ensures c.take_word.ensures.some) c.in_ok-unit.ensures.ok)

pub unit-not_unit-requires : goal.unit-not_unit-requires
unit-not_unit-requires t c = (omega (arith, c.decreases), c.requires)

pub unit-returns-then-is_word-clause-ok : goal.unit-returns-then-is_word-clause-ok
unit-returns-then-is_word-clause-ok t c = IfOk-weaker c.not_unit.result _ _ (λ u r. reads_left (next_is (sym c.is_word.ensures ∙ c.if-is_word.true)) r) c.not_unit.ensures.ok

pub unit-returns-then-is_word-clause-err : goal.unit-returns-then-is_word-clause-err
unit-returns-then-is_word-clause-err t c = err_from c.not_unit.result (λ e h. halts_left (next_is (sym c.is_word.ensures ∙ c.if-is_word.true)) h) c.not_unit.ensures.err

pub unit-given_unit-requires : goal.unit-given_unit-requires
unit-given_unit-requires t c = (omega (arith, c.decreases), c.requires)

pub unit-returns-then-is_word-2-clause-ok : goal.unit-returns-then-is_word-2-clause-ok
unit-returns-then-is_word-2-clause-ok t c = IfOk-weaker c.given_unit.result _ _ (λ u r. reads_right refl (other_is (sym c.is_word.ensures ∙ c.if-is_word.false)) (reads_left (next_is (sym c.is_word-else-is_word.ensures ∙ c.if-is_word-2.true)) r)) c.given_unit.ensures.ok

pub unit-returns-then-is_word-2-clause-err : goal.unit-returns-then-is_word-2-clause-err
unit-returns-then-is_word-2-clause-err t c = err_from c.given_unit.result (λ e h. halts_right refl (other_is (sym c.is_word.ensures ∙ c.if-is_word.false)) (halts_left (next_is (sym c.is_word-else-is_word.ensures ∙ c.if-is_word-2.true)) h)) c.given_unit.ensures.err

pub unit-group-requires : goal.unit-group-requires
unit-group-requires t c = (omega (arith, c.decreases), c.requires)

pub unit-returns-then-is_sign-clause-ok : goal.unit-returns-then-is_sign-clause-ok
unit-returns-then-is_sign-clause-ok t c = IfOk-weaker c.group.result _ _ (λ u r. reads_right refl (other_is (sym c.is_word.ensures ∙ c.if-is_word.false)) (reads_right refl (other_is (sym c.is_word-else-is_word.ensures ∙ c.if-is_word-2.false)) (reads_left (next_is (sym c.is_sign.ensures ∙ c.if-is_sign.true)) r))) c.group.ensures.ok

pub unit-returns-then-is_sign-clause-err : goal.unit-returns-then-is_sign-clause-err
unit-returns-then-is_sign-clause-err t c = err_from c.group.result (λ e h. halts_right refl (other_is (sym c.is_word.ensures ∙ c.if-is_word.false)) (halts_right refl (other_is (sym c.is_word-else-is_word.ensures ∙ c.if-is_word-2.false)) (halts_left (next_is (sym c.is_sign.ensures ∙ c.if-is_sign.true)) h))) c.group.ensures.err

pub unit-returns-in_err-atom-clause-err : goal.unit-returns-in_err-atom-clause-err
unit-returns-in_err-atom-clause-err t c = passed_on c.from_residual.result c.from_residual.ensures.1 (halts_right refl (other_is (sym c.is_word.ensures ∙ c.if-is_word.false)) (halts_right refl (other_is (sym c.is_word-else-is_word.ensures ∙ c.if-is_word-2.false)) (halts_right refl (other_is (sym c.is_sign.ensures ∙ c.if-is_sign.false)) c.in_err-atom.ensures.err)))

pub not_unit-returns-in_err-place-clause-err : goal.not_unit-returns-in_err-place-clause-err
not_unit-returns-in_err-place-clause-err t c = passed_on c.from_residual.result c.from_residual.ensures.1 (halts_first c.in_err-place.ensures.err)

pub not_unit-unit-requires : goal.not_unit-unit-requires
not_unit-unit-requires t c = let less = said_shorter c.in_ok-place.ensures.ok in (omega (arith, c.decreases), omega (arith, c.in_ok-place.ensures.below))

pub not_unit-returns-in_err-unit-clause-err : goal.not_unit-returns-in_err-unit-clause-err
not_unit-returns-in_err-unit-clause-err t c = passed_on c.from_residual-in_err-unit.result c.from_residual-in_err-unit.ensures.1 (halts_rest c.in_ok-place.ensures.ok (unit_halts c.in_err-unit.ensures.err))

pub not_unit-returns-clause-ok : goal.not_unit-returns-clause-ok
not_unit-returns-clause-ok t c =
    let inner = ap (λ u. unit_text (unit_shape u)) c.in_ok-unit-2.ensures.ok in
    reads_then c.in_ok-place.ensures.ok (reads_as inner (unit_inside c.in_ok-unit.ensures.ok))

pub given_unit-returns-in_err-place-clause-err : goal.given_unit-returns-in_err-place-clause-err
given_unit-returns-in_err-place-clause-err t c = passed_on c.from_residual.result c.from_residual.ensures.1 (halts_first c.in_err-place.ensures.err)

pub given_unit-unit-requires : goal.given_unit-unit-requires
given_unit-unit-requires t c = let less = said_shorter c.in_ok-place.ensures.ok in (omega (arith, c.decreases), omega (arith, c.in_ok-place.ensures.below))

pub given_unit-returns-in_err-unit-clause-err : goal.given_unit-returns-in_err-unit-clause-err
given_unit-returns-in_err-unit-clause-err t c = passed_on c.from_residual-in_err-unit.result c.from_residual-in_err-unit.ensures.1 (halts_rest c.in_ok-place.ensures.ok (unit_halts c.in_err-unit.ensures.err))

pub given_unit-returns-clause-ok : goal.given_unit-returns-clause-ok
given_unit-returns-clause-ok t c =
    let inner = ap (λ u. unit_text (unit_shape u)) c.in_ok-unit-2.ensures.ok in
    reads_then c.in_ok-place.ensures.ok (reads_as inner (unit_inside c.in_ok-unit.ensures.ok))

pub group-returns-in_err-place-clause-err : goal.group-returns-in_err-place-clause-err
group-returns-in_err-place-clause-err t c = passed_on c.from_residual.result c.from_residual.ensures.1 (halts_first c.in_err-place.ensures.err)

pub group-formula-requires : goal.group-formula-requires
group-formula-requires t c = let less = said_shorter c.in_ok-place.ensures.ok in (omega (arith, c.decreases), omega (arith, c.in_ok-place.ensures.below))

pub group-returns-in_err-formula-clause-err : goal.group-returns-in_err-formula-clause-err
group-returns-in_err-formula-clause-err t c = passed_on c.from_residual-in_err-formula.result c.from_residual-in_err-formula.ensures.1 (halts_rest c.in_ok-place.ensures.ok (halts_first (formula_halts c.in_err-formula.ensures.err)))

pub group-returns-in_err-formula-2-clause-err : goal.group-returns-in_err-formula-2-clause-err
group-returns-in_err-formula-2-clause-err t c = passed_on c.from_residual-in_err-formula-2.result c.from_residual-in_err-formula-2.ensures.1 (halts_rest c.in_ok-place.ensures.ok (halts_rest (formula_inside c.in_ok-formula.ensures.ok) c.in_err-formula-2.ensures.err))

pub group-returns-clause-ok : goal.group-returns-clause-ok
group-returns-clause-ok t c =
    let inner = ap (λ f. formula_text (formula_shape f)) (c.in_ok-formula-3.ensures.ok ∙ c.in_ok-formula-2.ensures.same) in
    reads_then c.in_ok-place.ensures.ok (reads_then (reads_as inner (formula_inside c.in_ok-formula.ensures.ok)) c.in_ok-formula-2.ensures.ok)
