use Rattle.std.proofs.Common.{refl, sym, ap, ◌∙◌, arith}
use Rattle.dsr_parse.proofs.Passing.{passed_on, next_is, other_is, halts_first, halts_rest, halts_left, halts_right, expression_halts, reads_then, reads_right, reads_as, expression_inside, reads_within, says_within, items_none, items_more, items_halt, sum_shorter, product_shorter}
use Rattle.dsr_parse.proofs.TreeRows.{expr_made, term_made, more_term_made}
use Rattle.dsr_parse.proofs.Grouped.{behind_is, behind_stops}
use Rattle.dsr_parse.proofs.reader.Reader.+expression.Goals as goal

pub expr-returns-in_err-first-clause-err : goal.expr-returns-in_err-first-clause-err
expr-returns-in_err-first-clause-err t c = passed_on c.from_residual.result c.from_residual.ensures.1 (halts_first c.in_err-first.ensures.err)

pub expr-more_terms-requires : goal.expr-more_terms-requires
expr-more_terms-requires t c = let w = reads_within c.in_ok-first.ensures.ok in (omega (arith, c.decreases), c.requires)

pub expr-returns-in_err-first-2-clause-err : goal.expr-returns-in_err-first-2-clause-err
expr-returns-in_err-first-2-clause-err t c = passed_on c.from_residual-in_err-first-2.result c.from_residual-in_err-first-2.ensures.1 (halts_rest c.in_ok-first.ensures.ok (behind_stops _ c.more_terms.result c.in_err-first-2.ensures.err c.more_terms.ensures.err))

pub expr-returns-clause-ok : goal.expr-returns-clause-ok
expr-returns-clause-ok t c = reads_as (expr_made (record { first = c.in_ok-first-2.first; rest = c.in_ok-first-2.rest })) (reads_then (reads_as (ap (λ u. Rattle.dsr_syntax_theory.specs.TreeTexts.term2_text (Rattle.dsr_tree.specs.Trees.term_shape u)) c.in_ok-first-2.ensures.ok.0) c.in_ok-first.ensures.ok) (behind_is _ c.more_terms.result c.in_ok-first-2.ensures.ok c.more_terms.ensures.ok))

pub term2-returns-in_err-first-clause-err : goal.term2-returns-in_err-first-clause-err
term2-returns-in_err-first-clause-err t c = passed_on c.from_residual.result c.from_residual.ensures.1 (halts_first c.in_err-first.ensures.err)

pub term2-more_factors-requires : goal.term2-more_factors-requires
term2-more_factors-requires t c = let w = reads_within c.in_ok-first.ensures.ok in (omega (arith, c.decreases), c.requires)

pub term2-returns-in_err-rest-clause-err : goal.term2-returns-in_err-rest-clause-err
term2-returns-in_err-rest-clause-err t c = passed_on c.from_residual-in_err-rest.result c.from_residual-in_err-rest.ensures.1 (halts_rest c.in_ok-first.ensures.ok c.in_err-rest.ensures.err)

pub term2-returns-clause-ok : goal.term2-returns-clause-ok
term2-returns-clause-ok t c = reads_as (term_made (record { first = c.in_ok-first.first; rest = c.in_ok-rest.rest })) (reads_then c.in_ok-first.ensures.ok c.in_ok-rest.ensures.ok)

pub factor-returns-in_err-number-clause-err : goal.factor-returns-in_err-number-clause-err
factor-returns-in_err-number-clause-err t c = passed_on c.from_residual.result c.from_residual.ensures.1 (halts_left (next_is (sym c.is_number.ensures ∙ c.if-is_number.true)) c.in_err-number.ensures.err)

pub factor-returns-in_err-name-clause-err : goal.factor-returns-in_err-name-clause-err
factor-returns-in_err-name-clause-err t c = passed_on c.from_residual-in_err-name.result c.from_residual-in_err-name.ensures.1 (halts_right refl (other_is (sym c.is_number.ensures ∙ c.if-is_number.false)) (halts_left (next_is (sym c.is_name.ensures ∙ c.if-is_name.true)) c.in_err-name.ensures.err))

pub factor-returns-in_err-place-clause-err : goal.factor-returns-in_err-place-clause-err
factor-returns-in_err-place-clause-err t c = passed_on c.from_residual-in_err-place.result c.from_residual-in_err-place.ensures.1 (halts_right refl (other_is (sym c.is_number.ensures ∙ c.if-is_number.false)) (halts_right refl (other_is (sym c.is_name.ensures ∙ c.if-is_name.false)) (halts_first c.in_err-place.ensures.err)))

pub factor-returns-in_err-inner-clause-err : goal.factor-returns-in_err-inner-clause-err
factor-returns-in_err-inner-clause-err t c = passed_on c.from_residual-in_err-inner.result c.from_residual-in_err-inner.ensures.1 (halts_right refl (other_is (sym c.is_number.ensures ∙ c.if-is_number.false)) (halts_right refl (other_is (sym c.is_name.ensures ∙ c.if-is_name.false)) (halts_rest c.in_ok-place.ensures.ok (halts_first (expression_halts c.in_err-inner.ensures.err)))))

pub factor-returns-in_err-inner-2-clause-err : goal.factor-returns-in_err-inner-2-clause-err
factor-returns-in_err-inner-2-clause-err t c = passed_on c.from_residual-in_err-inner-2.result c.from_residual-in_err-inner-2.ensures.1 (halts_right refl (other_is (sym c.is_number.ensures ∙ c.if-is_number.false)) (halts_right refl (other_is (sym c.is_name.ensures ∙ c.if-is_name.false)) (halts_rest c.in_ok-place.ensures.ok (halts_rest (expression_inside c.in_ok-inner.ensures.ok) c.in_err-inner-2.ensures.err))))

pub factor-returns-clause-ok : goal.factor-returns-clause-ok
factor-returns-clause-ok t c =
    let inner = ap (λ e. Rattle.dsr_syntax_theory.specs.TreeTexts.expr_text (Rattle.dsr_tree.specs.Trees.expr_shape e)) (c.in_ok-inner-3.ensures.ok ∙ c.in_ok-inner-2.ensures.same) in
    reads_right refl (other_is (sym c.is_number.ensures ∙ c.if-is_number.false)) (reads_right refl (other_is (sym c.is_name.ensures ∙ c.if-is_name.false)) (reads_then c.in_ok-place.ensures.ok (reads_then (reads_as inner (expression_inside c.in_ok-inner.ensures.ok)) c.in_ok-inner-2.ensures.ok)))

pub more_terms-loop-terms-init : goal.more_terms-loop-terms-init
more_terms-loop-terms-init t c = items_none c.new-terms.ensures.items

pub more_terms-returns-in_err-sign-clause-err : goal.more_terms-returns-in_err-sign-clause-err
more_terms-returns-in_err-sign-clause-err t c = passed_on c.from_residual.result c.from_residual.ensures.1 (items_halt (next_is c.in_err-sign.ensures.next.is) c.loop-terms.invariant (halts_first c.in_err-sign.ensures.err))

pub more_terms-term2-requires : goal.more_terms-term2-requires
more_terms-term2-requires t c =
    let found = rw c.in-Some.is at c.in_ok-sign.ensures.ok in
    let before = says_within c.loop-terms.invariant.says in
    let less = sum_shorter c.in-Some.sign found.0 in
    (omega (arith, c.decreases), c.requires)

pub more_terms-returns-in_err-term-clause-err : goal.more_terms-returns-in_err-term-clause-err
more_terms-returns-in_err-term-clause-err t c =
    let found = rw c.in-Some.is at c.in_ok-sign.ensures.ok in
    passed_on c.from_residual-in_err-term.result c.from_residual-in_err-term.ensures.1 (items_halt (next_is found.1.is) c.loop-terms.invariant (halts_rest found.0 c.in_err-term.ensures.err))

pub more_terms-loop-terms-smaller : goal.more_terms-loop-terms-smaller
more_terms-loop-terms-smaller t c =
    let found = rw c.in-Some.is at c.in_ok-sign.ensures.ok in
    let less = sum_shorter c.in-Some.sign found.0 in
    let within = reads_within c.in_ok-term.ensures.ok in
    omega arith

pub more_terms-loop-terms-preserved : goal.more_terms-loop-terms-preserved
more_terms-loop-terms-preserved t c =
    let found = rw c.in-Some.is at c.in_ok-sign.ensures.ok in
    items_more (next_is found.1.is) c.in_ok-push.ensures.items c.loop-terms.invariant (reads_as (more_term_made c.in-Some.sign c.in_ok-term.term) (reads_then found.0 c.in_ok-term.ensures.ok))

pub more_factors-loop-factors-init : goal.more_factors-loop-factors-init
more_factors-loop-factors-init t c = items_none c.new-factors.ensures.items

pub more_factors-returns-in_err-sign-clause-err : goal.more_factors-returns-in_err-sign-clause-err
more_factors-returns-in_err-sign-clause-err t c = passed_on c.from_residual.result c.from_residual.ensures.1 (items_halt (next_is c.in_err-sign.ensures.next.is) c.loop-factors.invariant (halts_first c.in_err-sign.ensures.err))

pub more_factors-factor-requires : goal.more_factors-factor-requires
more_factors-factor-requires t c =
    let found = rw c.in-Some.is at c.in_ok-sign.ensures.ok in
    let before = says_within c.loop-factors.invariant.says in
    let less = product_shorter c.in-Some.sign found.0 in
    (omega (arith, c.decreases), c.requires)

pub more_factors-returns-in_err-factor-clause-err : goal.more_factors-returns-in_err-factor-clause-err
more_factors-returns-in_err-factor-clause-err t c =
    let found = rw c.in-Some.is at c.in_ok-sign.ensures.ok in
    passed_on c.from_residual-in_err-factor.result c.from_residual-in_err-factor.ensures.1 (items_halt (next_is found.1.is) c.loop-factors.invariant (halts_rest found.0 c.in_err-factor.ensures.err))

pub more_factors-loop-factors-smaller : goal.more_factors-loop-factors-smaller
more_factors-loop-factors-smaller t c =
    let found = rw c.in-Some.is at c.in_ok-sign.ensures.ok in
    let less = product_shorter c.in-Some.sign found.0 in
    let within = reads_within c.in_ok-factor.ensures.ok in
    omega arith

pub more_factors-loop-factors-preserved : goal.more_factors-loop-factors-preserved
more_factors-loop-factors-preserved t c =
    let found = rw c.in-Some.is at c.in_ok-sign.ensures.ok in
    items_more (next_is found.1.is) c.in_ok-push.ensures.items c.loop-factors.invariant (reads_then found.0 c.in_ok-factor.ensures.ok)
