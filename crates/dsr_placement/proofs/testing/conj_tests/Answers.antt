use Rattle.std.proofs.Common.{◌≡◌, ◌↔◌, IsTrue, false, length, not, slice_get, sym, ap, subst, ◌∙◌, arith}
use Rattle.std.proofs.Math.Bool.{not-not}
use Rattle.std.specs.Prelude.{option_and_then}
use Rattle.std.proofs.lemmas.Option.{slice_get_within, slice_get-get_or}
use Rattle.dsr_compensate.proofs.Each.{length_more}
use Rattle.dsr_placement.specs.Atoms.{mark_at}
use Rattle.dsr_placement.proofs.Marks.{each_index, mark_if}
use Rattle.dsr_placement.specs.Placing.{IsLeft}
use Rattle.dsr_plan_theory.specs.Stuck.{MustTest}
use Rattle.dsr_placement.proofs.testing.conj_tests.Goals as goal

pub loop-place-preserved : goal.loop-place-preserved
loop-place-preserved c =
    let marks = c.loop-place.marks.items in
    let place = c.loop-place.place in
    let many_marks : length marks ≡ place = c.loop-place.invariant.0 in
    let literals = c.args.conj.now.literals in
    let here = sym (ap (λ xs. slice_get xs place) c.items-literal-items.ensures) ∙ slice_get-get_or c.items-literal-items.result.now place _ c.loop-place-test.true in
    let pushed = c.in_ok-push.ensures.items in
    let longer = ap length pushed in
    let more = length_more marks c.is_none.result in (
      omega (arith, longer, more, many_marks),
      λ owner in_graph many conj_is n literal below there.
          let left = IsLeft c.args.left.now in
          let literal_is = ap (option_and_then (λ l. slice_get l.literals place)) conj_is ∙ here in
          let its = mark_if c.args.graph.now (record { constraint = c.args.constraint; conj = c.args.number; literal = place }) owner in_graph left _ literal_is c.way.result (c.way.ensures owner in_graph many literal_is) in
          let told = subst (λ r. IsTrue r ↔ MustTest owner left c.args.number place) (ap not c.is_none.ensures ∙ not-not c.is_none.result) its in
          subst (λ ys. IsTrue (mark_at ys n) ↔ MustTest owner left c.args.number n) (sym pushed)
          (each_index (λ k l m. IsTrue m ↔ MustTest owner left c.args.number k) literals marks false c.is_none.result _ (ap (slice_get literals) many_marks ∙ here)
          (subst (λ k. IsTrue c.is_none.result ↔ MustTest owner left c.args.number k) (sym many_marks) told)
          (λ m a less its_there. c.loop-place.invariant.1 owner in_graph many conj_is m a (omega (arith, less, many_marks)) its_there)
          n literal (omega (arith, below, many_marks)) there),
    )

pub returns : goal.returns
returns c = λ owner in_graph many conj_is n literal there.
    let past = c.loop-place-test.false in
    let long = ap length c.items-literal-items.ensures in
    let below = slice_get_within c.args.conj.now.literals n literal there in
    c.loop-place.invariant.1 owner in_graph many conj_is n literal (omega (arith, past, long, below)) there

pub way-requires-clause-there : goal.way-requires-clause-there
way-requires-clause-there c =
    let place = c.loop-place.place in
    let here = sym (ap (λ xs. slice_get xs place) c.items-literal-items.ensures) ∙ slice_get-get_or c.items-literal-items.result.now place _ c.loop-place-test.true in
    let its = c.requires.there in
    record { its = its.its; in_graph = its.in_graph; literal_is = ap (option_and_then (λ l. slice_get l.literals place)) its.conj_is ∙ here }
