use Rattle.std.proofs.Common.{IsTrue, length, slice_get, refl, sym, ap, ◌∙◌, arith}
use Rattle.std.proofs.lemmas.Bool.{false≢true}
use Rattle.std.proofs.lemmas.Option.{slice_get-get_or}
use Rattle.dsr_placement.proofs.Each.{each_ends, each_more}
use Rattle.dsr_placement.proofs.Passing.{fails_if, passes_if}
use Rattle.dsr_placement.specs.Atoms.{IsTestedIn, mark_at, truth_by}
use Rattle.dsr_plan_theory.specs.Plans.{comes_out}
use Rattle.dsr_placement.proofs.truths.World.passes.Goals as goal

pub returns-then-fails : goal.returns-then-fails
returns-then-fails c =
    let failed = fails_if (mark_at c.args.tests.now c.loop-place.place) _ (sym c.fails.ensures ∙ c.if-fails.true) in (
      λ no. absurd (false≢true no),
      λ passes. absurd (failed.1 (passes c.loop-place.place _ (sym (ap (λ xs. slice_get xs c.loop-place.place) c.items-literal-items.ensures) ∙ slice_get-get_or c.items-literal-items.result.now c.loop-place.place _ c.loop-place-test.true) failed.0)),
    )

pub loop-place-preserved : goal.loop-place-preserved
loop-place-preserved c =
    each_more (λ n literal. IsTestedIn c.args.tests.now n → IsTrue (comes_out (truth_by c.args.self.now.atoms.now c.args.self.now.truths.now) literal)) c.args.conj.now.literals c.loop-place.place _ (sym (ap (λ xs. slice_get xs c.loop-place.place) c.items-literal-items.ensures) ∙ slice_get-get_or c.items-literal-items.result.now c.loop-place.place _ c.loop-place-test.true)
    (λ tested. passes_if (mark_at c.args.tests.now c.loop-place.place) _ (sym c.fails.ensures ∙ c.if-fails.false) tested) c.loop-place.invariant

pub returns : goal.returns
returns c =
    let past = c.loop-place-test.false in
    let many = ap length c.items-literal-items.ensures in (
      λ _ n l there tested. each_ends (λ n literal. IsTestedIn c.args.tests.now n → IsTrue (comes_out (truth_by c.args.self.now.atoms.now c.args.self.now.truths.now) literal)) c.args.conj.now.literals c.loop-place.place (omega (arith, past, many)) c.loop-place.invariant n l there tested,
      λ _. refl,
    )
