-- Whether all tested literals are true.
use Rattle.std.proofs.Common.{◌≡◌, Some, refl, slice_get}
use Rattle.std.proofs.lemmas.Bool.{false≢true}
use Rattle.dsr_repair.proofs.Gone.{each_done, each_more, got_of, within_of}
use Rattle.dsr_meaning.specs.Truth.{LiteralHolds}
use Rattle.dsr_model.specs.Facts.{IsInModel}
use Rattle.dsr_plan_theory.specs.declared.choices.Way.TheVariants.{Test}
use Rattle.dsr_repair.proofs.literals.passes.Goals as goal

pub returns-then-is_failed_test : goal.returns-then-is_failed_test
returns-then-is_failed_test c = (λ wrong. absurd (false≢true wrong), λ all. absurd (c.if-is_failed_test.ensures.1 (all c.loop-place.place _ (got_of c.args.conj.now.literals c.items-its-items.result.now c.loop-place.place _ c.items-its-items.ensures c.loop-place-test.true) c.if-is_failed_test.ensures.0)))

pub loop-place-preserved : goal.loop-place-preserved
loop-place-preserved c =
    each_more (λ n its. slice_get c.args.ways.now n ≡ Some Test → LiteralHolds (IsInModel c.args.model.now) c.args.binding.now its)
    c.args.conj.now.literals c.loop-place.place _
    (got_of c.args.conj.now.literals c.items-its-items.result.now c.loop-place.place _ c.items-its-items.ensures c.loop-place-test.true)
    c.loop-place.invariant c.if-is_failed_test.ensures

pub returns : goal.returns
returns c = (λ _. each_done (λ n its. slice_get c.args.ways.now n ≡ Some Test → LiteralHolds (IsInModel c.args.model.now) c.args.binding.now its) c.args.conj.now.literals c.loop-place.place (within_of c.args.conj.now.literals c.items-its-items.result.now c.loop-place.place c.items-its-items.ensures c.loop-place-test.false) c.loop-place.invariant, λ _. refl)
