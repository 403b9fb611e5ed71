-- The first conjunction that passes its tests.
use Rattle.std.proofs.Common.{sym, ap, ◌∙◌, subst, slice_get}
use Rattle.std.proofs.lemmas.Bool.{false≢true}
use Rattle.dsr_repair.proofs.Gone.{each_done, each_more, got, within_of}
use Rattle.dsr_repair.specs.Literals.{AreTestsTrue, Passes}
use Rattle.dsr_model.specs.Facts.{IsInModel}
use Rattle.dsr_repair.proofs.literals.first_passing.Goals as goal

pub returns-then-passes : goal.returns-then-passes
returns-then-passes c =
    let at = ap (λ l. slice_get l c.loop-place.place) (sym c.items-conj-items.ensures)
    ∙ got c.items-conj-items.result.now c.loop-place.place c.conj-item.result c.loop-place-test.true c.conj-item.is in
    record {
      conj_is = at;
      ways_are = c.ways_of-ways.ensures;
      passes = subst (AreTestsTrue (IsInModel c.args.model.now) c.args.binding.now c.conj-item.result.literals) c.ways_of-ways.ensures
          (c.passes.ensures.0 c.if-passes.true);
      none_before = λ n conj less is passes. c.loop-place.invariant n conj less is passes;
    }

pub loop-place-preserved : goal.loop-place-preserved
loop-place-preserved c =
    let at = ap (λ l. slice_get l c.loop-place.place) (sym c.items-conj-items.ensures)
    ∙ got c.items-conj-items.result.now c.loop-place.place c.conj-item.result c.loop-place-test.true c.conj-item.is in
    each_more (λ n conj. Passes (IsInModel c.args.model.now) c.args.binding.now c.args.constraint.now c.args.row.now n conj → ⊥)
    c.args.constraint.now.conjs c.loop-place.place c.conj-item.result at c.loop-place.invariant
    (λ passes. false≢true (sym c.if-passes.false ∙ c.passes.ensures.1
    (subst (AreTestsTrue (IsInModel c.args.model.now) c.args.binding.now c.conj-item.result.literals) (sym c.ways_of-ways.ensures) passes)))

pub returns : goal.returns
returns c =
    each_done (λ n conj. Passes (IsInModel c.args.model.now) c.args.binding.now c.args.constraint.now c.args.row.now n conj → ⊥)
    c.args.constraint.now.conjs c.loop-place.place
    (within_of c.args.constraint.now.conjs c.items-conj-items.result.now c.loop-place.place c.items-conj-items.ensures c.loop-place-test.false)
    c.loop-place.invariant
