-- Whether some set has the record.
use Rattle.std.proofs.Common.{refl, sym, ◌∙◌, get_or}
use Rattle.std.proofs.lemmas.Bool.{false≢true}
use Rattle.std.proofs.lemmas.Option.{slice_get-get_or}
use Rattle.dsr_repair.proofs.Gone.{each_more}
use Rattle.dsr_repair.proofs.Taken.{taken_here, taken_nowhere}
use Rattle.dsr_ir.specs.declared.tuples.Fact.TheVariants.{Member}
use Rattle.dsr_model.specs.Facts.{IsInModel}
use Rattle.dsr_repair.proofs.fresh.is_taken.Goals as goal

pub returns-then-has : goal.returns-then-has
returns-then-has c = (
  λ _. taken_here (IsInModel c.args.model.now) c.args.sets.now c.args.elem c.loop-set.set-index
      (get_or c.args.sets.now c.loop-set.set-index 0)
      (slice_get-get_or c.args.sets.now c.loop-set.set-index 0 c.loop-set-test.true)
      (c.has.ensures.0 c.if-has.true),
  λ _. refl,
)

pub loop-set-preserved : goal.loop-set-preserved
loop-set-preserved c =
    each_more (λ n set. IsInModel c.args.model.now (Member set c.args.elem) → ⊥) c.args.sets.now c.loop-set.set-index
    (get_or c.args.sets.now c.loop-set.set-index 0)
    (slice_get-get_or c.args.sets.now c.loop-set.set-index 0 c.loop-set-test.true)
    c.loop-set.invariant (λ has. false≢true (sym c.if-has.false ∙ c.has.ensures.1 has))

pub returns : goal.returns
returns c = (
  λ wrong. absurd (false≢true wrong),
  λ taken. absurd (taken_nowhere (IsInModel c.args.model.now) c.args.sets.now c.args.elem c.loop-set.set-index
      c.loop-set-test.false c.loop-set.invariant taken),
)
