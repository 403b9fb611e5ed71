use Rattle.std.proofs.Common.{◌≡◌, Some, length, slice_get, refl, sym, ap, subst, ◌∙◌, arith}
use Rattle.std.proofs.lemmas.Bool.{false≢true}
use Rattle.std.proofs.lemmas.Option.{slice_get-get_or}
use Rattle.dsr_placement.proofs.Each.{each_ends, each_more}
use Rattle.dsr_placement.specs.Atoms.{IsTested, IsTestedIn, truth_by}
use Rattle.dsr_plan_theory.specs.Plans.{PassesTests}
use Rattle.dsr_placement.proofs.truths.World.some_passes.Goals as goal

pub returns-then-passes : goal.returns-then-passes
returns-then-passes c = (
  λ _. record {
    number = c.loop-number.number;
    conj = c.conj-item.result;
    conj_is = (subst (λ xs. slice_get xs c.loop-number.number ≡ Some c.conj-item.result) c.items-conj-items.ensures (slice_get-get_or c.items-conj-items.result.now c.loop-number.number c.conj-item.result c.loop-number-test.true ∙ ap Some (sym c.conj-item.is)));
    passes = subst (λ row. PassesTests (IsTestedIn row) (truth_by c.args.self.now.atoms.now c.args.self.now.truths.now) c.conj-item.result) c.row.ensures (c.passes.ensures.0 c.if-passes.true);
  },
  λ _. refl,
)

pub loop-number-preserved : goal.loop-number-preserved
loop-number-preserved c =
    each_more (λ n conj. PassesTests (IsTested c.args.tests.now n) (truth_by c.args.self.now.atoms.now c.args.self.now.truths.now) conj → ⊥) c.args.constraint.now.conjs c.loop-number.number c.conj-item.result (subst (λ xs. slice_get xs c.loop-number.number ≡ Some c.conj-item.result) c.items-conj-items.ensures (slice_get-get_or c.items-conj-items.result.now c.loop-number.number c.conj-item.result c.loop-number-test.true ∙ ap Some (sym c.conj-item.is)))
    (λ passes. false≢true (sym c.if-passes.false ∙ c.passes.ensures.1 (subst (λ row. PassesTests (IsTestedIn row) (truth_by c.args.self.now.atoms.now c.args.self.now.truths.now) c.conj-item.result) (sym c.row.ensures) passes))) c.loop-number.invariant

pub returns : goal.returns
returns c =
    let past = c.loop-number-test.false in
    let many = ap length c.items-conj-items.ensures in (
      λ no. absurd (false≢true no),
      λ some. absurd (each_ends (λ n conj. PassesTests (IsTested c.args.tests.now n) (truth_by c.args.self.now.atoms.now c.args.self.now.truths.now) conj → ⊥) c.args.constraint.now.conjs c.loop-number.number (omega (arith, past, many)) c.loop-number.invariant some.number some.conj some.conj_is some.passes),
    )
