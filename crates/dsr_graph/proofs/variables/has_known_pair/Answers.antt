use Rattle.std.proofs.Common.{IsTrue, refl, sym, ◌∙◌}
use Rattle.std.proofs.lemmas.Bool.{false≢true}
use Rattle.dsr_effect.proofs.Guards.{each_at_all, each_more, some_found}
use Rattle.dsr_goal.specs.Knowing.{known_by}
use Rattle.dsr_graph.proofs.variables.has_known_pair.Goals as goal
use Rattle.dsr_graph.proofs.variables.has_known_pair.Goals.{else-has-via-then-has+else-has-2, else-has-via-else-has}

pub loop-pair-preserved : goal.loop-pair-preserved
loop-pair-preserved c =
    each_more (λ pair. IsTrue (known_by c.args.known.now c.args.var pair.0) × IsTrue (known_by c.args.other.now c.args.at pair.1) → ⊥) c.args.pairs.now c.loop-pair.pair-index _ c.loop-pair-test.true
    (λ both. elim c.else-has.branch [
      | else-has-via-then-has+else-has-2 w ↦ false≢true (sym w.if-has-2.false ∙ w.has-then-has.ensures ∙ both.1)
      | else-has-via-else-has w ↦ false≢true (sym w.if-has.false ∙ c.has.ensures ∙ both.0)
    ]) c.loop-pair.invariant

pub returns : goal.returns
returns c = (
  λ no. absurd (false≢true no),
  λ found. absurd (each_at_all (λ pair. IsTrue (known_by c.args.known.now c.args.var pair.0) × IsTrue (known_by c.args.other.now c.args.at pair.1) → ⊥) c.args.pairs.now c.args.pairs.now c.loop-pair.pair-index c.loop-pair-test.false refl c.loop-pair.invariant found.0 found.1 (found.2, found.3)),
)

pub returns-then-has-2 : goal.returns-then-has-2
returns-then-has-2 c = (
  λ _.
      let found = some_found (λ pair. IsTrue (known_by c.args.known.now c.args.var pair.0) × IsTrue (known_by c.args.other.now c.args.at pair.1)) c.args.pairs.now c.loop-pair.pair-index _ c.loop-pair-test.true c.args.pairs.now refl
      (sym c.has.ensures ∙ c.if-has.true, sym c.has-then-has.ensures ∙ c.if-has-2.true) in
      (found.0, found.1, found.2.0, found.2.1),
  λ _. refl,
)
