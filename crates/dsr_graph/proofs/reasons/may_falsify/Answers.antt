use Rattle.std.proofs.Common.{refl, sym, ◌∙◌}
use Rattle.std.proofs.lemmas.Bool.{false≢true}
use Rattle.dsr_graph_theory.specs.Breaks.{SomeUpdate}
use Rattle.dsr_graph_theory.specs.Excuses.{MayHappen}
use Rattle.dsr_effect.proofs.Guards.{each_at_all, each_more, some_found}
use Rattle.dsr_compensate.specs.Owned.{owner_of}
use Rattle.dsr_graph.proofs.reasons.may_falsify.Goals as goal

pub returns-then-some_may_happen : goal.returns-then-some_may_happen
returns-then-some_may_happen c = (
  λ _. some_found (λ cause. SomeUpdate (owner_of c.args.owner.now) c.args.judged.now.template (λ x. MayHappen x cause.reason)) c.args.causes.now c.loop-cause.cause-index _ c.loop-cause-test.true c.args.causes.now refl
      (c.some_may_happen.ensures.0 c.if-some_may_happen.true),
  λ _. refl,
)

pub loop-cause-preserved : goal.loop-cause-preserved
loop-cause-preserved c =
    each_more (λ cause. SomeUpdate (owner_of c.args.owner.now) c.args.judged.now.template (λ x. MayHappen x cause.reason) → ⊥) c.args.causes.now c.loop-cause.cause-index _ c.loop-cause-test.true
    (λ some. false≢true (sym c.if-some_may_happen.false ∙ c.some_may_happen.ensures.1 some)) c.loop-cause.invariant

pub returns : goal.returns
returns c = (
  λ no. absurd (false≢true no),
  λ found. absurd (each_at_all (λ cause. SomeUpdate (owner_of c.args.owner.now) c.args.judged.now.template (λ x. MayHappen x cause.reason) → ⊥) c.args.causes.now c.args.causes.now c.loop-cause.cause-index c.loop-cause-test.false refl c.loop-cause.invariant found.0 found.1 found.2),
)
