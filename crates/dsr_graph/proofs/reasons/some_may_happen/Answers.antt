use Rattle.std.proofs.Common.{length, refl, sym, ap, ◌∙◌, arith}
use Rattle.std.proofs.lemmas.Bool.{false≢true}
use Rattle.dsr_graph_theory.specs.Excuses.{MayHappen}
use Rattle.dsr_graph.proofs.Firsts.{change_at, none_ends, none_more, some_here, update_of}
use Rattle.dsr_graph.proofs.Tagged.{some_decides}
use Rattle.dsr_compensate.specs.Owned.{owner_of}
use Rattle.dsr_graph.proofs.reasons.some_may_happen.Goals as goal

pub returns-then-is_some : goal.returns-then-is_some
returns-then-is_some c =
    let owner = owner_of c.args.owner.now in
    let template = c.args.judged.now.template in
    let n = c.loop-effect.effect-index in
    let u = update_of owner c.args.judged.now c.requires.judged c.items-effect-items.result.now c.items-effect-items.ensures n c.loop-effect-test.true c.effect-item.result c.effect-item.is in
    let change = change_at owner template n u.0 in
    let are = c.tags_for.ensures change (sym (ap (λ s. s.base) c.spec.ensures)) u.2 in (
      λ _. some_here owner template (λ x. MayHappen x c.args.reason) n u.0 u.1 ((some_decides change c.args.reason c.tags_for.result are).0 (sym c.is_some.ensures ∙ c.if-is_some.true)),
      λ _. refl,
    )

pub loop-effect-preserved : goal.loop-effect-preserved
loop-effect-preserved c =
    let owner = owner_of c.args.owner.now in
    let template = c.args.judged.now.template in
    let n = c.loop-effect.effect-index in
    let u = update_of owner c.args.judged.now c.requires.judged c.items-effect-items.result.now c.items-effect-items.ensures n c.loop-effect-test.true c.effect-item.result c.effect-item.is in
    let change = change_at owner template n u.0 in
    let are = c.tags_for.ensures change (sym (ap (λ s. s.base) c.spec.ensures)) u.2 in
    none_more owner template (λ x. MayHappen x c.args.reason) n u.0 u.1
    (λ may. false≢true (sym c.if-is_some.false ∙ (c.is_some.ensures ∙ (some_decides change c.args.reason c.tags_for.result are).1 may)))
    c.loop-effect.invariant

pub returns : goal.returns
returns c =
    let past = c.loop-effect-test.false in
    let effects = ap length c.items-effect-items.ensures in
    let many = c.requires.judged.as_many in (
      λ no. absurd (false≢true no),
      λ some. absurd (none_ends (owner_of c.args.owner.now) c.args.judged.now.template (λ x. MayHappen x c.args.reason) c.loop-effect.effect-index (omega (arith, past, effects, many)) c.loop-effect.invariant some),
    )
