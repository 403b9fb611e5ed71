use Rattle.std.proofs.Common.{length, refl, sym, ap, ◌∙◌, arith}
use Rattle.std.proofs.lemmas.Bool.{false≢true}
use Rattle.dsr_graph_theory.specs.Breaks.{MayBreakBy}
use Rattle.dsr_graph.proofs.Firsts.{change_at, effect_here, none_ends, none_more, some_here, update_here}
use Rattle.dsr_compensate.specs.Owned.{owner_of}
use Rattle.dsr_graph.proofs.reasons.some_may_break.Goals as goal

pub returns-then-may_break : goal.returns-then-may_break
returns-then-may_break c = λ other tells.
    let owner = owner_of c.args.owner.now in
    let judged = c.args.judged.now in
    let n = c.loop-place.place in
    let update = c.index-updates-place.result in
    let its = effect_here owner judged c.requires.judged c.items-updates.result.now c.items-updates.ensures c.items-effects.result.now c.items-effects.ensures n c.loop-place-test.true update c.index-updates-place.is c.index-effects-place.result c.index-effects-place.is in (
      λ _. some_here owner judged.template (MayBreakBy owner other c.args.cause.now) n update (update_here owner judged c.requires.judged c.items-updates.result.now c.items-updates.ensures n c.loop-place-test.true update c.index-updates-place.is)
          ((c.may_break.ensures owner other (change_at owner judged.template n update) tells refl (sym (ap (λ s. s.base) c.spec.ensures)) its).0 c.if-may_break.true),
      λ _. refl,
    )

pub loop-place-preserved : goal.loop-place-preserved
loop-place-preserved c = λ other tells.
    let owner = owner_of c.args.owner.now in
    let judged = c.args.judged.now in
    let n = c.loop-place.place in
    let update = c.index-updates-place.result in
    let its = effect_here owner judged c.requires.judged c.items-updates.result.now c.items-updates.ensures c.items-effects.result.now c.items-effects.ensures n c.loop-place-test.true update c.index-updates-place.is c.index-effects-place.result c.index-effects-place.is in
    none_more owner judged.template (MayBreakBy owner other c.args.cause.now) n update (update_here owner judged c.requires.judged c.items-updates.result.now c.items-updates.ensures n c.loop-place-test.true update c.index-updates-place.is)
    (λ may. false≢true (sym c.if-may_break.false ∙ (c.may_break.ensures owner other (change_at owner judged.template n update) tells refl (sym (ap (λ s. s.base) c.spec.ensures)) its).1 may))
    (c.loop-place.invariant other tells)

pub returns : goal.returns
returns c = λ other tells.
    let past = c.loop-place-test.false in
    let many = ap length c.items-updates.ensures in (
      λ no. absurd (false≢true no),
      λ some. absurd (none_ends (owner_of c.args.owner.now) c.args.judged.now.template (MayBreakBy (owner_of c.args.owner.now) other c.args.cause.now) c.loop-place.place (omega (arith, past, many)) (c.loop-place.invariant other tells) some),
    )
