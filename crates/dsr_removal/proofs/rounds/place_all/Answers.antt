use Rattle.std.proofs.Common.{◌≡◌, ◌∙◌, ◌<◌, length, None, replicate, sym, ap, subst, arith}
use Rattle.std.proofs.lemmas.Grind.{common_steps}
use Rattle.dsr_removal.proofs.Staying.{no_more, rounds_next, settled, starts}
use Rattle.dsr_removal.specs.Rounds.{AreNext, unplaced}
use Rattle.dsr_removal.proofs.rounds.place_all.Goals as goal

pub loop-rounds-init : goal.loop-rounds-init
loop-rounds-init c =
    let spec = c.args.spec.now in
    let n = length c.items.result.now in
    let same : c.in_ok-rounds.rounds.items ≡ replicate n None = grind (arith, common_steps) in
    rw same (starts spec n (ap length c.items.ensures))

pub returns-then-unplaced : goal.returns-then-unplaced
returns-then-unplaced c =
    let spec = c.args.spec.now in
    let rounds = c.loop-rounds.rounds.items in
    let next = c.in_ok-next.next.items in
    let one = subst (λ xs. AreNext spec xs c.loop-rounds.count next) c.deref.ensures.value c.in_ok-next.ensures in
    let after = c.unplaced.ensures ∙ ap unplaced c.deref-in-loop-rounds.ensures.value in
    let before = c.unplaced-in-loop-rounds.ensures ∙ ap unplaced c.deref-in-loop-rounds-2.ensures.value in
    settled spec rounds next c.loop-rounds.count c.loop-rounds.invariant.0 one (sym after ∙ (c.if-unplaced.true ∙ before))

pub loop-rounds-smaller : goal.loop-rounds-smaller
loop-rounds-smaller c =
    let spec = c.args.spec.now in
    let rounds = c.loop-rounds.rounds.items in
    let next = c.in_ok-next.next.items in
    let one = subst (λ xs. AreNext spec xs c.loop-rounds.count next) c.deref.ensures.value c.in_ok-next.ensures in
    let after = c.unplaced.ensures ∙ ap unplaced c.deref-in-loop-rounds.ensures.value in
    let before = c.unplaced-in-loop-rounds.ensures ∙ ap unplaced c.deref-in-loop-rounds-2.ensures.value in
    let most = no_more spec rounds next c.loop-rounds.count c.loop-rounds.invariant.0 one in
    let other = c.if-unplaced.false in
    omega (arith, most, other, after, before)

pub loop-rounds-preserved : goal.loop-rounds-preserved
loop-rounds-preserved c =
    let spec = c.args.spec.now in
    let rounds = c.loop-rounds.rounds.items in
    let next = c.in_ok-next.next.items in
    let one = subst (λ xs. AreNext spec xs c.loop-rounds.count next) c.deref.ensures.value c.in_ok-next.ensures in
    let after = c.unplaced.ensures ∙ ap unplaced c.deref-in-loop-rounds.ensures.value in
    let before = c.unplaced-in-loop-rounds.ensures ∙ ap unplaced c.deref-in-loop-rounds-2.ensures.value in
    let most = no_more spec rounds next c.loop-rounds.count c.loop-rounds.invariant.0 one in
    let other = c.if-unplaced.false in
    let less : unplaced next < unplaced rounds = omega (arith, most, other, after, before) in
    let room = c.loop-rounds.invariant.1 in (
      rounds_next spec rounds next c.loop-rounds.count c.loop-rounds.invariant.0 one less,
      omega (arith, less, room),
    )
