use Rattle.std.proofs.Common.{refl, sym, ◌∙◌, arith}
use Rattle.std.proofs.lemmas.Bool.{false≢true}
use Rattle.dsr_compensate.proofs.Each.{each_ends, each_more}
use Rattle.dsr_placement.specs.Placing.{BreaksLeft, IsLeft}
use Rattle.dsr_placement.proofs.sparing.spares.Goals as goal
use Rattle.dsr_meaning.proofs.Items.{item_there}

pub returns-then-breaks_left : goal.returns-then-breaks_left
returns-then-breaks_left c = λ owner template way many.
    let less = c.loop-other-test.true in
    let its = item_there owner.spec.constraints c.loop-other.other (omega (arith, less, many)) in
    let breaks = (c.breaks_left.ensures owner template its.0 way its.1).0 c.if-breaks_left.true in (
      λ no. absurd (false≢true no),
      λ spares. absurd (spares c.loop-other.other its.0 breaks.reason breaks.member its.1 breaks.breaks),
    )

pub loop-other-preserved : goal.loop-other-preserved
loop-other-preserved c = λ owner template way many.
    let less = c.loop-other-test.true in
    let its = item_there owner.spec.constraints c.loop-other.other (omega (arith, less, many)) in
    each_more (λ n other. BreaksLeft owner (IsLeft c.args.left.now) template n other → ⊥) owner.spec.constraints c.loop-other.other its.0 its.1
    (λ breaks. false≢true (sym c.if-breaks_left.false ∙ (c.breaks_left.ensures owner template its.0 way its.1).1 breaks))
    (c.loop-other.invariant owner template way many)

pub returns : goal.returns
returns c = λ owner template way many.
    let past = c.loop-other-test.false in (
      λ _ n other reason member there breaks. each_ends (λ k o. BreaksLeft owner (IsLeft c.args.left.now) template k o → ⊥) owner.spec.constraints c.loop-other.other (omega (arith, past, many)) (c.loop-other.invariant owner template way many) n other there (record { member = member; reason = reason; breaks = breaks }),
      λ _. refl,
    )
