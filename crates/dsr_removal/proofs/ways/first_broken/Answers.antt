use Rattle.std.proofs.Common.{arith}
use Rattle.dsr_compensate.proofs.Each.{each_more}
use Rattle.dsr_placement.specs.Placing.{BreaksLeft, IsLeft}
use Rattle.dsr_removal.proofs.Breaking.{first_here, spares_all}
use Rattle.dsr_removal.proofs.ways.first_broken.Goals as goal
use Rattle.dsr_meaning.proofs.Items.{item_there}

pub returns-in-Some : goal.returns-in-Some
returns-in-Some c = λ owner template way many.
    let less = c.loop-other-test.true in
    let its = item_there owner.spec.constraints c.loop-other.other (omega (arith, less, many)) in
    first_here owner (IsLeft c.args.left.now) template c.loop-other.other its.0 c.in-Some.reason its.1
    (c.in-Some.ensures owner template its.0 way its.1) (c.loop-other.invariant owner template way many)

pub loop-other-preserved : goal.loop-other-preserved
loop-other-preserved c = λ owner template way many.
    let less = c.loop-other-test.true in
    let its = item_there owner.spec.constraints c.loop-other.other (omega (arith, less, many)) in
    each_more (λ n other. BreaksLeft owner (IsLeft c.args.left.now) template n other → ⊥) owner.spec.constraints c.loop-other.other its.0 its.1
    (c.in_default.ensures owner template its.0 way its.1)
    (c.loop-other.invariant owner template way many)

pub returns : goal.returns
returns c = λ owner template way many.
    let past = c.loop-other-test.false in
    spares_all owner (IsLeft c.args.left.now) template c.loop-other.other (omega (arith, past, many)) (c.loop-other.invariant owner template way many)
