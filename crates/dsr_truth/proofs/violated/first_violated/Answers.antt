use Rattle.std.proofs.Common.{get_or}
use Rattle.std.proofs.lemmas.Option.{slice_get-get_or}
use Rattle.dsr_model.specs.Facts.{IsInModel}
use Rattle.dsr_truth.proofs.Searching.{order_ends, order_finds, order_goes_on}
use Rattle.dsr_truth.proofs.violated.first_violated.Goals as goal

pub returns-in-Some : goal.returns-in-Some
returns-in-Some c =
    let order = c.args.order.now in
    let i = c.loop-number.number-index in
    let here = slice_get-get_or order i 0 c.loop-number-test.true in
    order_finds (IsInModel c.args.model.now) c.args.spec.now order i (get_or order i 0) here c.in-Some.binding
    c.loop-number.invariant c.in-Some.ensures

pub loop-number-preserved : goal.loop-number-preserved
loop-number-preserved c =
    let order = c.args.order.now in
    let i = c.loop-number.number-index in
    let here = slice_get-get_or order i 0 c.loop-number-test.true in
    order_goes_on (IsInModel c.args.model.now) c.args.spec.now order i (get_or order i 0) here
    c.loop-number.invariant c.in_default.ensures

pub returns : goal.returns
returns c =
    order_ends (IsInModel c.args.model.now) c.args.spec.now c.args.order.now c.loop-number.number-index
    c.loop-number-test.false c.loop-number.invariant
