use Rattle.std.proofs.Common.{length, arith, ◌∙◌, ◌<◌, ◌≤◌}
use Rattle.std.proofs.lemmas.List.{take_more}
use Rattle.dsr_edit.proofs.Taking.{take_whole}
use Rattle.dsr_edit.proofs.puts.copied.Goals as goal

pub loop-at-preserved : goal.loop-at-preserved
loop-at-preserved c =
    let low : c.loop-at.at < length c.args.image.now = omega (arith, c.loop-at-test.true, c.len-at-end.ensures.count) in
    let more = take_more c.args.image.now c.loop-at.at 0 low in
    let items = c.in_ok-push.ensures.items in
    let far = c.loop-at.invariant in
    let byte = c.byte.ensures in
    cc

pub returns : goal.returns
returns c =
    let all : length c.args.image.now ≤ c.loop-at.at = omega (arith, c.loop-at-test.false, c.len-at-end.ensures.count) in
    c.loop-at.invariant ∙ take_whole c.args.image.now c.loop-at.at all
