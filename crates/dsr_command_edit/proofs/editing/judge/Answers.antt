use Rattle.std.proofs.Common.{◌+◌, map, subst, sym}
use Rattle.dsr_command_edit.proofs.Judged.{IsJudged, none_judged, one_judged, shown_at, wrong_line}
use Rattle.dsr_edit_text.specs.Shown.{shown}
use Rattle.dsr_command_edit.proofs.editing.judge.Goals as goal

pub loop-place-init : goal.loop-place-init
loop-place-init c =
    let lines = map shown c.args.group.now in
    subst (IsJudged c.args.spec.now c.args.session.now.1 lines 0) (sym c.in_ok-writes.ensures.items) (none_judged c.args.spec.now c.args.session.now.1 lines)

pub returns-in_default : goal.returns-in_default
returns-in_default c =
    wrong_line c.args.spec.now c.args.session.now.1 (map shown c.args.group.now) c.loop-place.place c.loop-place.writes.items c.loop-place.invariant
    (shown c.line_at-set.result) (shown_at c.args.group.now c.loop-place.place c.line_at-set.result c.line_at-set.ensures) c.in_default.ensures

pub loop-place-preserved : goal.loop-place-preserved
loop-place-preserved c =
    let lines = map shown c.args.group.now in
    subst (IsJudged c.args.spec.now c.args.session.now.1 lines (c.loop-place.place + 1)) (sym c.in_ok-push.ensures.items)
    (one_judged c.args.spec.now c.args.session.now.1 lines c.loop-place.place c.loop-place.writes.items c.loop-place.invariant
    (shown c.line_at-set.result) c.in-Some.write (shown_at c.args.group.now c.loop-place.place c.line_at-set.result c.line_at-set.ensures) c.in-Some.ensures.0 c.in-Some.ensures.1)
