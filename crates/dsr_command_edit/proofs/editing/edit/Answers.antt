use Rattle.std.proofs.Common.{arith}
use Rattle.dsr_command_edit.proofs.Ended.{broken_told, edited_told, groups_many, opened, outcome_of, unread_told, unwritable_told}
use Rattle.dsr_command_edit.specs.declared.editing.Outcome.TheVariants as outcomes
use Rattle.dsr_edit_text.specs.Shown.{shown_groups}
use Rattle.dsr_script.specs.Moves.{shown}
use Rattle.dsr_command_edit.proofs.editing.edit.Goals as goal

pub returns-in-Err-Line : goal.returns-in-Err-Line
returns-in-Err-Line c =
    unread_told c.args.ready c.ready.inside.spec c.ready.inside.paused.image c.args.script.now c.ready.view_is c.in-Err-Line.field-0 c.in-Err-Line.line
    (shown c.in_ok-unread_told-in-Err-Line.field-0) c.in-Err-Line.field-0-is c.in-Err-Line.ensures.fault c.in_ok-unread_told-in-Err-Line.ensures

pub returns-in-Made : goal.returns-in-Made
returns-in-Made c =
    let spec = c.ready.inside.spec in
    let layout = c.ready.inside.layout in
    let image = c.ready.inside.paused.image in
    let new = c.edit_groups.new.session.2 in
    let groups = c.in-Ok.groups.items in
    let count = c.len.ensures in
    let whole = c.deref.ensures.len in
    edited_told c.args.ready spec image c.args.script.now c.ready.view_is layout (opened spec layout c.ready.inside.paused c.ready.invariant) (shown_groups groups) c.in-Ok.ensures.read
    new c.into_bytes.result.items c.len.result (shown c.in_ok-told-in-Made.told) c.into_bytes.ensures.bytes
    (groups_many groups c.deref.result.now c.len.result c.deref.ensures.value (omega (arith, count, whole))) c.in_ok-told-in-Made.ensures
    (outcome_of spec layout image new c.resume-session.result groups c.deref.result.now c.in_ok-edit_groups.field-0 outcomes.Made
    c.deref.ensures.value c.resume-session.ensures c.in-Made.is c.in_ok-edit_groups.ensures.outcome)

pub returns-in-Unwritable : goal.returns-in-Unwritable
returns-in-Unwritable c =
    let spec = c.ready.inside.spec in
    let layout = c.ready.inside.layout in
    let image = c.ready.inside.paused.image in
    let groups = c.in-Ok.groups.items in
    unwritable_told c.args.ready spec image c.args.script.now c.ready.view_is layout (opened spec layout c.ready.inside.paused c.ready.invariant) (shown_groups groups) c.in-Ok.ensures.read
    c.in-Unwritable.line (shown c.in_ok-unwritable_told-in-Unwritable.field-0) c.in_ok-unwritable_told-in-Unwritable.ensures
    (outcome_of spec layout image c.edit_groups.new.session.2 c.resume-session.result groups c.deref.result.now c.in_ok-edit_groups.field-0
    (outcomes.Unwritable c.in-Unwritable.line) c.deref.ensures.value c.resume-session.ensures c.in-Unwritable.is c.in_ok-edit_groups.ensures.outcome)

pub returns : goal.returns
returns c =
    let spec = c.ready.inside.spec in
    let layout = c.ready.inside.layout in
    let image = c.ready.inside.paused.image in
    let groups = c.in-Ok.groups.items in
    broken_told c.args.ready spec image c.args.script.now c.ready.view_is layout (opened spec layout c.ready.inside.paused c.ready.invariant) (shown_groups groups) c.in-Ok.ensures.read
    c.in-Broken.group (record { constraint = c.in-Broken.constraint; binding = c.in-Broken.binding }) (shown c.in_ok-broken_told-in-Broken.field-0) c.in_ok-broken_told-in-Broken.ensures
    (outcome_of spec layout image c.edit_groups.new.session.2 c.resume-session.result groups c.deref.result.now c.in_ok-edit_groups.field-0
    (outcomes.Broken c.in-Broken.group c.in-Broken.constraint c.in-Broken.binding) c.deref.ensures.value c.resume-session.ensures c.in-Broken.is c.in_ok-edit_groups.ensures.outcome)
