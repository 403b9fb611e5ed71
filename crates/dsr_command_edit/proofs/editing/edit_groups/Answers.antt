use Rattle.std.proofs.Common.{◌∙◌, ◌+◌, map, refl, subst, sym, arith}
use Rattle.dsr_command_edit.proofs.Stepped.{AreMadeTo, broken_here, group_at, group_long, line_within, none_made, one_made, place_within, stepped, unwritable_here}
use Rattle.dsr_command_edit.specs.declared.editing.Step.TheVariants as steps
use Rattle.dsr_edit_text.specs.Shown.{shown, shown_groups}
use Rattle.dsr_command_edit.proofs.editing.edit_groups.Goals as goal

pub loop-number-init : goal.loop-number-init
loop-number-init c = record {
  spec_is = c.requires.spec;
  layout_is = refl;
  made = none_made c.args.spec.now c.args.session.now.1 (shown_groups c.args.groups.now) c.args.session.now.2;
}

pub overflow_add-line-in-Made : goal.overflow_add-line-in-Made
overflow_add-line-in-Made c =
    let few = c.requires.few in
    let lines = c.deref.result.now in
    let at = group_at c.args.groups.now c.loop-number.number c.index-groups-number.result lines c.loop-number-test.true c.index-groups-number.is c.deref.ensures.value in
    let long = group_long lines c.len.result (let count = c.len.ensures in let whole = c.deref.ensures.len in omega (arith, count, whole)) in
    let within = line_within c.args.spec.now c.args.session.now.1 (shown_groups c.args.groups.now) c.args.session.now.2 c.loop-number.number c.loop-number.line c.loop-number.session.2 c.loop-number.invariant.made (map shown lines) at in
    omega (arith, few, long, within)

pub overflow_add-result : goal.overflow_add-result
overflow_add-result c =
    let few = c.requires.few in
    let lines = c.deref.result.now in
    let at = group_at c.args.groups.now c.loop-number.number c.index-groups-number.result lines c.loop-number-test.true c.index-groups-number.is c.deref.ensures.value in
    let step = stepped c.args.spec.now c.args.session.now.1 c.loop-number.session.1 (map shown lines) c.loop-number.session.2 c.edit_group.new.session.2 c.in_ok-edit_group.field-0
    (steps.Unwritable c.in-Unwritable.place) c.loop-number.invariant.layout_is c.in-Unwritable.is c.in_ok-edit_group.ensures.step in
    let within = place_within c.args.spec.now c.args.session.now.1 (shown_groups c.args.groups.now) c.args.session.now.2 c.loop-number.number c.loop-number.line c.loop-number.session.2 c.loop-number.invariant.made (map shown lines) at c.edit_group.new.session.2 c.in-Unwritable.place step in
    omega (arith, few, within)

pub returns-in-Unwritable-clause-outcome : goal.returns-in-Unwritable-clause-outcome
returns-in-Unwritable-clause-outcome c =
    let lines = c.deref.result.now in
    let at = group_at c.args.groups.now c.loop-number.number c.index-groups-number.result lines c.loop-number-test.true c.index-groups-number.is c.deref.ensures.value in
    unwritable_here c.args.spec.now c.args.session.now.1 (shown_groups c.args.groups.now) c.args.session.now.2 c.loop-number.number c.loop-number.line c.loop-number.session.2 c.loop-number.invariant.made (map shown lines) at
    c.edit_group.new.session.2 c.in-Unwritable.place
    (stepped c.args.spec.now c.args.session.now.1 c.loop-number.session.1 (map shown lines) c.loop-number.session.2 c.edit_group.new.session.2 c.in_ok-edit_group.field-0
    (steps.Unwritable c.in-Unwritable.place) c.loop-number.invariant.layout_is c.in-Unwritable.is c.in_ok-edit_group.ensures.step)

pub returns-in-Broken-clause-outcome : goal.returns-in-Broken-clause-outcome
returns-in-Broken-clause-outcome c =
    let lines = c.deref.result.now in
    let at = group_at c.args.groups.now c.loop-number.number c.index-groups-number.result lines c.loop-number-test.true c.index-groups-number.is c.deref.ensures.value in
    broken_here c.args.spec.now c.args.session.now.1 (shown_groups c.args.groups.now) c.args.session.now.2 c.loop-number.number c.loop-number.line c.loop-number.session.2 c.loop-number.invariant.made (map shown lines) at
    c.edit_group.new.session.2 c.in-Broken.constraint c.in-Broken.binding
    (stepped c.args.spec.now c.args.session.now.1 c.loop-number.session.1 (map shown lines) c.loop-number.session.2 c.edit_group.new.session.2 c.in_ok-edit_group.field-0
    (steps.Broken c.in-Broken.constraint c.in-Broken.binding) c.loop-number.invariant.layout_is c.in-Broken.is c.in_ok-edit_group.ensures.step)

pub loop-number-preserved : goal.loop-number-preserved
loop-number-preserved c =
    let spec = c.args.spec.now in
    let layout = c.args.session.now.1 in
    let groups = shown_groups c.args.groups.now in
    let old = c.args.session.now.2 in
    let lines = c.deref.result.now in
    let number = c.loop-number.number in
    let line = c.loop-number.line in
    let now = c.loop-number.session.2 in
    let new = c.edit_group.new.session.2 in
    let at = group_at c.args.groups.now number c.index-groups-number.result lines c.loop-number-test.true c.index-groups-number.is c.deref.ensures.value in
    let long = group_long lines c.len.result (let count = c.len.ensures in let whole = c.deref.ensures.len in omega (arith, count, whole)) in
    let step = stepped spec layout c.loop-number.session.1 (map shown lines) now new c.in_ok-edit_group.field-0 steps.Made c.loop-number.invariant.layout_is c.in-Made.is c.in_ok-edit_group.ensures.step in
    record {
      spec_is = c.edit_group.ensures.spec ∙ c.loop-number.invariant.spec_is;
      layout_is = c.edit_group.ensures.layout ∙ c.loop-number.invariant.layout_is;
      made = subst (λ n. AreMadeTo spec layout groups (number + 1) (line + (n + 1)) old new) (sym long)
          (one_made spec layout groups old number line now c.loop-number.invariant.made (map shown lines) at new step);
    }
