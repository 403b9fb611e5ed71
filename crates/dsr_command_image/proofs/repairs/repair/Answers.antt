use Rattle.std.proofs.Common.{subst, sym}
use Rattle.dsr_meaning.specs.Typed.{IsTyped}
use Rattle.dsr_command_image.proofs.Ended.{image_of, mended_told, stopped_told, unlaid_told}
use Rattle.dsr_step_theory.specs.Images.{IsImageOf}
use Rattle.dsr_command_image.proofs.repairs.repair.Goals as goal

pub laid_out-requires-clause-typed : goal.laid_out-requires-clause-typed
laid_out-requires-clause-typed c = subst IsTyped (sym c.spec-spec.ensures.is) c.requires.typed

pub repair_whole-requires : goal.repair_whole-requires
repair_whole-requires c = record {
  image = subst (IsImageOf c.args.plan.now.0 c.in-Ok.layout) (sym c.new.ensures)
      (image_of c.args.plan.now.0 c.args.plan.now.1 c.args.image.items c.spec-spec.result.now c.deref.result.now c.in-Ok.layout
      c.spec-spec.ensures.is c.deref.ensures.value c.in-Ok.ensures.image);
}

pub returns-in-Err : goal.returns-in-Err
returns-in-Err c =
    unlaid_told c.args.plan.now.0 c.args.plan.now.1 c.args.image.items c.spec-spec.result.now c.deref.result.now
    c.in-Err.fault c.in_ok-layout_refused-in-Err.field-0 c.spec-spec.ensures.is c.deref.ensures.value
    c.in-Err.ensures.refused c.in_ok-layout_refused-in-Err.ensures.told
    c.in_ok-layout_refused-in-Err.ensures.known

pub returns-in-Consistent : goal.returns-in-Consistent
returns-in-Consistent c =
    let run = c.in_ok-run.run' in
    let told = c.in_ok-run.ensures.run in
    mended_told c.args.plan.now.0 c.args.plan.now.1 c.args.image.items c.spec-spec.result.now c.in-Ok.layout
    c.deref.result.now c.new.result run.image c.into_bytes.result.items told.entries run.outcome run.text.items run.count
    c.in_ok-told-in-Consistent.told c.spec-spec.ensures.is c.deref.ensures.value c.new.ensures
    c.into_bytes.ensures c.in-Ok.ensures.image told.is c.in-Consistent.is told.told told.counted
    c.in_ok-told-in-Consistent.ensures

pub returns : goal.returns
returns c =
    let run = c.in_ok-run.run' in
    let told = c.in_ok-run.ensures.run in
    stopped_told c.args.plan.now.0 c.args.plan.now.1 c.args.image.items c.spec-spec.result.now c.in-Ok.layout
    c.deref.result.now c.new.result run.image told.entries run.outcome c.in-Empty.need run.text.items run.count
    c.in_ok-need_told-in-Empty.field-0 c.spec-spec.ensures.is c.deref.ensures.value c.new.ensures
    c.in-Ok.ensures.image told.is c.in-Empty.is told.told told.counted c.in_ok-need_told-in-Empty.ensures
