-- A repair that is taken back, from what was read of its report.
use Rattle.std.proofs.Common.{◌≡◌, ◌≤◌, ℕ, List, length, sym, subst}
use Rattle.dsr_command_audit.proofs.Answered.{back_told, log_of, stopped_told, unread_told}
use Rattle.dsr_command_audit.proofs.undos.undo.Goals as goal

pub undo-requires : goal.undo-requires
undo-requires c = record { small = subst (λ (bytes : List ℕ). length bytes ≤ 67108864) (sym c.new-image.ensures) c.requires.small }

pub returns-in-Err : goal.returns-in-Err
returns-in-Err c =
    unread_told c.args.spec.now c.args.fixed.items c.args.report.now c.in-Err.fault c.in_ok-misread_told-in-Err.field-0
    c.in-Err.ensures.fault c.in_ok-misread_told-in-Err.ensures

pub returns-in-Ok-undo : goal.returns-in-Ok-undo
returns-in-Ok-undo c =
    let log_is = log_of c.args.spec.now c.args.report.now c.in-Ok.log.entries c.in-Ok.ensures.text c.in-Ok.ensures.formed c.in-Ok.ensures.reported in
    back_told c.args.spec.now c.args.fixed.items c.args.report.now c.in-Ok.log.entries log_is c.new-image.result c.new-image.ensures
    c.undo.new.image c.into_bytes.result.items c.in_ok-told-in-Ok-undo.told c.in-Ok-undo.ensures.back c.into_bytes.ensures c.in_ok-told-in-Ok-undo.ensures

pub returns : goal.returns
returns c =
    let log_is = log_of c.args.spec.now c.args.report.now c.in-Ok.log.entries c.in-Ok.ensures.text c.in-Ok.ensures.formed c.in-Ok.ensures.reported in
    stopped_told c.args.spec.now c.args.fixed.items c.args.report.now c.in-Ok.log.entries log_is c.new-image.result c.new-image.ensures
    c.undo.new.image c.in-Err-undo.fault c.in_ok-undo_fault_told-in-Err-undo.field-0 c.in-Err-undo.ensures.refused c.in_ok-undo_fault_told-in-Err-undo.ensures
