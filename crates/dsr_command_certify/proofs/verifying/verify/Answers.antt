use Rattle.dsr_command_certify.proofs.Answered.{told_flawed, told_valid, told_wrong}
use Rattle.dsr_command_certify.proofs.verifying.verify.Goals as goal

pub returns-in-Err : goal.returns-in-Err
returns-in-Err c =
    told_wrong c.args.spec.now c.args.text.now c.fault_told.result c.in-Err.fault c.in-Err.ensures.fault c.fault_told.ensures.told c.fault_told.ensures.known

pub returns-in-Ok-verify : goal.returns-in-Ok-verify
returns-in-Ok-verify c =
    told_valid c.args.spec.now c.args.text.now c.told.result (record {
      right = c.in-Ok.ensures.right;
      choice = c.in-Ok.choice;
      read = c.in-Ok.ensures.choice;
      plan = c.in-Ok-verify.ensures.is_plan;
    }) c.told.ensures

pub returns : goal.returns
returns c =
    told_flawed c.args.spec.now c.args.text.now c.fault_told-in-Err-verify.result c.in-Ok.choice c.in-Err-verify.fault
    (record { read = c.in-Ok.ensures.choice; only = c.in-Ok.ensures.only }) c.in-Err-verify.ensures.flaw
    c.fault_told-in-Err-verify.ensures.told c.fault_told-in-Err-verify.ensures.known
