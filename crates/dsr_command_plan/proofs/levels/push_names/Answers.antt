use Rattle.dsr_command_plan.proofs.Ranges.{piece_put}
use Rattle.dsr_command_plan.specs.Levels as said
use Rattle.dsr_command_plan.proofs.levels.push_names.Goals as goal

pub loop-number-preserved : goal.loop-number-preserved
loop-number-preserved c =
    piece_put (said.name_on c.args.spec.now c.args.rows.now c.args.level) c.loop-number.number c.args.text.now.items
    c.loop-number.text.items c.push_on.new.text.items c.loop-number.invariant c.in_ok-push_on.ensures
