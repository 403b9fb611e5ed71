use Rattle.dsr_command_plan.proofs.Ranges.{piece_put}
use Rattle.dsr_command_plan.specs.Levels as said
use Rattle.dsr_command_plan.proofs.levels.push_levels.Goals as goal

pub loop-level-preserved : goal.loop-level-preserved
loop-level-preserved c =
    piece_put (said.level_line c.args.spec.now c.args.rows.now) c.loop-level.level c.args.text.now.items
    c.loop-level.text.items c.push_level.new.text.items c.loop-level.invariant c.in_ok-push_level.ensures
