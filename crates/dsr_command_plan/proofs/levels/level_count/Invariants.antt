use Rattle.std.proofs.Common.{◌≡◌, drop, max}
use Rattle.dsr_command_plan.specs.Levels.{level_count}
use Rattle.dsr_command_plan.proofs.levels.level_count.Given as goal

abbrev pub invariant-loop-row : goal.invariant-loop-row
invariant-loop-row l = max l.count (level_count (drop l.row-index l.row-items)) ≡ level_count l.choice.rows
