use Rattle.std.proofs.Common.{◌≡◌, ◌++◌}
use Rattle.std.specs.List.{flat_map, range_with_len}
use Rattle.dsr_command_plan.specs.Levels as said
use Rattle.dsr_command_plan.proofs.levels.push_levels.Given as goal

abbrev pub invariant-loop-level : goal.invariant-loop-level
invariant-loop-level l =
    l.text.items
    ≡ l.initial.text.items ++ flat_map (said.level_line l.spec l.rows) (range_with_len 0 l.level)
