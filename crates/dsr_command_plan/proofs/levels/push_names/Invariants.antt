use Rattle.std.proofs.Common.{◌≡◌, ◌++◌}
use Rattle.std.specs.List.{flat_map, range_with_len}
use Rattle.dsr_command_plan.specs.Levels as said
use Rattle.dsr_command_plan.proofs.levels.push_names.Given as goal

abbrev pub invariant-loop-number : goal.invariant-loop-number
invariant-loop-number l =
    l.text.items
    ≡ l.initial.text.items ++ flat_map (said.name_on l.spec l.rows l.level) (range_with_len 0 l.number)
