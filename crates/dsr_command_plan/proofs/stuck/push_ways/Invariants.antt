use Rattle.std.proofs.Common.{◌≡◌, ◌++◌, take}
use Rattle.std.specs.List.{flat_map}
use Rattle.dsr_command_plan.specs.StuckTexts as said
use Rattle.dsr_command_plan.proofs.stuck.push_ways.Given as goal

abbrev pub invariant-loop-way : goal.invariant-loop-way
invariant-loop-way l =
    l.text.items ≡ l.initial.text.items ++ flat_map (said.way_line l.spec) (take l.way-index l.ways)
