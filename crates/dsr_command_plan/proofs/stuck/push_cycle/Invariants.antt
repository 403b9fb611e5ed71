use Rattle.std.proofs.Common.{◌≡◌, ◌++◌, take}
use Rattle.std.specs.List.{flat_map}
use Rattle.dsr_command_plan.specs.StuckTexts as said
use Rattle.dsr_command_plan.proofs.stuck.push_cycle.Given as goal

abbrev pub invariant-loop-number : goal.invariant-loop-number
invariant-loop-number l =
    l.text.items ≡ l.initial.text.items ++ flat_map (said.named said.space l.spec) (take l.number-index l.numbers)
