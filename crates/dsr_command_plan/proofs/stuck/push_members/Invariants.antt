use Rattle.std.proofs.Common.{◌≡◌, ◌++◌, take}
use Rattle.std.specs.List.{flat_map}
use Rattle.dsr_command_plan.specs.StuckTexts as said
use Rattle.dsr_command_plan.proofs.stuck.push_members.Given as goal

abbrev pub invariant-loop-member : goal.invariant-loop-member
invariant-loop-member l =
    l.text.items ≡ l.initial.text.items ++ flat_map (said.member_lines l.spec) (take l.member-index l.members)
