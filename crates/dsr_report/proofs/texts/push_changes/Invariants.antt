use Rattle.std.proofs.Common.{◌≡◌, ◌++◌, take}
use Rattle.std.specs.List.{flat_map}
use Rattle.dsr_report.specs.Reports.{byte_line}
use Rattle.dsr_report.proofs.texts.push_changes.Given as goal

abbrev pub invariant-loop-change : goal.invariant-loop-change
invariant-loop-change l =
    l.text.items ≡ l.initial.text.items ++ flat_map byte_line (take l.change-index l.changes)
