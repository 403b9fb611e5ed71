use Rattle.std.proofs.Common.{◌≡◌, ◌++◌, take}
use Rattle.std.specs.List.{flat_map}
use Rattle.dsr_report.specs.Reports.{set_line}
use Rattle.dsr_report.proofs.texts.push_sets.Given as goal

abbrev pub invariant-loop-set : goal.invariant-loop-set
invariant-loop-set l =
    l.text.items ≡ l.initial.text.items ++ flat_map (set_line l.spec) (take l.set-index l.sets)
