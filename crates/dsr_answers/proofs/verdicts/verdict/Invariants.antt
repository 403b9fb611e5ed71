use Rattle.std.proofs.Common.{◌≡◌, map, take}
use Rattle.std.specs.List.{flat_map}
use Rattle.dsr_answers.specs.Texts.{violation_line}
use Rattle.dsr_answers.proofs.verdicts.verdict.Given as goal
use Rattle.dsr_meaning.specs.Consistency.{bound_constraint}

abbrev pub invariant-loop-constraint : goal.invariant-loop-constraint
invariant-loop-constraint l =
    l.text.items
    ≡ flat_map (violation_line l.spec) (map bound_constraint (take l.constraint-index l.violations))
