use Rattle.std.proofs.Common.{◌≡◌, drop}
use Rattle.std.specs.List.{filter_map}
use Rattle.dsr_compensate.specs.Preventing.{prevents, prevents_rule}
use Rattle.dsr_meaning.specs.Refusals.{first_of}
use Rattle.dsr_compensate.proofs.preventing.prevents_rule.Given as goal

abbrev pub invariant-loop-guard : goal.invariant-loop-guard
invariant-loop-guard l =
    first_of (filter_map (prevents l.spec l.update) (drop l.guard-index l.guard-items)) ≡ prevents_rule l.spec l.update l.rule
