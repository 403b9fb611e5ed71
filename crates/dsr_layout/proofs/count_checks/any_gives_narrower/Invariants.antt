use Rattle.std.proofs.Common.{◌≡◌, drop}
use Rattle.dsr_meaning.specs.Lists.{any_of}
use Rattle.dsr_meaning.specs.Refusals.{gives_narrower}
use Rattle.dsr_layout.proofs.count_checks.any_gives_narrower.Given as goal

abbrev pub invariant-loop-rule : goal.invariant-loop-rule
invariant-loop-rule l = any_of (gives_narrower l.layout l.rel l.value) (drop l.rule-index l.rules) ≡ any_of (gives_narrower l.layout l.rel l.value) l.rules
