use Rattle.std.proofs.Common.{◌≡◌, drop}
use Rattle.dsr_lint.specs.Uses.{is_premise}
use Rattle.dsr_lint.proofs.uses.is_premise.Given as goal

-- those that are left tell the same
abbrev pub invariant-loop-rule : goal.invariant-loop-rule
invariant-loop-rule l = is_premise (drop l.rule-index l.rule-items) l.set ≡ is_premise l.spec.rules l.set
