use Rattle.std.proofs.Common.{◌≡◌, drop}
use Rattle.dsr_lint.specs.Uses.{is_given}
use Rattle.dsr_lint.proofs.uses.is_given.Given as goal

-- those that are left tell the same
abbrev pub invariant-loop-rule : goal.invariant-loop-rule
invariant-loop-rule l = is_given (drop l.rule-index l.rule-items) l.symbol ≡ is_given l.spec.rules l.symbol
