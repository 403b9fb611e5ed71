use Rattle.std.proofs.Common.{◌≡◌, map, take}
use Rattle.dsr_names.specs.Tables.{known_of}
use Rattle.dsr_language_theory.specs.TypedRules.{typed_rule}
use Rattle.dsr_rules.proofs.typed_rules.typed_rules.Given as goal

abbrev pub invariant-loop-rule : goal.invariant-loop-rule
invariant-loop-rule l = l.typed.items ≡ map (typed_rule (known_of l.fn.known)) (take l.rule-index l.rules)
