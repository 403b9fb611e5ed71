use Rattle.std.proofs.Common.{◌≡◌, ◌<◌, ℕ, Some, IsTrue, slice_get}
use Rattle.dsr_affected.specs.Marking.{has_mark, is_reached}
use Rattle.dsr_ir.specs.Rules.{symbol_of}
use Rattle.dsr_ir.specs.declared.rules.Rule.{Rule}
use Rattle.dsr_affected.proofs.symbols.next_reached.Given as goal

-- the symbols of the rules so far that are reached are marked
abbrev pub invariant-loop-rule : goal.invariant-loop-rule
invariant-loop-rule l =
    (k : ℕ) (rule : Rule) → k < l.rule-index → slice_get l.spec.rules k ≡ Some rule
    → IsTrue (is_reached l.spec.base l.fields l.marks rule) → IsTrue (has_mark l.marks (symbol_of rule.inc))
