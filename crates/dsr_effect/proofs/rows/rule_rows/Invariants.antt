-- What the loop of `rule_rows` keeps.
use Rattle.std.proofs.Common.{◌≡◌, ◌+◌, length, take}
use Rattle.dsr_effect.specs.Table.{AreRuleFlows, symbol_count}
use Rattle.dsr_effect.specs.Told.{change_of}
use Rattle.dsr_effect.proofs.ChangedRows.{AreChanged}
use Rattle.dsr_effect.proofs.rows.rule_rows.Given as goal

abbrev pub invariant-loop-rule : goal.invariant-loop-rule
invariant-loop-rule l =
    (length l.rows.items ≡ symbol_count l.change.spec.now.base + symbol_count l.change.spec.now.base)
    × AreChanged (change_of l.change) (take l.rule-index l.change.spec.now.rules) l.rows.items
    × AreRuleFlows (change_of l.change) (take l.rule-index l.change.spec.now.rules) l.flows.items
