use Rattle.dsr_names.specs.Tables.{known_of}
use Rattle.dsr_language_theory.specs.RuleFaults.{rule_faults}
use Rattle.dsr_names.proofs.Finding.{finds_next_of}
use Rattle.dsr_rules.proofs.checks.check_rules.Goals as goal

pub loop-number-preserved : goal.loop-number-preserved
loop-number-preserved c = finds_next_of (rule_faults (known_of c.args.known.now)) c.args.rules.now c.loop-number.number c.index-rules-number.result c.loop-number-test.true c.index-rules-number.is c.loop-number.invariant c.check_rule.ensures
