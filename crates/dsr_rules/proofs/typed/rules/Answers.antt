use Rattle.std.proofs.Common.{◌≡◌, [], IfOk, IfErr, subst}
use Rattle.dsr_names.specs.FaultsTold.{Tells}
use Rattle.dsr_language_theory.specs.RuleFaults.{rules_faults}
use Rattle.dsr_language_theory.specs.TypedRules.{typed_rules}
use Rattle.dsr_rules.proofs.typed.rules.Goals as goal

pub returns : goal.returns
returns c =
    let rules = c.args.tree.now.rules in
    record {
      no_fault = subst (λ known. IfOk c.rules_among.result (λ _. rules_faults known rules ≡ [])) c.in_ok-tables.ensures c.rules_among.ensures.no_fault;
      rules = subst (λ known. IfOk c.rules_among.result (λ rs. rs.items ≡ typed_rules known rules)) c.in_ok-tables.ensures c.rules_among.ensures.rules;
      fault = subst (λ known. IfErr c.rules_among.result (Tells (rules_faults known rules))) c.in_ok-tables.ensures c.rules_among.ensures.fault;
    }
