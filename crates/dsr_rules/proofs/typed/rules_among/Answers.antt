use Rattle.dsr_names.specs.Tables.{known_of}
use Rattle.dsr_language_theory.specs.RuleFaults.{rules_faults}
use Rattle.dsr_names.proofs.Finding.{finds_same}
use Rattle.dsr_rules.proofs.typed.rules_among.Goals as goal

pub returns-in-Some-clause-fault : goal.returns-in-Some-clause-fault
returns-in-Some-clause-fault c =
    let known = known_of c.args.known.now in
    c.in-Some.ensures.told (rules_faults known c.args.tree.now.rules) (finds_same (λ i. rules_faults known (c.items-rules.ensures i)) c.check_rules.ensures)
