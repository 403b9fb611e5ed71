use Rattle.dsr_example_laws.proofs.ListedExamples.{added_member, added_pair, supplied_pair}
use Rattle.dsr_example_laws.proofs.templates.templates_that_add_are_listed.Goals as goal

pub returns-clause-member : goal.returns-clause-member
returns-clause-member c = added_member

pub returns-clause-pair : goal.returns-clause-pair
returns-clause-pair c = added_pair

pub returns-clause-fresh : goal.returns-clause-fresh
returns-clause-fresh c = supplied_pair
