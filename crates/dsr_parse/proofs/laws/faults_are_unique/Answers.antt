use Rattle.dsr_parse.proofs.Told.{one_fault, no_fault}
use Rattle.dsr_parse.proofs.laws.faults_are_unique.Goals as goal

pub returns-clause-once : goal.returns-clause-once
returns-clause-once c = one_fault

pub returns-clause-no_tree : goal.returns-clause-no_tree
returns-clause-no_tree c = λ text f tree has is. no_fault text f (record { lexemes = is.lexemes; lexed = is.lexed; sentence = is.sentence }) has
