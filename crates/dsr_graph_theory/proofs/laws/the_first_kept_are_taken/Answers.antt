use Rattle.dsr_graph_theory.proofs.FirstKept.{are_among, are_few, are_first, are_in_order, are_kept, are_once, are_whole}
use Rattle.dsr_graph_theory.proofs.laws.the_first_kept_are_taken.Goals as goal

pub returns-clause-kept : goal.returns-clause-kept
returns-clause-kept c = λ owner atom n before all listed d. are_kept owner atom d

pub returns-clause-among : goal.returns-clause-among
returns-clause-among c = λ owner atom n before all listed d. are_among owner atom d

pub returns-clause-once : goal.returns-clause-once
returns-clause-once c = λ owner atom n before all listed d. are_once owner atom d

pub returns-clause-few : goal.returns-clause-few
returns-clause-few c = λ owner atom n before all listed d. are_few owner atom d

pub returns-clause-whole : goal.returns-clause-whole
returns-clause-whole c = λ owner atom n before all listed d. are_whole owner atom d

pub returns-clause-in_order : goal.returns-clause-in_order
returns-clause-in_order c = λ owner atom n before all listed d. are_in_order owner atom d

pub returns-clause-first : goal.returns-clause-first
returns-clause-first c = λ owner atom n before all listed d. are_first owner atom d
