use Rattle.dsr_affected_laws.proofs.Violated.{first_of_all, listed_violated, still_consistent}
use Rattle.dsr_affected_laws.proofs.testing_what_is_affected_is_enough.Goals as goal

pub returns-clause-violated : goal.returns-clause-violated
returns-clause-violated c = λ spec layout fields old new order v alike. listed_violated spec layout fields old new alike order v

pub returns-clause-consistent : goal.returns-clause-consistent
returns-clause-consistent c = λ spec layout fields old new order alike. still_consistent spec layout fields old new alike order

pub returns-clause-first : goal.returns-clause-first
returns-clause-first c = λ spec layout fields old new order v w alike. first_of_all spec layout fields old new alike order v w
