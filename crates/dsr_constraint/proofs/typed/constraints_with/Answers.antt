use Rattle.std.proofs.lemmas.Result.{err_from_is_err_and}
use Rattle.dsr_constraint.specs.Scoped.{faults_of_all}
use Rattle.dsr_constraint.proofs.typed.constraints_with.Goals as goal

pub returns-in_err-typed-clause-fault : goal.returns-in_err-typed-clause-fault
returns-in_err-typed-clause-fault c = let p = err_from_is_err_and c.from_residual.result c.from_residual.ensures.1 in rw (p.1, p.2) tt

pub returns-in-Some-clause-fault : goal.returns-in-Some-clause-fault
returns-in-Some-clause-fault c = c.in-Some.ensures.told (faults_of_all c.args.known.now c.args.constants.now.rules.now c.args.items.now) c.in_ok-typed.ensures.found
