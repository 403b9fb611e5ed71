use Rattle.std.proofs.lemmas.Result.{err_from_is_err_and}
use Rattle.dsr_struct.proofs.typed.typed_with.Goals as goal

pub returns-in_err-head-clause-fault : goal.returns-in_err-head-clause-fault
returns-in_err-head-clause-fault c = let p = err_from_is_err_and c.from_residual.result c.from_residual.ensures.1 in rw (p.1, p.2) tt
