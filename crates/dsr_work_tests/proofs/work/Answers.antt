use Rattle.std.proofs.Common.{subst, sym}
use Rattle.dsr_meaning.specs.Typed.{IsTyped}
use Rattle.dsr_work_tests.proofs.work.Goals as goal

pub laid_out-requires-clause-typed : goal.laid_out-requires-clause-typed
laid_out-requires-clause-typed c = subst IsTyped (sym c.spec.ensures.is) c.requires
