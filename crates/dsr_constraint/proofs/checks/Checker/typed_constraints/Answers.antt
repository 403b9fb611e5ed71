use Rattle.std.proofs.Common.{arith}
use Rattle.std.proofs.lemmas.Grind.{common_steps}
use Rattle.dsr_constraint.proofs.Pass.{passed_next}
use Rattle.dsr_constraint.proofs.checks.Checker.typed_constraints.Goals as goal

pub loop-number-preserved : goal.loop-number-preserved
loop-number-preserved c = passed_next c.args.constraints.now c.loop-number.number c.index-constraints-number.result c.loop-number-test.true c.index-constraints-number.is c.loop-number.invariant c.in_ok-check_constraint.ensures.found c.in_ok-check_constraint.ensures.typed

pub returns-clause-found : goal.returns-clause-found
returns-clause-found c = grind (arith, common_steps)

pub returns-clause-typed : goal.returns-clause-typed
returns-clause-typed c = grind (arith, common_steps)
