-- The literal that is due of a violated constraint.
use Rattle.std.proofs.Common.{arith}
use Rattle.std.proofs.lemmas.Grind.{elements}
use Rattle.dsr_repair.proofs.Here.{due_here, few_literals, none_holds}
use Rattle.dsr_repair.proofs.Passing.{all_due, some_false, some_passes}
use Rattle.dsr_repair.specs.Violations.{bound_of}
use Rattle.dsr_model.specs.Facts.{IsInModel}
use Rattle.dsr_repair.proofs.dues.due_at.Goals as goal

pub unreachable-requires-in_default-first_passing : goal.unreachable-requires-in_default-first_passing
unreachable-requires-in_default-first_passing c =
    some_passes (IsInModel c.args.model.now) c.args.violation.binding c.requires.decided c.args.spec.now c.args.choice.now
    c.requires.plan c.args.violation.constraint c.in-Some.constraint.now c.in-Some-row_at.row.now
    (record { constraint_is = c.in-Some.ensures; row_is = c.in-Some-row_at.ensures })
    c.in_default-first_passing.ensures

pub first_false-requires-clause-few : goal.first_false-requires-clause-few
first_false-requires-clause-few c =
    few_literals (IsInModel c.args.model.now) c.args.spec.now c.args.choice.now (bound_of c.args.violation) c.in-Some.constraint.now
    c.in-Some.ensures c.requires.typed c.in-Some-first_passing.conj c.in-Some-first_passing.its.now
    c.in-Some-first_passing.ensures.conj_is

pub first_false-requires-clause-some : goal.first_false-requires-clause-some
first_false-requires-clause-some c none =
    some_false (IsInModel c.args.model.now) c.args.violation.binding c.requires.decided c.args.spec.now c.args.choice.now
    c.requires.plan c.args.violation.constraint c.in-Some.constraint.now c.in-Some-row_at.row.now
    (record { constraint_is = c.in-Some.ensures; row_is = c.in-Some-row_at.ensures })
    c.in-Some-first_passing.its.now c.in-Some-first_passing.conj c.in-Some-first_passing.ways.now
    (none_holds (IsInModel c.args.model.now) c.args.spec.now c.args.choice.now (bound_of c.args.violation) c.in-Some.constraint.now
    c.in-Some.ensures c.requires.next.is.violated)
    c.in-Some-first_passing.ensures none

pub returns : goal.returns
returns c =
    all_due (IsInModel c.args.model.now) c.args.spec.now c.args.choice.now (bound_of c.args.violation)
    c.in-Some.constraint.now c.in-Some-row_at.row.now c.in-Some-first_passing.conj c.in-Some-first_passing.its.now
    c.in-Some-first_passing.ways.now c.first_false.result.place c.first_false.result.literal.now
    c.first_false.result.template.now
    (due_here (IsInModel c.args.model.now) c.args.spec.now c.args.choice.now (bound_of c.args.violation) c.in-Some.constraint.now
    c.in-Some.ensures c.requires.next.constraint c.requires.next.row c.in-Some-row_at.row.now c.requires.next.is c.in-Some-row_at.ensures)
    c.in-Some-first_passing.ensures c.first_false.ensures

pub first_passing-requires-clause-few : goal.first_passing-requires-clause-few
first_passing-requires-clause-few c = grind (arith, elements)
