use Rattle.std.proofs.lemmas.Option.{slice_get_within}
use Rattle.dsr_repair.proofs.Placed.{none_before}
use Rattle.dsr_repair.specs.Violations.{bound_of}
use Rattle.dsr_model.specs.Facts.{IsInModel}
use Rattle.dsr_repair.proofs.cursors.first_after.Goals as goal

pub first_at-requires-clause-place : goal.first_at-requires-clause-place
first_at-requires-clause-place c = slice_get_within c.args.order.now c.in-Some.at c.args.last.constraint c.in-Some.ensures

pub first_at-requires-clause-before : goal.first_at-requires-clause-before
first_at-requires-clause-before c =
    none_before (IsInModel c.args.model.now) c.args.spec.now c.args._choice.now c.args.order.now c.requires.order
    (bound_of c.args.last) c.requires.before c.in-Some.at c.in-Some.ensures
