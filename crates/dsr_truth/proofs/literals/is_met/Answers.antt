use Rattle.std.proofs.Common.{◌∙◌, sym}
use Rattle.dsr_model.specs.Facts.{IsInModel}
use Rattle.dsr_truth.proofs.Alone.{only_tells}
use Rattle.dsr_truth.proofs.literals.is_met.Goals as goal

pub returns-in-Some : goal.returns-in-Some
returns-in-Some c =
    only_tells (IsInModel c.args.model.now) c.args.binding.now c.args.constraint.now c.in-Some.alone
    c.literal_holds.result (sym c.requires.only ∙ c.in-Some.is) c.literal_holds.ensures
