use Rattle.std.proofs.Common.{◌-◌, drop, length, take}
use Rattle.dsr_repair.proofs.Placed.{from_place}
use Rattle.dsr_model.specs.Facts.{IsInModel}
use Rattle.dsr_truth.proofs.Satisfying.{rest_behind}
use Rattle.dsr_repair.proofs.cursors.first_at.Goals as goal

pub returns : goal.returns
returns c =
    let order = c.args.order.now in
    let at = c.args.at in
    from_place (IsInModel c.args.model.now) c.args.spec.now order at c.args.binding.now c.requires.before
    (take (length order - at) (drop at order)) (rest_behind order at) c.first_violated.result c.first_violated.ensures
