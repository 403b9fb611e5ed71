-- The rounds so far are told, and the repair may go on. The measure is what the bound leaves.
use Rattle.std.proofs.Common.{◌-◌, length}
use Rattle.dsr_bound_laws.specs.Bounds.{bound}
use Rattle.dsr_command_image.specs.Runs.{AreTold}
use Rattle.dsr_repair.specs.Rounds.{IsUnderWay}
use Rattle.dsr_command_image.proofs.runs.repair_whole.Given as goal

abbrev pub invariant-rounds : goal.invariant-rounds
invariant-rounds l = record {
  told : AreTold l.plan.0 l.plan.1 l.layout l.fn.image l.fixed l.text.items l.count;
  under_way : IsUnderWay l.plan.0 l.plan.1 l.layout l.fixed l.repair;
}

abbrev pub decreases-rounds : goal.decreases-rounds
decreases-rounds l = bound l.plan.0 (length l.fn.image) - l.count
