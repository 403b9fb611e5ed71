-- The rounds so far. The measure is what the bound leaves beside the steps that were made.
use Rattle.std.proofs.Common.{◌-◌, length}
use Rattle.dsr_bound_laws.specs.Bounds.{bound}
use Rattle.dsr_repair.specs.Rounds.{IsUnderWay}
use Rattle.dsr_repair_theory.specs.Runs.{IsPartRun}
use Rattle.dsr_repair.proofs.repairs.make_rounds.Given as goal

abbrev pub invariant-rounds : goal.invariant-rounds
invariant-rounds g l = record {
  steps : IsPartRun l.plan.0 l.plan.1 l.layout (g.I.ImageBytes.bytes l.fn.image) l.log.entries (g.I.ImageBytes.bytes l.image);
  under_way : IsUnderWay l.plan.0 l.plan.1 l.layout (g.I.ImageBytes.bytes l.image) l.repair;
}

abbrev pub decreases-rounds : goal.decreases-rounds
decreases-rounds g l = bound l.plan.0 (length (g.I.ImageBytes.bytes l.fn.image)) - length l.log.entries
