use Rattle.std.proofs.Common.{◌-◌, length}
use Rattle.dsr_placement.proofs.covering.+covers_from.Given as goal

abbrev pub decreases-covers_from : goal.decreases-covers_from
decreases-covers_from l = length l.truths.now - l.place
