use Rattle.std.proofs.Common.{◌≤◌}
use Rattle.dsr_layout.specs.Kinds.{kind_of}
use Rattle.dsr_meaning.specs.Counting.{IsIn}
use Rattle.dsr_meaning.specs.Refusals.{Refusal, refusals, first_of}
use Rattle.dsr_layout.proofs.InOrder.{least_kind}
use Rattle.dsr_layout.proofs.Items.{if_some}
use Rattle.dsr_layout.proofs.laws.least_kinds_are_told.Goals as goal

pub returns : goal.returns
returns c spec bytes =
    if_some (λ r. (s : Refusal) → IsIn s (refusals spec bytes) → kind_of r ≤ kind_of s) (first_of (refusals spec bytes)) (λ r first s within.
    least_kind spec bytes r s first within)
