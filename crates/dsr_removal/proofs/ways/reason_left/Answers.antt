use Rattle.std.proofs.Common.{sym, ◌∙◌}
use Rattle.std.proofs.lemmas.Bool.{false≢true}
use Rattle.dsr_placement.specs.Placing.{IsLeft}
use Rattle.dsr_removal.proofs.Breaking.{reason_if}
use Rattle.dsr_removal.proofs.ways.reason_left.Goals as goal

pub returns-then-not-is_left : goal.returns-then-not-is_left
returns-then-not-is_left c = λ owner template its way here breaks. false≢true (sym c.if-not-is_left.true ∙ (c.is_left.ensures ∙ breaks.member))

pub returns : goal.returns
returns c = λ owner template its way here.
    reason_if owner (IsLeft c.args.left.now) template c.args.other its c.breaks.result (sym c.is_left.ensures ∙ c.if-not-is_left.false) (c.breaks.ensures.breaks owner template its way here)
