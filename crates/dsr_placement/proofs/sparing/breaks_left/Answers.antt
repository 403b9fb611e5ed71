use Rattle.std.proofs.Common.{◌↔◌, IsTrue, sym, subst, ◌∙◌}
use Rattle.std.proofs.lemmas.Bool.{false≢true}
use Rattle.dsr_placement.proofs.Once.{breaks_if}
use Rattle.dsr_placement.specs.Placing.{BreaksLeft, IsLeft}
use Rattle.dsr_placement.proofs.sparing.breaks_left.Goals as goal

pub returns-then-not-is_left : goal.returns-then-not-is_left
returns-then-not-is_left c = λ owner template its way here. (
  λ no. absurd (false≢true no),
  λ breaks. absurd (false≢true (sym c.if-not-is_left.true ∙ (c.is_left.ensures ∙ breaks.member))),
)

pub returns : goal.returns
returns c = λ owner template its way here.
    subst (λ r. IsTrue r ↔ BreaksLeft owner (IsLeft c.args.left.now) template c.args.other its) (sym c.is_some.ensures)
    (breaks_if owner (IsLeft c.args.left.now) template c.args.other its c.breaks.result (sym c.is_left.ensures ∙ c.if-not-is_left.false) (c.breaks.ensures.breaks owner template its way here))
