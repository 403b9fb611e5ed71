use Rattle.std.proofs.Common.{sym, ◌∙◌}
use Rattle.std.proofs.lemmas.Bool.{false≢true}
use Rattle.dsr_placement.specs.Placing.{IsLeft}
use Rattle.dsr_removal.proofs.Hopeless.{hopeless_if}
use Rattle.dsr_removal.proofs.ends.is_hopeless.Goals as goal

pub returns-then-not-is_left : goal.returns-then-not-is_left
returns-then-not-is_left c = λ owner in_graph many same. (
  λ no_more. absurd (false≢true no_more),
  λ hopeless. absurd (false≢true (sym c.if-not-is_left.true ∙ (c.is_left.ensures ∙ hopeless.member))),
)

pub returns : goal.returns
returns c = λ owner in_graph many same.
    hopeless_if owner.spec c.args.number owner.constraint in_graph.constraint_is (IsLeft c.args.left.now) (IsLeft c.args.nobody.now) c.requires.nobody
    (sym c.is_left.ensures ∙ c.if-not-is_left.false) c.in_ok-may_be_first.field-0 (c.in_ok-may_be_first.ensures owner in_graph many same)
