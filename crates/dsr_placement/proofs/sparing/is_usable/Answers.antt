use Rattle.std.proofs.Common.{sym, ◌∙◌}
use Rattle.std.proofs.lemmas.Bool.{false≢true}
use Rattle.dsr_placement.proofs.Once.{falsifies_is, falsifies_none}
use Rattle.dsr_placement.proofs.sparing.is_usable.Goals as goal

pub returns-then-is_some : goal.returns-then-is_some
returns-then-is_some c = λ owner template way many. (
  λ no. absurd (false≢true no),
  λ usable. absurd (falsifies_none owner c.args.at.conj c.args.at.literal template c.falsifies.result (c.falsifies.ensures.falsifies owner template way) (sym c.is_some.ensures ∙ c.if-is_some.true) usable.falsifies_none),
)

pub returns : goal.returns
returns c = λ owner template way many. (
  λ t. record {
    falsifies_none = falsifies_is owner c.args.at.conj c.args.at.literal template c.falsifies.result (c.falsifies.ensures.falsifies owner template way) (sym c.is_some.ensures ∙ c.if-is_some.false);
    spares = (c.spares.ensures owner template way many).0 t;
  },
  λ usable. (c.spares.ensures owner template way many).1 usable.spares,
)
