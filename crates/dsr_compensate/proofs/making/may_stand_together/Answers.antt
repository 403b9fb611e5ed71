use Rattle.std.proofs.Common.{sym, refl, ◌∙◌}
use Rattle.std.proofs.lemmas.Bool.{false≢true}
use Rattle.std.proofs.lemmas.Option.{slice_get-get_or}
use Rattle.dsr_compensate.proofs.Standing.{together_ends, together_joins, together_more}
use Rattle.dsr_compensate.proofs.making.may_stand_together.Goals as goal

pub returns-then-not-may_join : goal.returns-then-not-may_join
returns-then-not-may_join c = (
  λ no. absurd (false≢true no),
  λ together. sym c.if-not-may_join.true ∙ c.may_join.ensures.1 (together_joins c.args.base.now c.args.writes.now c.loop-place.place _ (slice_get-get_or c.args.writes.now c.loop-place.place _ c.loop-place-test.true) together),
)

pub loop-place-preserved : goal.loop-place-preserved
loop-place-preserved c =
    together_more c.args.base.now c.args.writes.now c.loop-place.place _ (slice_get-get_or c.args.writes.now c.loop-place.place _ c.loop-place-test.true) (c.may_join.ensures.0 c.if-not-may_join.false) c.loop-place.invariant

pub returns : goal.returns
returns c = (λ _. together_ends c.args.base.now c.args.writes.now c.loop-place.place c.loop-place-test.false c.loop-place.invariant, λ _. refl)
