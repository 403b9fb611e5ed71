use Rattle.std.proofs.Common.{true}
use Rattle.std.proofs.lemmas.Bool.{false≢true}
use Rattle.dsr_update_theory.specs.Touching.{IsSureAtF}
use Rattle.dsr_effect.specs.Told.{change_of}
use Rattle.dsr_effect.proofs.Guards.{each_is, each_more}
use Rattle.dsr_effect.proofs.changes.Change.stays_at_f.Goals as goal

pub returns-then-not-is_sure_at_f : goal.returns-then-not-is_sure_at_f
returns-then-not-is_sure_at_f c = (
  λ e. absurd (false≢true e),
  λ stays.
      let sure = c.is_sure_at_f.ensures.1
      (each_is (IsSureAtF (change_of c.args.self.now) true) _ c.loop-guard.guard-index _ c.loop-guard-test.true _ c.items-guard-items.ensures stays.guards) in
      let not_sure = c.if-not-is_sure_at_f.true in
      absurd (cc (sure, not_sure)),
)

pub loop-guard-preserved : goal.loop-guard-preserved
loop-guard-preserved c =
    let sure = c.if-not-is_sure_at_f.false in
    each_more (IsSureAtF (change_of c.args.self.now) true) _ c.loop-guard.guard-index _ c.loop-guard-test.true
    (c.is_sure_at_f.ensures.0 sure) c.loop-guard.invariant
