use Rattle.std.proofs.Common.{◌∙◌, false, refl, inl, sym, arith}
use Rattle.std.proofs.lemmas.Grind.{common_steps}
use Rattle.std.proofs.lemmas.Bool.{false≢true}
use Rattle.dsr_update_theory.specs.Touching.{IsSureAtF}
use Rattle.dsr_effect.specs.Told.{change_of}
use Rattle.dsr_effect.proofs.Guards.{each_more, some_found}
use Rattle.dsr_effect.proofs.changes.Change.is_blocked_at_f.Goals as goal

pub returns-then-is_sure_at_f : goal.returns-then-is_sure_at_f
returns-then-is_sure_at_f c = (
  λ _. inl (some_found (IsSureAtF (change_of c.args.self.now) false) _ c.loop-guard.guard-index _ c.loop-guard-test.true _ c.items-guard-items.ensures
      (c.is_sure_at_f.ensures.0 c.if-is_sure_at_f.true)),
  λ _. refl,
)

pub loop-guard-preserved : goal.loop-guard-preserved
loop-guard-preserved c =
    each_more (λ guard. IsSureAtF (change_of c.args.self.now) false guard → ⊥) _ c.loop-guard.guard-index _ c.loop-guard-test.true
    (λ sure. false≢true (sym c.if-is_sure_at_f.false ∙ c.is_sure_at_f.ensures.1 sure)) c.loop-guard.invariant

pub returns-in-Some : goal.returns-in-Some
returns-in-Some c = grind (arith, common_steps)

pub returns-in-None : goal.returns-in-None
returns-in-None c = grind (arith, common_steps)
