use Rattle.std.proofs.Common.{◌≡◌, ◌↔◌, IsTrue, Some, false, slice_get, slice_index_or, sym, subst}
use Rattle.dsr_effect.specs.Told.{ChangesAtW}
use Rattle.dsr_compensate.proofs.Deciding.{change_same}
use Rattle.dsr_update_theory.specs.declared.effects.Direction.TheVariants.{Gain}
use Rattle.dsr_compensate.proofs.owner.Owner.gaining_rules.Goals as goal

pub returns : goal.returns
returns c = λ number rule there.
    subst (λ change. IsTrue (slice_index_or c.gaining_rules.result number false) ↔ ChangesAtW change rule Gain)
    (change_same c.args.self.now c.requires.sound c.args.goal c.args.update.now)
    (c.gaining_rules.ensures number rule (subst (λ s. slice_get s.rules number ≡ Some rule) (sym c.requires.sound.context_is.spec_is) there))
