use Rattle.std.proofs.Common.{◌≡◌, ◌<◌, ◌↔◌, ℕ, IsTrue, Some, false, get_or, length, slice_get}
use Rattle.dsr_effect.specs.Contexts.{change_in}
use Rattle.dsr_effect.specs.Told.{ChangesAtW}
use Rattle.dsr_ir.specs.declared.rules.Rule.{Rule}
use Rattle.dsr_update_theory.specs.declared.effects.Direction.TheVariants.{Gain}
use Rattle.dsr_effect.proofs.context.Context.gaining_rules.Given as goal

-- the rules so far are marked as they are
abbrev pub invariant-loop-number : goal.invariant-loop-number
invariant-loop-number l =
    (length l.gaining ≡ 128)
    × ((number : ℕ) (rule : Rule) → number < l.number → slice_get l.fn.self.spec.now.rules number ≡ Some rule
    → IsTrue (get_or l.gaining number false) ↔ ChangesAtW (change_in l.fn.self l.fn.goal l.fn.update) rule Gain)
