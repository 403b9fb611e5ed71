-- The row of a declared symbol: there is one, and it is no other symbol's; what a typed specification names is declared.
use Rattle.std.proofs.Common.{◌≡◌, ◌<◌, ◌+◌, ℕ, None, Some, refl, sym, ap, subst, arith}
use Rattle.std.specs.Prelude.{slice_get, IsSomeAnd, IfSome, option_and_then}
use Rattle.dsr_effect.specs.Table.{row_number, symbol_count}
use Rattle.dsr_ir.specs.Rules.{symbol_of}
use Rattle.dsr_ir.specs.declared.declarations.Spec.{Spec}
use Rattle.dsr_ir.specs.declared.declarations.Structures.{Structures}
use Rattle.dsr_ir.specs.declared.rules.Inc.{Inc}
use Rattle.dsr_ir.specs.declared.rules.Inc.TheVariants.{Own, Target, Slot, OwnPair, SlotPair}
use Rattle.dsr_ir.specs.declared.rules.Rule.{Rule}
use Rattle.dsr_ir.specs.declared.updates.Symbol.{Symbol}
use Rattle.dsr_ir.specs.declared.updates.Symbol.TheVariants.{Set, Rel}
use Rattle.dsr_meaning.specs.Counting.{IsIn}
use Rattle.dsr_meaning.specs.Models.{base_of}
use Rattle.dsr_meaning.specs.Typed.{IsPlainSetOf, IsTyped, IsTypedInc, IsTypedRule, IsTypedSet}
use Rattle.dsr_meaning.proofs.Firing.{found_fits}
use Rattle.dsr_update_theory.specs.Effects.{IsDeclared}
use Rattle.dsr_update_theory.specs.declared.effects.Direction.{Direction}
use Rattle.dsr_update_theory.specs.declared.effects.Direction.TheVariants.{Gain, Loss}
use Rattle.dsr_meaning.proofs.Items.{of_all}
use Rattle.dsr_facts.proofs.Givers.{within}

pub row_below : (base : Structures) (direction : Direction) (symbol : Symbol) → IsDeclared base symbol → row_number base direction symbol < symbol_count base + symbol_count base
row_below base Gain (Set set) lt = omega (arith, lt)
row_below base Gain (Rel rel) lt = omega (arith, lt)
row_below base Loss (Set set) lt = omega (arith, lt)
row_below base Loss (Rel rel) lt = omega (arith, lt)

-- a direction and a symbol are these
pub record AreSame (direction of_direction : Direction) (symbol of_symbol : Symbol) : Type 0 where
  pub direction_is : direction ≡ of_direction
  pub symbol_is : symbol ≡ of_symbol

module _ (base : Structures) where
  pub row_once : (w v : Direction) (s t : Symbol) → IsDeclared base s → IsDeclared base t → row_number base w s ≡ row_number base v t → AreSame w v s t
  row_once Gain Gain (Set i) (Set j) p q e = record { direction_is = refl; symbol_is = ap Set e }
  row_once Gain Gain (Set i) (Rel j) p q e = absurd (omega (arith, p, e))
  row_once Gain Gain (Rel i) (Set j) p q e = absurd (omega (arith, q, e))
  row_once Gain Gain (Rel i) (Rel j) p q e = let same : i ≡ j = omega (arith, e) in record { direction_is = refl; symbol_is = ap Rel same }
  row_once Loss Loss (Set i) (Set j) p q e = let same : i ≡ j = omega (arith, e) in record { direction_is = refl; symbol_is = ap Set same }
  row_once Loss Loss (Set i) (Rel j) p q e = absurd (omega (arith, p, e))
  row_once Loss Loss (Rel i) (Set j) p q e = absurd (omega (arith, q, e))
  row_once Loss Loss (Rel i) (Rel j) p q e = let same : i ≡ j = omega (arith, e) in record { direction_is = refl; symbol_is = ap Rel same }
  row_once Gain Loss (Set i) (Set j) p q e = absurd (omega (arith, p, e))
  row_once Gain Loss (Set i) (Rel j) p q e = absurd (omega (arith, p, e))
  row_once Gain Loss (Rel i) (Set j) p q e = absurd (omega (arith, p, e))
  row_once Gain Loss (Rel i) (Rel j) p q e = absurd (omega (arith, p, e))
  row_once Loss Gain (Set i) (Set j) p q e = absurd (omega (arith, q, e))
  row_once Loss Gain (Set i) (Rel j) p q e = absurd (omega (arith, q, e))
  row_once Loss Gain (Rel i) (Set j) p q e = absurd (omega (arith, q, e))
  row_once Loss Gain (Rel i) (Rel j) p q e = absurd (omega (arith, q, e))

inc_declared : (base : Structures) (rule : Rule) (inc : Inc) → IsTypedInc base rule inc → IsDeclared base (symbol_of inc)
inc_declared base rule (Own set) t = within _ base.sets set t
inc_declared base rule (Target set path) t = within _ base.sets set t.1
inc_declared base rule (Slot set pool) t = within _ base.sets set t.0
inc_declared base rule (OwnPair rel path) t = within _ base.rels rel t.relates
inc_declared base rule (SlotPair rel pool path) t = within _ base.rels rel t.1.relates

module _ (spec : Spec) (typed : IsTyped spec) where
  rule_typed : (rule : Rule) → IsIn rule spec.rules → IsTypedRule spec.base rule
  rule_typed rule among = of_all (IsTypedRule spec.base) spec.rules rule typed.rules among

  -- what a rule gives
  pub given_declared : (rule : Rule) → IsIn rule spec.rules → IsDeclared spec.base (symbol_of rule.inc)
  given_declared rule among = inc_declared spec.base rule rule.inc (rule_typed rule among).inc

  -- a rule's premise
  pub premise_declared : (rule : Rule) (premise : ℕ) → IsIn rule spec.rules → rule.premise ≡ Some premise → IsDeclared spec.base (Set premise)
  premise_declared rule premise among is =
      within (λ s. s.except ≡ None) spec.base.sets premise
      (subst (λ o. IfSome o (λ n. IsSomeAnd (slice_get spec.base.sets n) (λ s. s.except ≡ None))) is (rule_typed rule among).premise)

  -- a complement and its base
  pub complement_declared : (set base : ℕ) → base_of spec set ≡ Some base → IsDeclared spec.base (Set set) × IsDeclared spec.base (Set base)
  complement_declared set base is =
      elim (slice_get spec.base.sets set) as (λ o. slice_get spec.base.sets set ≡ o → option_and_then (λ d. d.except) o ≡ Some base → IsDeclared spec.base (Set set) × IsDeclared spec.base (Set base)) [
        | None ↦ λ at e. absurd cc
        | Some d ↦ λ at e. (
          within (λ s. s ≡ d) spec.base.sets set (subst (λ o. IsSomeAnd o (λ s. s ≡ d)) (sym at) refl),
          within _ spec.base.sets base (subst (λ o. IfSome o (IsPlainSetOf spec.base d.pool)) e (found_fits (IsTypedSet spec.base) spec.base.sets set d typed.base.sets at).except),
        )
      ] refl is
