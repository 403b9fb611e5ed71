-- What is affected is declared.
use Rattle.std.proofs.Common.{◌≡◌, ◌<◌, ℕ, List, length, None, Some, IsSomeAnd, slice_get, inl, inr, subst}
use Rattle.std.specs.Option.{option_and_then}
use Rattle.std.proofs.lemmas.Option.{slice_get_cases}
use Rattle.dsr_affected_laws.specs.Affected.{IsAffected}
use Rattle.dsr_affected_laws.specs.Affected.IsAffected.{handed_on, read, swapped}
use Rattle.dsr_affected_laws.proofs.Least.{symbols_same}
use Rattle.dsr_ir.specs.Rules.{symbol_of}
use Rattle.dsr_ir.specs.declared.declarations.FieldRef.{FieldRef}
use Rattle.dsr_ir.specs.declared.declarations.SetDecl.{SetDecl}
use Rattle.dsr_ir.specs.declared.declarations.Spec.{Spec}
use Rattle.dsr_ir.specs.declared.declarations.Structures.{Structures}
use Rattle.dsr_ir.specs.declared.rules.Inc.{Inc}
use Rattle.dsr_ir.specs.declared.rules.Inc.TheVariants.{Own, Target, Slot, OwnPair, SlotPair}
use Rattle.dsr_ir.specs.declared.rules.Rule.{Rule}
use Rattle.dsr_ir.specs.declared.updates.Symbol.{Symbol}
use Rattle.dsr_meaning.specs.Typed.{IsTyped, IsTypedInc, IsTypedRule}
use Rattle.dsr_meaning.proofs.Items.{item_at, of_all}
use Rattle.dsr_meaning.proofs.Options.{some_and}
use Rattle.dsr_update_theory.specs.Effects.{IsDeclared}
use Rattle.dsr_update_theory.specs.Givers.{IsGiver}

found_below : {A : Type 0} (xs : List A) (i : ℕ) (x : A) → slice_get xs i ≡ Some x → i < length xs
found_below xs i x is = elim (slice_get_cases xs i).1 as (λ _. i < length xs) [
  | inl found ↦ found.1
  | inr past ↦ absurd (none_is (subst (λ o. o ≡ Some x) past.1 is))
] where
  none_is : None ≡ Some x → ⊥
  none_is e = absurd cc

there : {A : Type 0} (xs : List A) (i : ℕ) (P : A → Type 0) → IsSomeAnd (slice_get xs i) P → i < length xs
there xs i P h = let x = some_and (slice_get xs i) P h in found_below xs i x.0 x.1.0

given_declared : (base : Structures) (rule : Rule) (inc : Inc) → IsTypedInc base rule inc → IsDeclared base (symbol_of inc)
given_declared base rule (Own set) typed = there base.sets set _ typed
given_declared base rule (Target set path) typed = there base.sets set _ typed.1
given_declared base rule (Slot set pool) typed = there base.sets set _ typed.0
given_declared base rule (OwnPair rel path) typed = there base.rels rel _ typed.relates
given_declared base rule (SlotPair rel pool path) typed = there base.rels rel _ typed.1.relates

with_base : (sets : List SetDecl) (set base : ℕ) → option_and_then (λ (d : SetDecl). d.except) (slice_get sets set) ≡ Some base → set < length sets
with_base sets set base is = elim (slice_get_cases sets set).1 as (λ _. set < length sets) [
  | inl found ↦ found.1
  | inr past ↦ absurd (none_is (subst (λ o. option_and_then (λ (d : SetDecl). d.except) o ≡ Some base) past.1 is))
] where
  none_is : None ≡ Some base → ⊥
  none_is e = absurd cc

pub declared : (spec : Spec) (fields : List FieldRef) (symbol : Symbol) → IsTyped spec → IsAffected spec fields symbol → IsDeclared spec.base symbol
declared spec fields symbol typed affected = by symbol affected where
  by_giver : (s : Symbol) (k : ℕ) (rule : Rule) → IsGiver spec s k rule → IsDeclared spec.base s
  by_giver s k rule giver =
      subst (IsDeclared spec.base) (symbols_same (symbol_of rule.inc) s giver.gives)
      (given_declared spec.base rule rule.inc (of_all (IsTypedRule spec.base) spec.rules rule typed.rules (item_at spec.rules k rule giver.rule_is)).inc)

  by : (s : Symbol) → IsAffected spec fields s → IsDeclared spec.base s
  by x (read s k rule giver reads) = by_giver s k rule giver
  by x (handed_on s k rule premise giver is before) = by_giver s k rule giver
  by x (swapped set base is before) = with_base spec.base.sets set base is
