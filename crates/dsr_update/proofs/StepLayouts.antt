-- What is known of the layout by which a step is made.
use Rattle.std.proofs.Common.{◌≡◌, ◌<◌, ◌≤◌, ◌-◌, ℕ, true, false, nat_eq, List, length, All, get_or, None, Some, if◌then◌else◌, refl, sym, subst, inl, inr, arith}
use Rattle.std.specs.Prelude.{IfSome, IsSome, option_and_then, slice_get}
use Rattle.std.proofs.lemmas.Bool.Decides.{nat_tests}
use Rattle.std.proofs.lemmas.Option.{slice_get_cases}
use Rattle.dsr_ir.specs.Layouts.{pool_numbers}
use Rattle.dsr_ir.specs.declared.declarations.Field.{Field}
use Rattle.dsr_ir.specs.declared.declarations.FieldRef.{FieldRef}
use Rattle.dsr_ir.specs.declared.declarations.Kind.{Kind}
use Rattle.dsr_ir.specs.declared.declarations.Kind.TheVariants.{Number, Refers, Gap}
use Rattle.dsr_ir.specs.declared.declarations.Spec.{Spec}
use Rattle.dsr_ir.specs.declared.layouts.Layout.{Layout}
use Rattle.dsr_ir.specs.declared.updates.Update.{Update}
use Rattle.dsr_ir.specs.declared.updates.Write.{Write}
use Rattle.dsr_meaning.specs.FixedFields.{fixed_value}
use Rattle.dsr_meaning.specs.Instances.{declared_field, kind_pool, referred_pool}
use Rattle.dsr_meaning.specs.Legal.{IsLegalLayout}
use Rattle.dsr_meaning.specs.Places.{size_of}
use Rattle.dsr_meaning.specs.Refusals.{IsLayoutOf}
use Rattle.dsr_meaning.specs.Typed.{IsPoolNumber, IsTyped, IsTypedKind}
use Rattle.dsr_layout.proofs.Fitting.{field_found}
use Rattle.dsr_layout.proofs.LegalLayout.{as_many, built}
use Rattle.dsr_step_theory.specs.Steps.{CanStep}
use Rattle.dsr_step_theory.specs.declared.steps.Step.{Step}
use Rattle.dsr_resolve.proofs.AcceptedLayouts.{legal_of}

-- a place below the length of a list has an item
item_there : {X : Type 0} (xs : List X) (i : ℕ) → i < length xs → IsSome (slice_get xs i)
item_there xs i lt = elim (slice_get_cases xs i).1 [
  | inl found ↦ subst IsSome (sym found.2) refl
  | inr past ↦ absurd (omega (arith, past.0, lt))
]

module _ (spec : Spec) (bytes : List ℕ) (layout : Layout) (is : IsLayoutOf spec bytes layout) (typed : IsTyped spec) where
  -- a declared pool has its numbers
  pool_there : (pool : ℕ) → IsPoolNumber spec.base pool → IsSome (pool_numbers layout pool)
  pool_there pool number = elim (nat_eq pool 0) as (λ b. nat_eq pool 0 ≡ b → IsSome (if b then None else slice_get layout.pools (pool - 1))) [
    | true ↦ λ e. absurd (let from = number.from in grind (arith, nat_tests))
    | false ↦ λ _. item_there layout.pools (pool - 1)
        (let many : length layout.pools ≡ length spec.base.pools = as_many (fixed_value spec.base bytes) (size_of (fixed_value spec.base bytes) spec.base.structures) spec.base.pools layout.pools (built (fixed_value spec.base bytes) spec.base (length bytes) layout is.numbers).pools_are in
        omega (arith, many, number.from, number.to))
  ] refl

  kind_there : (f : Field) (kind : Kind) → IsTypedKind spec.base f kind → IfSome (kind_pool kind) (λ p. IsSome (pool_numbers layout p))
  kind_there f (Number init) of = tt
  kind_there f (Refers pool) of = pool_there pool of
  kind_there f Gap of = tt

  -- and so has the one to which a field refers
  pub referred_there : (place : FieldRef) → IfSome (referred_pool spec place) (λ p. IsSome (pool_numbers layout p))
  referred_there place = elim (declared_field spec.base place) as (λ o. declared_field spec.base place ≡ o → IfSome (option_and_then (λ (f : Field). kind_pool f.kind) o) (λ p. IsSome (pool_numbers layout p))) [
    | None ↦ λ _. tt
    | Some f ↦ λ declared.
        let at = field_found spec.base place f declared in
        kind_there f f.kind ((typed.base.structures place.structure at.structure at.structure_is).fields place.field f at.field_is).kind
  ] refl

module _ (spec : Spec) (layout : Layout) (step : Step) (update : Update) (bytes : ℕ) (can : CanStep spec layout step update bytes) where
  -- it is a legal one, where the image has no more bytes than there may be
  pub step_legal : bytes ≤ 67108864 → IsLegalLayout layout
  step_legal small = legal_of spec can.image layout can.layout_is can.typed (subst (λ n. n ≤ 67108864) can.as_long small)

  -- each pool to which a written field refers has its numbers
  pub all_there : (writes : List Write) → All (λ w. IfSome (referred_pool spec w.path.field) (λ p. IsSome (pool_numbers layout p))) writes
  all_there writes k d below = referred_there spec can.image layout can.layout_is can.typed (get_or writes k d).path.field
