-- Slots that are members of avoided sets.
use Rattle.std.proofs.Common.{◌≡◌, ◌<◌, ◌≤◌, ◌+◌, ℕ, suc, zero, List, [], ◌∷◌, length, Option, None, Some, IsSomeAnd, inl, inr, refl, sym, ap, subst, ◌∙◌, slice_get, arith}
use Rattle.std.specs.Option.{option_and_then}
use Rattle.std.proofs.lemmas.Bool.{cases_lt}
use Rattle.std.proofs.lemmas.Option.{slice_get_within}
use Rattle.dsr_repair_theory.specs.Choices.{IsFreshFrom, IsSupplied}
use Rattle.dsr_repair.proofs.Gone.{EachBefore}
use Rattle.dsr_repair.specs.Supplies.{IsUsed}
use Rattle.dsr_ir.specs.Layouts.{pool_numbers}
use Rattle.dsr_ir.specs.declared.declarations.Pool.{Pool}
use Rattle.dsr_ir.specs.declared.declarations.Spec.{Spec}
use Rattle.dsr_ir.specs.declared.layouts.Layout.{Layout}
use Rattle.dsr_ir.specs.declared.layouts.PoolNumbers.{PoolNumbers}
use Rattle.dsr_ir.specs.declared.tuples.Element.{Element}
use Rattle.dsr_ir.specs.declared.tuples.Fact.{Fact}
use Rattle.dsr_ir.specs.declared.tuples.Fact.TheVariants.{Member}
use Rattle.dsr_meaning.specs.Counting.{IsIn}
use Rattle.dsr_meaning.specs.Orders.{Precedes}
use Rattle.dsr_meaning.specs.Typed.{pool_at}
use Rattle.dsr_repair_theory.specs.Turns.{IsUsedUp}
use Rattle.dsr_step_theory.specs.Steps.{IsSlot}

at_place : (xs : List ℕ) (n x : ℕ) → slice_get xs n ≡ Some x → IsIn x xs
at_place [] n x at = absurd cc
at_place (y ∷ xs) zero x at = let e : y ≡ x = cc in inl (sym e)
at_place (y ∷ xs) (suc n) x at = inr (at_place xs n x at)

place_in : (xs : List ℕ) (x : ℕ) → IsIn x xs → (n : ℕ) × (slice_get xs n ≡ Some x)
place_in [] x is = absurd is
place_in (y ∷ xs) x (inl e) = (0, ap Some (sym e))
place_in (y ∷ xs) x (inr later) = let rest = place_in xs x later in (suc rest.0, rest.1)

module _ (is_fact : Fact → Type 0) (sets : List ℕ) (e : Element) where
  pub taken_here : (i set : ℕ) → slice_get sets i ≡ Some set → is_fact (Member set e) → IsUsed is_fact sets e
  taken_here i set at fact = (set, at_place sets i set at, fact)

  pub taken_nowhere : (i : ℕ) → length sets ≤ i → EachBefore (λ n set. is_fact (Member set e) → ⊥) sets i → IsUsed is_fact sets e → ⊥
  taken_nowhere i past none taken =
      let place = place_in sets taken.0 taken.1 in
      let within = slice_get_within sets place.0 taken.0 place.1 in
      none place.0 taken.0 (omega (arith, past, within)) place.1 taken.2

-- ---- the first slot that isn't one

module _ (is_fact : Fact → Type 0) (spec : Spec) (layout : Layout) (pool : ℕ) (sets : List ℕ) (numbers : PoolNumbers)
    (sets_are : Some sets ≡ option_and_then (λ d. d.avoid) (pool_at spec.base pool))
    (numbers_are : pool_numbers layout pool ≡ Some numbers) where
  -- what is said of the avoided sets, said of these
  of_avoided : (d : Option Pool) (P : List ℕ → Type 0) → Some sets ≡ option_and_then (λ p. p.avoid) d → P sets → IsSomeAnd d (λ p. IsSomeAnd p.avoid P)
  of_avoided None P are is = absurd cc
  of_avoided (Some p) P are is = subst (λ o. IsSomeAnd o P) are is

  to_avoided : (d : Option Pool) (P : List ℕ → Type 0) → Some sets ≡ option_and_then (λ p. p.avoid) d → IsSomeAnd d (λ p. IsSomeAnd p.avoid P) → P sets
  to_avoided None P are is = absurd is
  to_avoided (Some p) P are is = subst (λ o. IsSomeAnd o P) (sym are) is

  slot_below : (e : Element) → e.pool ≡ pool → IsSlot layout e → e.slot < numbers.count
  slot_below e of slot =
      subst (λ o. IsSomeAnd o (λ n. e.slot < n.count)) (ap (pool_numbers layout) of ∙ numbers_are) slot

  AllTaken : ℕ → Type 0
  AllTaken n = (k : ℕ) → k < n → IsUsed is_fact sets (record { pool = pool; slot = k })

  pub used_up : (n : ℕ) → numbers.count ≤ n → ((k : ℕ) → k < n → IsUsed is_fact sets (record { pool = pool; slot = k })) → IsUsedUp is_fact spec layout pool
  used_up n past all =
      of_avoided (pool_at spec.base pool) (λ ss. (e : Element) → e.pool ≡ pool → IsSlot layout e → IsUsed is_fact ss e) sets_are
      (λ e of slot. let below = slot_below e of slot in
      subst (λ p. IsUsed is_fact sets (record { pool = p; slot = e.slot })) (sym of) (all e.slot (omega (arith, past, below))))

  pub more_taken : (n : ℕ) → ((k : ℕ) → k < n → IsUsed is_fact sets (record { pool = pool; slot = k })) → IsUsed is_fact sets (record { pool = pool; slot = n })
      → (k : ℕ) → k < n + 1 → IsUsed is_fact sets (record { pool = pool; slot = k })
  more_taken n all here k below = elim (cases_lt k n) [
    | inl earlier ↦ all k earlier
    | inr later ↦ let same : k ≡ n = omega (arith, below, later) in subst (λ j. IsUsed is_fact sets (record { pool = pool; slot = j })) (sym same) here
  ]

  pub first_fresh :
      (n : ℕ) → n < numbers.count → ((k : ℕ) → k < n → IsUsed is_fact sets (record { pool = pool; slot = k }))
      → (IsUsed is_fact sets (record { pool = pool; slot = n }) → ⊥)
      → IsFreshFrom is_fact spec layout pool (record { pool = pool; slot = n })
  first_fresh n below all free = record {
    supplied = record {
      pool_is = refl;
      slot = subst (λ o. IsSomeAnd o (λ m. n < m.count)) (sym numbers_are) below;
      outside = of_avoided (pool_at spec.base pool) (λ ss. (set : ℕ) → IsIn set ss → is_fact (Member set (record { pool = pool; slot = n })) → ⊥) sets_are
          (λ set here fact. free (set, here, fact));
    };
    least = λ f supplied before. not_before f supplied (earlier f supplied.pool_is before);
  } where
    earlier : (f : Element) → f.pool ≡ pool → Precedes f (record { pool = pool; slot = n }) → f.slot < n
    earlier f of (inl less) = absurd (omega (arith, of, less))
    earlier f of (inr slots) = slots.1

    not_before : (f : Element) → IsSupplied is_fact spec layout pool f → f.slot < n → ⊥
    not_before f supplied less =
        let outside = to_avoided (pool_at spec.base pool) (λ ss. (set : ℕ) → IsIn set ss → is_fact (Member set f) → ⊥) sets_are supplied.outside in
        let taken : IsUsed is_fact sets f = subst (λ p. IsUsed is_fact sets (record { pool = p; slot = f.slot })) (sym supplied.pool_is) (all f.slot less) in
        outside taken.0 taken.1 taken.2
