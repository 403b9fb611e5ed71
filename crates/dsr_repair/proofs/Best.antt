-- The violation that is to be repaired first, among more and more constraints.
use Rattle.std.proofs.Common.{◌≡◌, ◌<◌, ◌≤◌, ◌+◌, ◌⊎◌, ℕ, zero, suc, List, [], ◌∷◌, length, Option, None, Some, IsSomeAnd, MatchOption, inl, inr, refl, sym, ap, subst, ◌∙◌, slice_get, arith}
use Rattle.std.proofs.lemmas.Bool.{cases_lt}
use Rattle.std.proofs.lemmas.Option.{slice_get_cases}
use Rattle.dsr_repair.specs.Violations.{IsBest, IsBestBefore, IsNextViolation}
use Rattle.dsr_repair.specs.declared.bindings.Lowest.{Lowest}
use Rattle.dsr_ir.specs.declared.declarations.Spec.{Spec}
use Rattle.dsr_ir.specs.declared.tuples.Binding.{Binding}
use Rattle.dsr_ir.specs.declared.tuples.Fact.{Fact}
use Rattle.dsr_meaning.specs.Consistency.{AreSatisfied, BoundConstraint, IsFirstViolated, IsViolated, NoneIsViolated}
use Rattle.dsr_plan_theory.specs.declared.choices.Choice.{Choice}
use Rattle.dsr_plan_theory.specs.declared.choices.Row.{Row}

-- a number below the next one is below this one, or this one
below_next : (m n : ℕ) → m < n + 1 → (m < n) ⊎ (m ≡ n)
below_next m n less = elim (cases_lt m n) [
  | inl lt ↦ inl lt
  | inr ge ↦ inr (omega (arith, less, ge))
]

-- two rows at one place are one
one_row : (rows : List Row) (m n : ℕ) (a b : Row) → m ≡ n → slice_get rows m ≡ Some a → slice_get rows n ≡ Some b → a ≡ b
one_row rows m n a b same at by =
    let both : Some a ≡ Some b = sym at ∙ (ap (slice_get rows) same ∙ by) in cc

module _ (is_fact : Fact → Type 0) (spec : Spec) (choice : Choice) (n : ℕ) (row : Row) (here : slice_get choice.rows n ≡ Some row) where
  -- one that stands as low stays the first
  pub stays_best :
      (found : Lowest) → found.level ≤ row.level → IsBest is_fact spec choice n found
      → IsBest is_fact spec choice (n + 1) found
  stays_best found low best = record {
    row = best.row;
    row_is = best.row_is;
    level_is = best.level_is;
    below = omega (arith, best.below);
    violated = best.violated;
    lowest = λ w other below violated at. elim (below_next w.constraint n below) [
      | inl earlier ↦ best.lowest w other earlier violated at
      | inr this ↦ subst (λ r. found.level ≤ r.level) (sym (one_row choice.rows w.constraint n other row this at here)) low
    ];
    first = λ w other below violated at level. elim (below_next w.constraint n below) [
      | inl earlier ↦ best.first w other earlier violated at level
      | inr this ↦ omega (arith, best.below, this)
    ];
    least = best.least;
  }

  -- so does the best one, if any stands as low
  pub stays_low : (best : Option Lowest) → IsSomeAnd best (λ found. found.level ≤ row.level)
      → IsBestBefore is_fact spec choice n best → IsBestBefore is_fact spec choice (n + 1) best
  stays_low None low before = absurd low
  stays_low (Some found) low best = stays_best found low best

  -- where this constraint has no violated binding, all stays
  pub stays_none : NoneIsViolated is_fact spec (n ∷ []) → (best : Option Lowest) → IsBestBefore is_fact spec choice n best
      → IsBestBefore is_fact spec choice (n + 1) best
  stays_none none None before = λ w below violated. elim (below_next w.constraint n below) [
    | inl earlier ↦ before w earlier violated
    | inr this ↦ none 0 w (ap Some (sym this)) violated
  ]
  stays_none none (Some found) best = record {
    row = best.row;
    row_is = best.row_is;
    level_is = best.level_is;
    below = omega (arith, best.below);
    violated = best.violated;
    lowest = λ w other below violated at. elim (below_next w.constraint n below) [
      | inl earlier ↦ best.lowest w other earlier violated at
      | inr this ↦ absurd (none 0 w (ap Some (sym this)) violated)
    ];
    first = λ w other below violated at level. elim (below_next w.constraint n below) [
      | inl earlier ↦ best.first w other earlier violated at level
      | inr this ↦ absurd (none 0 w (ap Some (sym this)) violated)
    ];
    least = best.least;
  }

  -- the constraint stands lower than the best so far
  abbrev pub IsLower : Option Lowest → Type 0
  IsLower None = Unit {0}
  IsLower (Some found) = row.level < found.level

  -- the one violated binding of a list of one constraint
  of_this : (v : BoundConstraint) → IsFirstViolated is_fact spec (n ∷ []) v → n ≡ v.constraint
  of_this v is = only is.at is.placed where
    only : (k : ℕ) → slice_get (n ∷ []) k ≡ Some v.constraint → n ≡ v.constraint
    only zero placed = let e : Some n ≡ Some v.constraint = placed in cc
    only (suc k) placed = absurd cc

  pub stands_lower : (best : Option Lowest) → (IsSomeAnd best (λ found. found.level ≤ row.level) → ⊥) → IsLower best
  stands_lower None high = tt
  stands_lower (Some found) high = elim (cases_lt row.level found.level) [
    | inl less ↦ less
    | inr low ↦ absurd (high low)
  ]

  later_is_higher :
      (best : Option Lowest) → IsLower best → IsBestBefore is_fact spec choice n best
      → (w : BoundConstraint) (other : Row) → w.constraint < n → IsViolated is_fact spec w
      → slice_get choice.rows w.constraint ≡ Some other → row.level < other.level
  later_is_higher None low before w other earlier violated at = absurd (before w earlier violated)
  later_is_higher (Some found) low best w other earlier violated at =
      let high = best.lowest w other earlier violated at in omega (arith, low, high)

  pub becomes_best :
      (best : Option Lowest) (b : Binding) → IsLower best → IsBestBefore is_fact spec choice n best
      → IsFirstViolated is_fact spec (n ∷ []) (record { constraint = n; binding = b })
      → IsBest is_fact spec choice (n + 1) (record { level = row.level; violation = record { constraint = n; binding = b } })
  becomes_best best b low before is = record {
    row = row;
    row_is = here;
    level_is = refl;
    below = omega arith;
    violated = is.violated;
    lowest = λ w other below violated at. elim (below_next w.constraint n below) [
      | inl earlier ↦ let high = later_is_higher best low before w other earlier violated at in omega (arith, high)
      | inr this ↦ let e : row.level ≡ other.level = ap (λ r. r.level) (sym (one_row choice.rows w.constraint n other row this at here)) in omega (arith, e)
    ];
    first = λ w other below violated at level. elim (below_next w.constraint n below) [
      | inl earlier ↦ let high = later_is_higher best low before w other earlier violated at in absurd (omega (arith, high, level))
      | inr this ↦ omega (arith, this)
    ];
    least = is.least;
  }

  pub becomes_of :
      (best : Option Lowest) (v : BoundConstraint) → IsLower best → IsBestBefore is_fact spec choice n best
      → IsFirstViolated is_fact spec (n ∷ []) v
      → IsBest is_fact spec choice (n + 1) (record { level = row.level; violation = record { constraint = v.constraint; binding = v.binding } })
  becomes_of best v low before is =
      let this : n ≡ v.constraint = of_this v is in
      subst (λ m. IsBest is_fact spec choice (n + 1) (record { level = row.level; violation = record { constraint = m; binding = v.binding } })) this
      (becomes_best best v.binding low before
      (subst (λ m. IsFirstViolated is_fact spec (n ∷ []) (record { constraint = m; binding = v.binding })) (sym this) is))

-- once all constraints were gone over
got_below : {X : Type 0} (xs : List X) (n : ℕ) (x : X) → slice_get xs n ≡ Some x → n < length xs
got_below xs n x at = elim (slice_get_cases xs n).1 [
  | inl found ↦ found.1
  | inr past ↦ let none : None ≡ Some x = sym past.1 ∙ at in absurd cc
]

pub ended :
    (is_fact : Fact → Type 0) (spec : Spec) (choice : Choice) → length choice.rows ≡ length spec.constraints
    → (best : Option Lowest) → IsBestBefore is_fact spec choice (length choice.rows) best
    → MatchOption best (AreSatisfied is_fact spec) (λ found. IsNextViolation is_fact spec choice found.violation)
ended is_fact spec choice as_many None before = λ v violated. before v (subst (λ k. v.constraint < k) (sym as_many) (got_below spec.constraints v.constraint violated.constraint violated.declared)) violated
ended is_fact spec choice as_many (Some found) best = record {
  constraint = best.violated.constraint;
  row = best.row;
  is = record {
    row_of = record { constraint_is = best.violated.declared; row_is = best.row_is };
    violated = best.violated;
    lowest = λ w other violated at. subst (λ l. l ≤ other.level) (sym best.level_is) (best.lowest w other (got_below choice.rows w.constraint other at) violated at);
    first = λ w other violated at level. best.first w other (got_below choice.rows w.constraint other at) violated at (level ∙ best.level_is);
    least = best.least;
  };
}
