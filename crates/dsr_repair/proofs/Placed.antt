-- What stands before a place in the order of repair, and what is the first that is violated there.
use Rattle.std.proofs.Common.{◌≡◌, ◌≤◌, ◌<◌, ◌+◌, ◌-◌, ◌⊎◌, ◌∙◌, ℕ, zero, suc, List, [], ◌∷◌, length, Option, None, Some, MatchOption, slice_get, inl, inr, refl, sym, ap, arith}
use Rattle.std.proofs.lemmas.Bool.{cases_lt}
use Rattle.std.proofs.lemmas.Option.{same_Some, slice_get_within}
use Rattle.dsr_repair.specs.Cursors.{AreSatisfiedBefore}
use Rattle.dsr_repair.specs.Orders.{IsRepairOrder}
use Rattle.dsr_repair.specs.Violations.{IsNextViolation}
use Rattle.dsr_ir.specs.declared.declarations.Spec.{Spec}
use Rattle.dsr_ir.specs.declared.tuples.Binding.{Binding}
use Rattle.dsr_ir.specs.declared.tuples.Fact.{Fact}
use Rattle.dsr_meaning.specs.Consistency.{AreSatisfied, BoundConstraint, IsFirstViolated, IsViolated, NoneIsViolated, NoneIsViolatedBefore, bound_constraint}
use Rattle.dsr_plan_theory.specs.declared.choices.Choice.{Choice}
use Rattle.dsr_plan_theory.specs.declared.choices.Row.{Row}
use Rattle.dsr_repair_theory.specs.Due.{IsDueBinding}

-- each constraint has a row
row_there : (rows : List Row) (n : ℕ) → n < length rows → (row : Row) × (slice_get rows n ≡ Some row)
row_there [] n less = absurd (omega (arith, less))
row_there (row ∷ rows) zero less = (row, refl)
row_there (row ∷ rows) (suc n) less = row_there rows n (omega (arith, less))

-- of two places one comes first, or they are the same
places : (k l : ℕ) → (k < l) ⊎ ((k ≡ l) ⊎ (l < k))
places k l = elim (cases_lt k l) as (λ _. (k < l) ⊎ ((k ≡ l) ⊎ (l < k))) [
  | inl less ↦ inl less
  | inr low ↦ elim (cases_lt l k) as (λ _. (k < l) ⊎ ((k ≡ l) ⊎ (l < k))) [
    | inl less ↦ inr (inr less)
    | inr high ↦ inr (inl (omega (arith, low, high)))
  ]
]

module _ (is_fact : Fact → Type 0) (spec : Spec) where
  -- ---- a part of an order

  module _ (order : List ℕ) (from : ℕ) (binding : Binding) (before : NoneIsViolatedBefore is_fact spec order from binding)
      (rest : List ℕ) (behind : (k : ℕ) → slice_get order (from + k) ≡ slice_get rest k) where
    in_rest : (k : ℕ) (w : BoundConstraint) → slice_get order k ≡ Some w.constraint → from ≤ k
        → slice_get rest (k - from) ≡ Some w.constraint
    in_rest k w placed late =
        let place : from + (k - from) ≡ k = omega (arith, late) in
        sym (behind (k - from)) ∙ ap (slice_get order) place ∙ placed

    -- the first one of the part is the first one of all
    pub from_place : (answer : Option (ℕ × Binding))
        → MatchOption answer (NoneIsViolated is_fact spec rest) (λ v. IsFirstViolated is_fact spec rest (bound_constraint v))
        → MatchOption answer (NoneIsViolated is_fact spec order) (λ v. IsFirstViolated is_fact spec order (bound_constraint v))
    from_place None none = λ k w placed is. elim (cases_lt k from) [
      | inl early ↦ before k w placed (inl early) is
      | inr late ↦ none (k - from) w (in_rest k w placed late) is
    ]
    from_place (Some v) first = record {
      violated = first.violated;
      at = from + first.at;
      placed = behind first.at ∙ first.placed;
      none_before = λ k w less placed is. elim (cases_lt k from) [
        | inl early ↦ before k w placed (inl early) is
        | inr late ↦ first.none_before (k - from) w (omega (arith, less, late)) (in_rest k w placed late) is
      ];
      least = first.least;
    }

  -- ---- the order of a plan

  module _ (choice : Choice) (order : List ℕ) (is : IsRepairOrder choice order) where
    -- nothing in the order is violated before the place of what nothing violated is repaired before
    pub none_before :
        (v : BoundConstraint) → AreSatisfiedBefore is_fact spec choice v
        → (at : ℕ) → slice_get order at ≡ Some v.constraint → NoneIsViolatedBefore is_fact spec order at v.binding
    none_before v satisfied at here k w placed (inl less) violated =
        satisfied w (inl (is.rising k at w.constraint v.constraint less placed here)) violated
    none_before v satisfied at here k w placed (inr both) violated =
        satisfied w (inr (same_Some w.constraint v.constraint (sym placed ∙ (ap (slice_get order) both.0 ∙ here)), both.1)) violated

    module _ (v : BoundConstraint) (first : IsFirstViolated is_fact spec order v) where
      own : (row : Row) × (slice_get choice.rows v.constraint ≡ Some row)
      own = is.only first.at v.constraint first.placed

      abbrev IsNoSooner : BoundConstraint → Row → Row → Type 0
      IsNoSooner w row other = (row.level < other.level) ⊎ ((row.level ≡ other.level) × (v.constraint ≤ w.constraint))

      -- another violated constraint stands behind, or is the same
      no_sooner :
          (w : BoundConstraint) (row other : Row) → slice_get choice.rows v.constraint ≡ Some row
          → IsViolated is_fact spec w → slice_get choice.rows w.constraint ≡ Some other → IsNoSooner w row other
      no_sooner w row other row_is violated other_is =
          let place = is.all w.constraint other other_is in
          elim (places place.0 first.at) as (λ _. IsNoSooner w row other) [
            | inl earlier ↦ absurd (first.none_before place.0 w earlier place.1 violated)
            | inr (inl at) ↦
                let same : w.constraint ≡ v.constraint = same_Some w.constraint v.constraint (sym place.1 ∙ (ap (slice_get order) at ∙ first.placed)) in
                let rows : row ≡ other = same_Some row other (sym row_is ∙ (ap (slice_get choice.rows) (sym same) ∙ other_is)) in
                inr (ap (λ (r : Row). r.level) rows, omega (arith, same))
            | inr (inr behind) ↦
                let stands = is.rising first.at place.0 v.constraint w.constraint behind first.placed place.1 in
                let one : stands.row.level ≡ row.level = ap (λ (r : Row). r.level) (same_Some stands.row row (sym stands.row_is ∙ row_is)) in
                let two : stands.other.level ≡ other.level = ap (λ (r : Row). r.level) (same_Some stands.other other (sym stands.other_is ∙ other_is)) in
                elim stands.before as (λ _. IsNoSooner w row other) [
                  | inl less ↦ inl (omega (arith, less, one, two))
                  | inr both ↦ let level = both.0 in let less = both.1 in inr (omega (arith, level, one, two), omega (arith, less))
                ]
          ]

      first_due : (row : Row) → slice_get choice.rows v.constraint ≡ Some row → IsDueBinding is_fact spec choice v first.violated.constraint row
      first_due row row_is = record {
        row_of = record { constraint_is = first.violated.declared; row_is = row_is };
        violated = first.violated;
        lowest = λ w other violated other_is. elim (no_sooner w row other row_is violated other_is) as (λ _. row.level ≤ other.level) [
          | inl less ↦ omega (arith, less)
          | inr both ↦ let same = both.0 in omega (arith, same)
        ];
        first = λ w other violated other_is level. elim (no_sooner w row other row_is violated other_is) as (λ _. v.constraint ≤ w.constraint) [
          | inl less ↦ absurd (omega (arith, less, level))
          | inr both ↦ both.1
        ];
        least = first.least;
      }

    -- the first one is to be repaired next
    pub first_is_next : (found : ℕ × Binding) → IsFirstViolated is_fact spec order (bound_constraint found)
        → IsNextViolation is_fact spec choice (record { constraint = found.0; binding = found.1 })
    first_is_next found first = record {
      constraint = first.violated.constraint;
      row = (own (bound_constraint found) first).0;
      is = first_due (bound_constraint found) first (own (bound_constraint found) first).0 (own (bound_constraint found) first).1;
    }

    -- where there is none, nothing is violated
    pub none_is_left : length choice.rows ≡ length spec.constraints → NoneIsViolated is_fact spec order → AreSatisfied is_fact spec
    none_is_left as_many none v violated =
        let within = slice_get_within spec.constraints v.constraint violated.constraint violated.declared in
        let row = row_there choice.rows v.constraint (omega (arith, as_many, within)) in
        let place = is.all v.constraint row.0 row.1 in
        none place.0 v place.1 violated
