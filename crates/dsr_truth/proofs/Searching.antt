-- The least violated binding of a constraint, and the first one in an order of constraints.
use Rattle.std.proofs.Common.{◌≡◌, ℕ, ◌+◌, ◌-◌, ◌<◌, ◌≤◌, List, length, Option, None, Some, slice_get, refl, sym, ap, subst, ◌∙◌, arith, inl, inr}
use Rattle.std.specs.Prelude.{MatchOption}
use Rattle.std.proofs.lemmas.Bool.{cases_lt}
use Rattle.std.proofs.lemmas.Option.{slice_get_within}
use Rattle.dsr_ir.specs.declared.constraints.Constraint.{Constraint}
use Rattle.dsr_ir.specs.declared.declarations.Spec.{Spec}
use Rattle.dsr_ir.specs.declared.tuples.Binding.{Binding}
use Rattle.dsr_ir.specs.declared.tuples.Fact.{Fact}
use Rattle.dsr_meaning.proofs.Ordered.{bindings_apart, bindings_one_way}
use Rattle.dsr_meaning.specs.Consistency.{BoundConstraint, IsFirstViolated, IsViolated, NoneIsViolated, NoneIsViolatedBefore, bound_constraint}
use Rattle.dsr_meaning.specs.Orders.{BindingPrecedes}
use Rattle.dsr_truth.proofs.Finding.{is_violated, violated_at}
use Rattle.dsr_truth.proofs.Ordering.{bindings_follow}
use Rattle.dsr_truth.specs.Walks.{ComesAfter, FindsLeastBinding, IsLaterBinding, IsLaterViolated, IsLeastBinding, IsUnsatisfied, IsViolatedAt, IsViolatedFrom, IsViolatedOf}

-- ---- one constraint

-- what is sought comes after the last binding that was tried, and what comes after that one comes after `before`
pub record IsSearched (is_fact : Fact → Type 0) (c : Constraint) (before last : Option Binding) : Type 0 where
  pub left : (b : Binding) → IsLaterViolated is_fact c before b → ComesAfter last b
  pub later : (b : Binding) → ComesAfter last b → ComesAfter before b

module _ (is_fact : Fact → Type 0) (c : Constraint) (before : Option Binding) where
  pub search_begins : IsSearched is_fact c before before
  search_begins = record { left = λ b is. is.1; later = λ b after. after }

  module _ (last : Option Binding) (searched : IsSearched is_fact c before last) where
    module _ (b : Binding) (next : IsLeastBinding (IsLaterBinding is_fact c.quant last) b) where
      comes_after : (o : Option Binding) (x : Binding) → ComesAfter o b → BindingPrecedes b x → ComesAfter o x
      comes_after None x first after = tt
      comes_after (Some a) x first after = bindings_follow a b x first after

      pub search_goes_on : (IsUnsatisfied is_fact b c → ⊥) → IsSearched is_fact c before (Some b)
      search_goes_on satisfied = record {
        left = λ x is. elim (bindings_apart b x) [
          | inl after ↦ after
          | inr other ↦ elim other [
            | inl same ↦ absurd (satisfied (subst (λ y. IsUnsatisfied is_fact y c) (sym same) is.0.1))
            | inr earlier ↦ absurd (next.none_before x (is.0.0, searched.left x is) earlier)
          ]
        ];
        later = λ x after. searched.later x (comes_after last x next.of_kind.1 after);
      }

      pub search_finds : IsUnsatisfied is_fact b c → IsLeastBinding (IsLaterViolated is_fact c before) b
      search_finds unsatisfied = record {
        of_kind = ((next.of_kind.0, unsatisfied), searched.later b next.of_kind.1);
        none_before = λ x is less. next.none_before x (is.0.0, searched.left x is) less;
      }

    pub search_ends : FindsLeastBinding (IsLaterBinding is_fact c.quant last) None
        → FindsLeastBinding (IsLaterViolated is_fact c before) None
    search_ends none = λ b is. none b (is.0.0, searched.left b is)

-- ---- the constraint of a number

pub not_declared : (is_fact : Fact → Type 0) (spec : Spec) (k : ℕ) → slice_get spec.constraints k ≡ None
    → (b : Binding) → IsViolatedOf is_fact spec k b → ⊥
not_declared is_fact spec k none b is =
    absurd (let both : None ≡ Some is.constraint = sym none ∙ is.declared in cc)

module _ (is_fact : Fact → Type 0) (spec : Spec) (k : ℕ) (c : Constraint)
    (declared : slice_get spec.constraints k ≡ Some c) where
  at : (b : Binding) → IsViolatedOf is_fact spec k b → IsViolatedAt is_fact c b
  at b is = violated_at is_fact spec k c declared (bound_constraint (k, b)) refl is

  of : (b : Binding) → IsViolatedAt is_fact c b → IsViolatedOf is_fact spec k b
  of b is = is_violated is_fact spec k c declared b is

  pub first_of : (answer : Option Binding) → FindsLeastBinding (IsLaterViolated is_fact c None) answer
      → FindsLeastBinding (IsViolatedOf is_fact spec k) answer
  first_of None none = λ b is. none b (at b is, tt)
  first_of (Some b) least = record {
    of_kind = of b least.of_kind.0;
    none_before = λ x is less. least.none_before x (at x is, tt) less;
  }

  module _ (from : Binding) where
    pub from_here : IsViolatedAt is_fact c from → IsLeastBinding (IsViolatedFrom is_fact spec k from) from
    from_here is = record {
      of_kind = (of from is, λ less. bindings_one_way from from less less);
      none_before = λ x is less. is.1 less;
    }

    -- what doesn't come before a binding that isn't violated comes after it
    after_it : (IsViolatedAt is_fact c from → ⊥) → (x : Binding) → IsViolatedFrom is_fact spec k from x
        → IsLaterViolated is_fact c (Some from) x
    after_it not x is =
        elim (bindings_apart from x) [
          | inl after ↦ (at x is.0, after)
          | inr other ↦ elim other [
            | inl same ↦ absurd (not (subst (IsViolatedAt is_fact c) (sym same) (at x is.0)))
            | inr earlier ↦ absurd (is.1 earlier)
          ]
        ]

    pub from_later : (IsViolatedAt is_fact c from → ⊥) → (answer : Option Binding)
        → FindsLeastBinding (IsLaterViolated is_fact c (Some from)) answer
        → FindsLeastBinding (IsViolatedFrom is_fact spec k from) answer
    from_later not None none = λ x is. none x (after_it not x is)
    from_later not (Some b) least = record {
      of_kind = (of b least.of_kind.0, λ less. bindings_one_way b from less least.of_kind.1);
      none_before = λ x is less. least.none_before x (after_it not x is) less;
    }

-- ---- an order of constraints

-- no constraint before this place has a violated binding
abbrev pub NonePassed : (Fact → Type 0) → Spec → List ℕ → ℕ → Type 0
NonePassed is_fact spec order i =
    (k : ℕ) (w : BoundConstraint) → slice_get order k ≡ Some w.constraint → k < i → IsViolated is_fact spec w → ⊥

same_number : {m n : ℕ} → Some m ≡ Some n → n ≡ m
same_number e = cc

module _ (is_fact : Fact → Type 0) (spec : Spec) (order : List ℕ) where
  pub order_begins : NonePassed is_fact spec order 0
  order_begins k w placed less = absurd (omega (arith, less))

  module _ (i number : ℕ) (here : slice_get order i ≡ Some number) where
    -- the constraint that stands here
    own : (w : BoundConstraint) (k : ℕ) → slice_get order k ≡ Some w.constraint → k ≡ i
        → IsViolated is_fact spec w → IsViolatedOf is_fact spec number w.binding
    own w k placed same is =
        let number_is : w.constraint ≡ number =
        same_number (sym here ∙ ap (slice_get order) (sym same) ∙ placed) in
        subst (λ n. IsViolatedOf is_fact spec n w.binding) number_is is

    pub order_goes_on : NonePassed is_fact spec order i
        → FindsLeastBinding (IsViolatedOf is_fact spec number) None
        → NonePassed is_fact spec order (i + 1)
    order_goes_on passed none k w placed less is = elim (cases_lt k i) [
      | inl before ↦ passed k w placed before is
      | inr from ↦ none w.binding (own w k placed (omega (arith, less, from)) is)
    ]

    pub order_finds : (b : Binding) → NonePassed is_fact spec order i
        → IsLeastBinding (IsViolatedOf is_fact spec number) b
        → IsFirstViolated is_fact spec order (bound_constraint (number, b))
    order_finds b passed least = record {
      violated = least.of_kind;
      at = i;
      placed = here;
      none_before = λ k w less placed is. passed k w placed less is;
      least = λ x is less. least.none_before x is less;
    }

    module _ (binding : Binding) (before : NoneIsViolatedBefore is_fact spec order i binding) where
      -- a violated binding of this constraint doesn't come before the one at which the search begins
      not_before : (x : Binding) → IsViolatedOf is_fact spec number x → BindingPrecedes x binding → ⊥
      not_before x is less = before i (bound_constraint (number, x)) here (inr (refl, less)) is

      pub from_finds : (b : Binding) → IsLeastBinding (IsViolatedFrom is_fact spec number binding) b
          → IsFirstViolated is_fact spec order (bound_constraint (number, b))
      from_finds b least = record {
        violated = least.of_kind.0;
        at = i;
        placed = here;
        none_before = λ k w less placed is. before k w placed (inl less) is;
        least = λ x is less. least.none_before x (is, not_before x is) less;
      }

      module _ (none : FindsLeastBinding (IsViolatedFrom is_fact spec number binding) None) (rest : List ℕ)
          (behind : (k : ℕ) → slice_get order (i + 1 + k) ≡ slice_get rest k) where
        none_up_to : (k : ℕ) (w : BoundConstraint) → slice_get order k ≡ Some w.constraint → k < i + 1
            → IsViolated is_fact spec w → ⊥
        none_up_to k w placed less is = elim (cases_lt k i) [
          | inl earlier ↦ before k w placed (inl earlier) is
          | inr from ↦
              let it = own w k placed (omega (arith, less, from)) is in
              none w.binding (it, not_before w.binding it)
        ]

        in_rest : (k : ℕ) (w : BoundConstraint) → slice_get order k ≡ Some w.constraint → i + 1 ≤ k
            → slice_get rest (k - (i + 1)) ≡ Some w.constraint
        in_rest k w placed from =
            let place : i + 1 + (k - (i + 1)) ≡ k = omega (arith, from) in
            sym (behind (k - (i + 1))) ∙ ap (slice_get order) place ∙ placed

        pub from_rest : (answer : Option (ℕ × Binding))
            → MatchOption answer (NoneIsViolated is_fact spec rest)
            (λ v. IsFirstViolated is_fact spec rest (bound_constraint v))
            → MatchOption answer (NoneIsViolated is_fact spec order)
            (λ v. IsFirstViolated is_fact spec order (bound_constraint v))
        from_rest None later = λ k w placed is. elim (cases_lt k (i + 1)) [
          | inl early ↦ none_up_to k w placed early is
          | inr late ↦ later (k - (i + 1)) w (in_rest k w placed late) is
        ]
        from_rest (Some v) first = record {
          violated = first.violated;
          at = i + 1 + first.at;
          placed = behind first.at ∙ first.placed;
          none_before = λ k w less placed is. elim (cases_lt k (i + 1)) [
            | inl early ↦ none_up_to k w placed early is
            | inr late ↦
                first.none_before (k - (i + 1)) w (omega (arith, less, late)) (in_rest k w placed late) is
          ];
          least = first.least;
        }

  pub order_ends : (i : ℕ) → length order ≤ i → NonePassed is_fact spec order i
      → NoneIsViolated is_fact spec order
  order_ends i past passed k w placed is =
      let inside = slice_get_within order k w.constraint placed in
      passed k w placed (omega (arith, inside, past)) is
