-- The violated bindings that were found, one more binding at a time.
use Rattle.std.proofs.Common.{◌≡◌, ℕ, ◌+◌, ◌<◌, ◌≤◌, ◌⊎◌, ◌++◌, List, [], ◌∷◌, length, Option, None, Some, slice_get, refl, sym, ap, subst, ◌∙◌, arith, inl, inr}
use Rattle.std.proofs.lemmas.Bool.{cases_eq}
use Rattle.std.proofs.lemmas.Option.{slice_get_within}
use Rattle.dsr_ir.specs.declared.constraints.Constraint.{Constraint}
use Rattle.dsr_ir.specs.declared.declarations.Spec.{Spec}
use Rattle.dsr_ir.specs.declared.tuples.Binding.{Binding}
use Rattle.dsr_ir.specs.declared.tuples.Fact.{Fact}
use Rattle.dsr_meaning.proofs.Lists.{last_in}
use Rattle.dsr_meaning.proofs.Ordered.{bindings_apart, bindings_one_way}
use Rattle.dsr_meaning.specs.Consistency.{AreInOrder, AreViolations, BoundConstraint, bound_constraint, Comes, IsBinding, IsViolated}
use Rattle.dsr_meaning.specs.Counting.{IsIn}
use Rattle.dsr_meaning.specs.Orders.{BindingPrecedes}
use Rattle.dsr_truth.proofs.Ordering.{bindings_follow}
use Rattle.dsr_truth.specs.Walks.{AreFound, FindsLeastBinding, IsLaterBinding, IsLeastBinding, IsPassed, IsUnsatisfied, IsViolatedAt}
use Rattle.dsr_meaning.proofs.Items.{in_left}

in_either : {A : Type 0} (x z : A) (xs : List A) → IsIn x (xs ++ z ∷ []) → IsIn x xs ⊎ (x ≡ z)
in_either x z [] (inl same) = inr same
in_either x z [] (inr none) = absurd none
in_either x z (y ∷ xs) (inl same) = inl (inl same)
in_either x z (y ∷ xs) (inr later) =
    elim (in_either x z xs later) [ inl front ↦ inl (inr front) | inr last ↦ inr last ]

order_more : (vs : List BoundConstraint) (v : BoundConstraint) → AreInOrder vs
    → ((w : BoundConstraint) → IsIn w vs → Comes w v)
    → AreInOrder (vs ++ v ∷ [])
order_more [] v ordered after = (λ w none. absurd none, tt)
order_more (u ∷ vs) v ordered after = (
  λ w here. elim (in_either w v vs here) [
    | inl front ↦ ordered.0 w front
    | inr last ↦ subst (Comes u) (sym last) (after u (inl refl))
  ],
  order_more vs v ordered.1 (λ w here. after w (inr here)),
)

-- ---- one constraint

module _ (is_fact : Fact → Type 0) (spec : Spec) (k : ℕ) (c : Constraint)
    (declared : slice_get spec.constraints k ≡ Some c) where
  pub violated_at : (v : BoundConstraint) → v.constraint ≡ k → IsViolated is_fact spec v
      → IsViolatedAt is_fact c v.binding
  violated_at v same violated =
      let own : violated.constraint ≡ c =
      some_once (sym violated.declared ∙ ap (slice_get spec.constraints) same ∙ declared) in (
        subst (λ d. IsBinding is_fact d.quant v.binding) own violated.is_binding,
        subst (IsUnsatisfied is_fact v.binding) own violated.no_conjunction,
      )
    where
      some_once : {x y : Constraint} → Some x ≡ Some y → x ≡ y
      some_once e = cc

  pub is_violated : (b : Binding) → IsViolatedAt is_fact c b → IsViolated is_fact spec (bound_constraint (k, b))
  is_violated b at = record { constraint = c; declared = declared; is_binding = at.0; no_conjunction = at.1 }

  module _ (last : Option Binding) (b : Binding)
      (next : IsLeastBinding (IsLaterBinding is_fact c.quant last) b) where
    -- what was passed up to the next binding is that binding, or was passed before
    passed_before : (v : BoundConstraint) → IsViolated is_fact spec v → IsPassed k (Some b) v
        → (v ≡ bound_constraint (k, b)) ⊎ IsPassed k last v
    passed_before v violated (inl less) = inr (earlier last v less)
      where
        earlier : (o : Option Binding) (v : BoundConstraint) → v.constraint < k → IsPassed k o v
        earlier None v less = less
        earlier (Some a) v less = inl less
    passed_before v violated (inr here) =
        elim (bindings_apart b v.binding) [
          | inl after ↦ absurd (here.1 after)
          | inr other ↦ elim other [
            | inl same ↦ inl (ap (λ n. record v { constraint = n }) here.0 ∙ ap (λ x. bound_constraint (k, x)) (sym same))
            | inr before ↦ inr (was_passed last next before)
          ]
        ]
      where
        was_passed : (o : Option Binding) → IsLeastBinding (IsLaterBinding is_fact c.quant o) b
            → BindingPrecedes v.binding b → IsPassed k o v
        was_passed None least before =
            absurd (least.none_before v.binding ((violated_at v here.0 violated).0, tt) before)
        was_passed (Some a) least before =
            inr (here.0, λ after. least.none_before v.binding ((violated_at v here.0 violated).0, after) before)

    still_passed : (v : BoundConstraint) → IsPassed k last v → IsPassed k (Some b) v
    still_passed v passed = by_last last next v passed
      where
        by_last : (o : Option Binding) → IsLeastBinding (IsLaterBinding is_fact c.quant o) b
            → (v : BoundConstraint) → IsPassed k o v → IsPassed k (Some b) v
        by_last None least v less = inl less
        by_last (Some a) least v (inl less) = inl less
        by_last (Some a) least v (inr here) =
            inr (here.0, λ after. here.1 (bindings_follow a b v.binding least.of_kind.1 after))

    comes_before : (v : BoundConstraint) → IsPassed k last v → Comes v (bound_constraint (k, b))
    comes_before v passed = by_last last next v passed
      where
        by_last : (o : Option Binding) → IsLeastBinding (IsLaterBinding is_fact c.quant o) b
            → (v : BoundConstraint) → IsPassed k o v → Comes v (bound_constraint (k, b))
        by_last None least v less = inl less
        by_last (Some a) least v (inl less) = inl less
        by_last (Some a) least v (inr here) =
            inr (
              here.0,
              elim (bindings_apart v.binding b) [
                | inl before ↦ before
                | inr other ↦ elim other [
                  | inl same ↦ absurd (here.1 (subst (BindingPrecedes a) (sym same) least.of_kind.1))
                  | inr after ↦ absurd (here.1 (bindings_follow a b v.binding least.of_kind.1 after))
                ]
              ],
            )

    -- the next binding satisfies the constraint
    pub found_same : (vs : List BoundConstraint) → AreFound is_fact spec k last vs
        → (IsUnsatisfied is_fact b c → ⊥)
        → AreFound is_fact spec k (Some b) vs
    found_same vs found satisfied = record {
      in_order = found.in_order;
      all = λ v violated passed. elim (passed_before v violated passed) [
        | inl here ↦
            let itself = subst (IsViolated is_fact spec) here violated in
            absurd (satisfied (violated_at (bound_constraint (k, b)) refl itself).1)
        | inr before ↦ found.all v violated before
      ];
      only = found.only;
      passed = λ v here. still_passed v (found.passed v here);
    }

    -- it doesn't
    pub found_more : (vs : List BoundConstraint) → AreFound is_fact spec k last vs → IsUnsatisfied is_fact b c
        → AreFound is_fact spec k (Some b) (vs ++ bound_constraint (k, b) ∷ [])
    found_more vs found unsatisfied = record {
      in_order = order_more vs (bound_constraint (k, b)) found.in_order (λ w here. comes_before w (found.passed w here));
      all = λ v violated passed. elim (passed_before v violated passed) [
        | inl here ↦ subst (λ x. IsIn x (vs ++ bound_constraint (k, b) ∷ [])) (sym here) (last_in (bound_constraint (k, b)) vs)
        | inr before ↦ in_left v vs (bound_constraint (k, b) ∷ []) (found.all v violated before)
      ];
      only = λ v here. elim (in_either v (bound_constraint (k, b)) vs here) [
        | inl front ↦ found.only v front
        | inr last ↦ subst (IsViolated is_fact spec) (sym last) (is_violated b (next.of_kind.0, unsatisfied))
      ];
      passed = λ v here. elim (in_either v (bound_constraint (k, b)) vs here) [
        | inl front ↦ still_passed v (found.passed v front)
        | inr last ↦ inr (
          ap (λ x. x.constraint) last,
          λ after.
              let itself = subst (BindingPrecedes b) (ap (λ x. x.binding) last) after in
              bindings_one_way b b itself itself,
        )
      ];
    }

  -- no binding is violated
  pub found_sound : (vs : List BoundConstraint) → ((b : Binding) → IsViolatedAt is_fact c b → ⊥)
      → AreFound is_fact spec k None vs → AreFound is_fact spec (k + 1) None vs
  found_sound vs none found = record {
    in_order = found.in_order;
    all = λ v violated less. elim (cases_eq v.constraint k) [
      | inl same ↦ absurd (none v.binding (violated_at v same violated))
      | inr other ↦ found.all v violated (omega (arith, less, other))
    ];
    only = found.only;
    passed = λ v here. let less = found.passed v here in omega (arith, less);
  }

  -- no further binding comes
  pub found_end : (last : Option Binding) (vs : List BoundConstraint)
      → FindsLeastBinding (IsLaterBinding is_fact c.quant last) None
      → AreFound is_fact spec k last vs → AreFound is_fact spec (k + 1) None vs
  found_end last vs none found = record {
    in_order = found.in_order;
    all = λ v violated less. found.all v violated (was_passed v violated less last none);
    only = found.only;
    passed = λ v here. still last v (found.passed v here);
  }
    where
      was_passed : (v : BoundConstraint) → IsViolated is_fact spec v → v.constraint < k + 1 → (o : Option Binding)
          → FindsLeastBinding (IsLaterBinding is_fact c.quant o) None → IsPassed k o v
      was_passed v violated less o none = elim (cases_eq v.constraint k) [
        | inl same ↦ here o none same
        | inr other ↦ earlier o (omega (arith, less, other))
      ]
        where
          earlier : (o : Option Binding) → v.constraint < k → IsPassed k o v
          earlier None less = less
          earlier (Some a) less = inl less

          here : (o : Option Binding) → FindsLeastBinding (IsLaterBinding is_fact c.quant o) None
              → v.constraint ≡ k → IsPassed k o v
          here None none same = absurd (none v.binding ((violated_at v same violated).0, tt))
          here (Some a) none same = inr (same, λ after. none v.binding ((violated_at v same violated).0, after))

      still : (o : Option Binding) (v : BoundConstraint) → IsPassed k o v → v.constraint < k + 1
      still None v less = omega (arith, less)
      still (Some a) v (inl less) = omega (arith, less)
      still (Some a) v (inr here) = omega (arith, here.0)

-- nothing was passed yet
pub found_none : (is_fact : Fact → Type 0) (spec : Spec) → AreFound is_fact spec 0 None []
found_none is_fact spec = record {
  in_order = tt;
  all = λ v violated less. absurd (omega (arith, less));
  only = λ v none. absurd none;
  passed = λ v none. absurd none;
}

-- all constraints were passed
pub found_all : (is_fact : Fact → Type 0) (spec : Spec) (k : ℕ) (vs : List BoundConstraint)
    → length spec.constraints ≤ k
    → AreFound is_fact spec k None vs → AreViolations is_fact spec vs
found_all is_fact spec k vs past found = record {
  in_order = found.in_order;
  all = λ v violated.
      let inside = slice_get_within spec.constraints v.constraint violated.constraint violated.declared in
      found.all v violated (omega (arith, inside, past));
  only = found.only;
}
