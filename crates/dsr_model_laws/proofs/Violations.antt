-- Where facts are listed, the violated bindings are, and so in order.
use Rattle.std.proofs.Common.{◌≡◌, ◌<◌, ◌⊎◌, ℕ, List, [], ◌∷◌, length, Some, All, inl, inr, refl, sym, subst, ◌∙◌, arith}
use Rattle.std.proofs.lemmas.Bool.{cases_lt}
use Rattle.std.proofs.lemmas.Option.{slice_get_within}
use Rattle.std.specs.Prelude.{slice_get}
use Rattle.dsr_ir.specs.declared.constraints.Constraint.{Constraint}
use Rattle.dsr_ir.specs.declared.constraints.Quant.{Quant}
use Rattle.dsr_ir.specs.declared.constraints.Quant.TheVariants as quants
use Rattle.dsr_ir.specs.declared.declarations.Spec.{Spec}
use Rattle.dsr_ir.specs.declared.tuples.Binding.{Binding}
use Rattle.dsr_ir.specs.declared.tuples.Binding.TheVariants.{Once, Each, Pair}
use Rattle.dsr_ir.specs.declared.tuples.Element.{Element}
use Rattle.dsr_ir.specs.declared.tuples.Fact.{Fact}
use Rattle.dsr_ir.specs.declared.tuples.Fact.TheVariants as facts
use Rattle.dsr_ir.specs.declared.tuples.Target.TheVariants.{Elem, Num}
use Rattle.dsr_meaning.specs.Consistency.{AreInOrder, AreSatisfied, AreViolations, BoundConstraint, Comes, ConjHolds, IsBinding, IsViolated}
use Rattle.dsr_meaning.specs.Counting.{IsIn}
use Rattle.dsr_meaning.specs.Orders.{BindingPrecedes, Precedes}
use Rattle.dsr_meaning.specs.Truth.{LiteralHolds}
use Rattle.dsr_meaning.proofs.Ordered.{bindings_apart, elements_follow}
use Rattle.dsr_model_laws.specs.Deciding.{IsDecided}
use Rattle.dsr_model_laws.proofs.Ways.{by_logic}
use Rattle.dsr_model_laws.proofs.Listed.{IsListed, alike, nothing, one, when, each, below, known, taken_to, all_decided, some_one, opposite, numbers}
use Rattle.dsr_model_laws.proofs.Truths.{members, literal_decided}

pair_of : (rel : ℕ) (fact : Fact) → IsListed (λ (p : Element × Element). fact ≡ facts.Pair rel p.0 (Elem p.1))
pair_of rel (facts.Member s x) = nothing (λ (p : Element × Element). facts.Member s x ≡ facts.Pair rel p.0 (Elem p.1)) (λ p (q : facts.Member s x ≡ facts.Pair rel p.0 (Elem p.1)). absurd cc)
pair_of rel (facts.Pair r x (Num n)) = nothing (λ (p : Element × Element). facts.Pair r x (Num n) ≡ facts.Pair rel p.0 (Elem p.1)) (λ p (q : facts.Pair r x (Num n) ≡ facts.Pair rel p.0 (Elem p.1)). absurd (let t : Num n ≡ Elem p.1 = cc in cc))
pair_of rel (facts.Pair r x (Elem y)) =
    alike (λ (p : Element × Element). (r ≡ rel) × (p ≡ (x, y))) (λ (p : Element × Element). facts.Pair r x (Elem y) ≡ facts.Pair rel p.0 (Elem p.1)) (λ p h. λ i. facts.Pair (h.0 i) ((sym h.1 i).0) (Elem ((sym h.1 i).1)))
    (λ p (q : facts.Pair r x (Elem y) ≡ facts.Pair rel p.0 (Elem p.1)). let a : r ≡ rel = cc in let b : p.0 ≡ x = cc in let t : Elem y ≡ Elem p.1 = cc in let c : p.1 ≡ y = cc in (a, λ i. (b i, c i)))
    (when (r ≡ rel) (λ (p : Element × Element). p ≡ (x, y)) (numbers r rel) (λ _. one (x, y)))

module _ (is_fact : Fact → Type 0) where
  is_once : (b : Binding) → IsBinding is_fact quants.Once b → b ≡ Once
  is_once Once h = refl
  is_once (Each e) h = absurd h
  is_once (Pair e f) h = absurd h

  each_of : (set : ℕ) (b : Binding) → IsBinding is_fact (quants.Each set) b → (e : Element) × is_fact (facts.Member set e) × (b ≡ Each e)
  each_of set Once h = absurd h
  each_of set (Each e) h = (e, h, refl)
  each_of set (Pair e f) h = absurd h

  pairs_of : (rel : ℕ) (b : Binding) → IsBinding is_fact (quants.Pairs rel) b → (p : Element × Element) × is_fact (facts.Pair rel p.0 (Elem p.1)) × (b ≡ Pair p.0 p.1)
  pairs_of rel Once h = absurd h
  pairs_of rel (Each e) h = absurd h
  pairs_of rel (Pair e f) h = ((e, f), h, refl)

  module _ (listed : IsListed is_fact) where
    bindings : (quant : Quant) → IsListed (IsBinding is_fact quant)
    bindings quants.Once = alike (λ (b : Binding). b ≡ Once) (IsBinding is_fact quants.Once) (λ b e. subst (IsBinding is_fact quants.Once) (sym e) tt) is_once (one Once)
    bindings (quants.Each set) =
        alike (λ (b : Binding). (e : Element) × is_fact (facts.Member set e) × (b ≡ Each e)) (IsBinding is_fact (quants.Each set)) (λ b h. subst (IsBinding is_fact (quants.Each set)) (sym h.2) h.1) (each_of set)
        (each (λ e. is_fact (facts.Member set e)) (λ e b. b ≡ Each e) (members is_fact listed set) (λ e _. one (Each e)))
    bindings (quants.Pairs rel) =
        alike (λ (b : Binding). (p : Element × Element) × is_fact (facts.Pair rel p.0 (Elem p.1)) × (b ≡ Pair p.0 p.1)) (IsBinding is_fact (quants.Pairs rel)) (λ b h. subst (IsBinding is_fact (quants.Pairs rel)) (sym h.2) h.1) (pairs_of rel)
        (each (λ (p : Element × Element). is_fact (facts.Pair rel p.0 (Elem p.1))) (λ p b. b ≡ Pair p.0 p.1)
        (taken_to is_fact (λ (p : Element × Element). facts.Pair rel p.0 (Elem p.1)) listed (pair_of rel))
        (λ p _. one (Pair p.0 p.1)))

    abbrev NoConj : Constraint → Binding → Type 0
    NoConj c b = All (λ conj. ConjHolds is_fact b conj → ⊥) c.conjs

    no_conj : (c : Constraint) (b : Binding) → IsDecided (NoConj c b)
    no_conj c b = all_decided (λ conj. ConjHolds is_fact b conj → ⊥) (λ conj. opposite (all_decided (LiteralHolds is_fact b) (literal_decided is_fact listed b) conj.literals)) c.conjs

    -- the binding is one of the constraint, and violated
    abbrev Violates : ℕ → Constraint → BoundConstraint → Type 0
    Violates k c v =
        (b : Binding) × IsBinding is_fact c.quant b × (NoConj c b × (v ≡ record { constraint = k; binding = b }))

    violations : (spec : Spec) → IsListed (IsViolated is_fact spec)
    violations spec =
        alike (λ (v : BoundConstraint). (k : ℕ) × (k < length spec.constraints) × ((c : Constraint) × (slice_get spec.constraints k ≡ Some c) × Violates k c v)) (IsViolated is_fact spec)
        (λ v h. subst (IsViolated is_fact spec) (sym h.2.2.2.1) (record { constraint = h.2.0; declared = h.2.1; is_binding = h.2.2.1; no_conjunction = h.2.2.2.0 }))
        (λ v h. (v.constraint, slice_get_within spec.constraints v.constraint h.constraint h.declared, (h.constraint, h.declared, (v.binding, h.is_binding, (h.no_conjunction, refl)))))
        (each (λ (k : ℕ). k < length spec.constraints) (λ k v. (c : Constraint) × (slice_get spec.constraints k ≡ Some c) × Violates k c v) (below (length spec.constraints))
        (λ k _. each (λ (c : Constraint). slice_get spec.constraints k ≡ Some c) (Violates k) (known (slice_get spec.constraints k))
        (λ c _. each (IsBinding is_fact c.quant) (λ b v. NoConj c b × (v ≡ record { constraint = k; binding = b })) (bindings c.quant)
        (λ b _. when (NoConj c b) (λ (v : BoundConstraint). v ≡ record { constraint = k; binding = b }) (no_conj c b) (λ _. one (record { constraint = k; binding = b }))))))

    pub satisfied_decided : (spec : Spec) → IsDecided (AreSatisfied is_fact spec)
    satisfied_decided spec = by_logic (λ n v h. n (v, h)) (λ k p. k p.0 p.1) (opposite (some_one (IsViolated is_fact spec) (violations spec)))

-- what comes before comes before what comes later

pairs_on : (a a' b b' c c' : Element) → BindingPrecedes (Pair a a') (Pair b b') → BindingPrecedes (Pair b b') (Pair c c') → BindingPrecedes (Pair a a') (Pair c c')
pairs_on a a' b b' c c' (inl p) (inl q) = inl (elements_follow a b c p q)
pairs_on a a' b b' c c' (inl p) (inr (e, q)) = inl (subst (Precedes a) e p)
pairs_on a a' b b' c c' (inr (e, p)) (inl q) = inl (subst (λ x. Precedes x c) (sym e) q)
pairs_on a a' b b' c c' (inr (e, p)) (inr (f, q)) = inr (e ∙ f, elements_follow a' b' c' p q)

bindings_on : (a b c : Binding) → BindingPrecedes a b → BindingPrecedes b c → BindingPrecedes a c
bindings_on Once Once c p q = absurd p
bindings_on Once (Each b) Once p q = absurd q
bindings_on Once (Pair b b') Once p q = absurd q
bindings_on Once (Each b) (Each c) p q = tt
bindings_on Once (Each b) (Pair c c') p q = tt
bindings_on Once (Pair b b') (Each c) p q = tt
bindings_on Once (Pair b b') (Pair c c') p q = tt
bindings_on (Each a) Once c p q = absurd p
bindings_on (Each a) (Each b) Once p q = absurd q
bindings_on (Each a) (Each b) (Each c) p q = elements_follow a b c p q
bindings_on (Each a) (Each b) (Pair c c') p q = tt
bindings_on (Each a) (Pair b b') Once p q = absurd q
bindings_on (Each a) (Pair b b') (Each c) p q = absurd q
bindings_on (Each a) (Pair b b') (Pair c c') p q = tt
bindings_on (Pair a a') Once c p q = absurd p
bindings_on (Pair a a') (Each b) c p q = absurd p
bindings_on (Pair a a') (Pair b b') Once p q = absurd q
bindings_on (Pair a a') (Pair b b') (Each c) p q = absurd q
bindings_on (Pair a a') (Pair b b') (Pair c c') p q = pairs_on a a' b b' c c' p q

comes_on : (v w x : BoundConstraint) → Comes v w → Comes w x → Comes v x
comes_on v w x (inl p) (inl q) = inl (omega (arith, p, q))
comes_on v w x (inl p) (inr (e, q)) = inl (omega (arith, p, e))
comes_on v w x (inr (e, p)) (inl q) = inl (omega (arith, e, q))
comes_on v w x (inr (e, p)) (inr (f, q)) = inr (e ∙ f, bindings_on v.binding w.binding x.binding p q)

-- of two bound constraints, one comes before the other, or they are the same
comes_apart : (v w : BoundConstraint) → Comes v w ⊎ ((v ≡ w) ⊎ Comes w v)
comes_apart v w = elim (cases_lt v.constraint w.constraint) [
  | inl less ↦ inl (inl less)
  | inr from ↦ elim (cases_lt w.constraint v.constraint) [
    | inl more ↦ inr (inr (inl more))
    | inr to ↦
        let same : v.constraint ≡ w.constraint = omega arith in
        elim (bindings_apart v.binding w.binding) [
          | inl before ↦ inl (inr (same, before))
          | inr (inl binding) ↦ inr (inl (λ k. record { constraint = same k; binding = binding k }))
          | inr (inr behind) ↦ inr (inr (inr (sym same, behind)))
        ]
  ]
]

-- the list with one thing more in its place
record IsPut (v : BoundConstraint) (old new : List BoundConstraint) : Type 0 where
  pub ordered : AreInOrder new
  pub all : (w : BoundConstraint) → (w ≡ v) ⊎ IsIn w old → IsIn w new
  pub only : (w : BoundConstraint) → IsIn w new → (w ≡ v) ⊎ IsIn w old

put : (v : BoundConstraint) (ws : List BoundConstraint) → AreInOrder ws → (xs : List BoundConstraint) × IsPut v ws xs
put v [] order = (v ∷ [], record { ordered = (λ w i. absurd i, tt); all = λ w h. h; only = λ w h. h })
put v (w ∷ ws) order = elim (comes_apart v w) as (λ _. (xs : List BoundConstraint) × IsPut v (w ∷ ws) xs) [
  | inl before ↦ (
    v ∷ w ∷ ws,
    record {
      ordered = (λ x i. elim i as (λ _. Comes v x) [ inl e ↦ subst (Comes v) (sym e) before | inr j ↦ comes_on v w x before (order.0 x j) ], order);
      all = λ x h. h;
      only = λ x h. h;
    },
  )
  | inr o ↦ elim o as (λ _. (xs : List BoundConstraint) × IsPut v (w ∷ ws) xs) [
    | inl same ↦ (w ∷ ws, record { ordered = order; all = λ x h. elim h as (λ _. IsIn x (w ∷ ws)) [ inl e ↦ inl (e ∙ same) | inr i ↦ i ]; only = λ x i. inr i })
    | inr after ↦
        let rest = put v ws order.1 in (
          w ∷ rest.0,
          record {
            ordered = (λ x i. elim (rest.1.only x i) as (λ _. Comes w x) [ inl e ↦ subst (Comes w) (sym e) after | inr j ↦ order.0 x j ], rest.1.ordered);
            all = λ x h. elim h as (λ _. IsIn x (w ∷ rest.0)) [ inl e ↦ inr (rest.1.all x (inl e)) | inr i ↦ elim i as (λ _. IsIn x (w ∷ rest.0)) [ inl e ↦ inl e | inr j ↦ inr (rest.1.all x (inr j)) ] ];
            only = λ x h. elim h as (λ _. (x ≡ v) ⊎ IsIn x (w ∷ ws)) [ inl e ↦ inr (inl e) | inr i ↦ elim (rest.1.only x i) as (λ _. (x ≡ v) ⊎ IsIn x (w ∷ ws)) [ inl e ↦ inl e | inr j ↦ inr (inr j) ] ];
          },
        )
  ]
]

-- the list in order
record IsSorted (vs xs : List BoundConstraint) : Type 0 where
  pub ordered : AreInOrder xs
  pub all : (w : BoundConstraint) → IsIn w vs → IsIn w xs
  pub only : (w : BoundConstraint) → IsIn w xs → IsIn w vs

sorted : (vs : List BoundConstraint) → (xs : List BoundConstraint) × IsSorted vs xs
sorted [] = ([], record { ordered = tt; all = λ w i. i; only = λ w i. i })
sorted (v ∷ vs) =
    let rest = sorted vs in
    let it = put v rest.0 rest.1.ordered in (
      it.0,
      record {
        ordered = it.1.ordered;
        all = λ w h. it.1.all w (elim h as (λ _. (w ≡ v) ⊎ IsIn w rest.0) [ inl e ↦ inl e | inr i ↦ inr (rest.1.all w i) ]);
        only = λ w i. elim (it.1.only w i) as (λ _. IsIn w (v ∷ vs)) [ inl e ↦ inl e | inr j ↦ inr (rest.1.only w j) ];
      },
    )

pub in_order : (is_fact : Fact → Type 0) → IsListed is_fact → (spec : Spec) → (vs : List BoundConstraint) × AreViolations is_fact spec vs
in_order is_fact listed spec =
    let l = violations is_fact listed spec in
    let s = sorted l.things in
    (s.0, record { in_order = s.1.ordered; all = λ v h. s.1.all v (l.all v h); only = λ v i. l.only v (s.1.only v i) })
