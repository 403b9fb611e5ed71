-- Elements and bindings stand in one order, so the violated bindings have one list.
use Rattle.std.proofs.Common.{◌≡◌, ◌⊎◌, ℕ, List, [], ◌∷◌, Some, inl, inr, refl, sym, ap, subst, ◌∙◌, arith}
use Rattle.std.proofs.lemmas.Bool.{cases_lt}
use Rattle.std.specs.Prelude.{slice_get}
use Rattle.dsr_ir.specs.declared.declarations.Spec.{Spec}
use Rattle.dsr_ir.specs.declared.tuples.Binding.{Binding}
use Rattle.dsr_ir.specs.declared.tuples.Binding.TheVariants.{Once, Each, Pair}
use Rattle.dsr_ir.specs.declared.tuples.Element.{Element}
use Rattle.dsr_ir.specs.declared.tuples.Fact.{Fact}
use Rattle.dsr_meaning.specs.Consistency.{AreInOrder, AreViolations, BoundConstraint, Comes, IsFirstViolated, IsViolated}
use Rattle.dsr_meaning.specs.Orders.{BindingPrecedes, Precedes}
use Rattle.dsr_meaning.specs.Counting.{IsIn}

-- no element comes before one that comes before it
pub one_way : (a b : Element) → Precedes a b → Precedes b a → ⊥
one_way a b (inl p) (inl q) = omega arith
one_way a b (inl p) (inr (e, q)) = omega (arith, e)
one_way a b (inr (e, p)) (inl q) = omega (arith, e)
one_way a b (inr (e, p)) (inr (f, q)) = omega arith

-- nor before itself
pub none_precedes_itself : (e : Element) → Precedes e e → ⊥
none_precedes_itself e before = one_way e e before before

-- what comes before comes before what comes later
pub elements_follow : (a b c : Element) → Precedes a b → Precedes b c → Precedes a c
elements_follow a b c (inl p) (inl q) = inl (omega (arith, p, q))
elements_follow a b c (inl p) (inr (e, q)) = inl (omega (arith, p, e))
elements_follow a b c (inr (e, p)) (inl q) = inl (omega (arith, e, q))
elements_follow a b c (inr (e, p)) (inr (f, q)) = inr (e ∙ f, omega (arith, p, q))

pub same_element : (e f : Element) → e.pool ≡ f.pool → e.slot ≡ f.slot → e ≡ f
same_element e f p q = λ k. record { pool = p k; slot = q k }

pairs_one_way : (a a' b b' : Element) → BindingPrecedes (Pair a a') (Pair b b') → BindingPrecedes (Pair b b') (Pair a a') → ⊥
pairs_one_way a a' b b' (inl p) (inl q) = one_way a b p q
pairs_one_way a a' b b' (inl p) (inr (e, q)) = let same : Precedes a a = subst (λ x. Precedes a x) e p in one_way a a same same
pairs_one_way a a' b b' (inr (e, p)) (inl q) = let same : Precedes b b = subst (λ x. Precedes b x) e q in one_way b b same same
pairs_one_way a a' b b' (inr (e, p)) (inr (f, q)) = one_way a' b' p q

pub bindings_one_way : (a b : Binding) → BindingPrecedes a b → BindingPrecedes b a → ⊥
bindings_one_way Once Once p q = absurd p
bindings_one_way Once (Each b) p q = absurd q
bindings_one_way Once (Pair b b') p q = absurd q
bindings_one_way (Each a) Once p q = absurd p
bindings_one_way (Each a) (Each b) p q = one_way a b p q
bindings_one_way (Each a) (Pair b b') p q = absurd q
bindings_one_way (Pair a a') Once p q = absurd p
bindings_one_way (Pair a a') (Each b) p q = absurd p
bindings_one_way (Pair a a') (Pair b b') p q = pairs_one_way a a' b b' p q

comes_one_way : (v w : BoundConstraint) → Comes v w → Comes w v → ⊥
comes_one_way v w (inl p) (inl q) = omega arith
comes_one_way v w (inl p) (inr (e, q)) = omega (arith, e)
comes_one_way v w (inr (e, p)) (inl q) = omega (arith, e)
comes_one_way v w (inr (e, p)) (inr (f, q)) = bindings_one_way v.binding w.binding p q

same_first : (v w : BoundConstraint) (vs ws : List BoundConstraint) → AreInOrder (v ∷ vs) → AreInOrder (w ∷ ws) → IsIn v (w ∷ ws) → IsIn w (v ∷ vs) → v ≡ w
same_first v w vs ws a b (inl e) j = e
same_first v w vs ws a b (inr i) (inl e) = sym e
same_first v w vs ws a b (inr i) (inr j) = absurd (comes_one_way v w (a.0 w j) (b.0 v i))

behind : (v w : BoundConstraint) (vs ws : List BoundConstraint) → AreInOrder (v ∷ vs) → v ≡ w → ((x : BoundConstraint) → IsIn x (v ∷ vs) → IsIn x (w ∷ ws)) → (x : BoundConstraint) → IsIn x vs → IsIn x ws
behind v w vs ws a e h x i = elim (h x (inr i)) as (λ _. IsIn x ws) [
  | inl f ↦ let itself : Comes v v = subst (λ y. Comes v y) (f ∙ sym e) (a.0 x i) in absurd (comes_one_way v v itself itself)
  | inr j ↦ j
]

one_order : (vs ws : List BoundConstraint) → AreInOrder vs → AreInOrder ws → ((x : BoundConstraint) → IsIn x vs → IsIn x ws) → ((x : BoundConstraint) → IsIn x ws → IsIn x vs) → vs ≡ ws
one_order [] [] a b f g = refl
one_order [] (w ∷ ws) a b f g = absurd (g w (inl refl))
one_order (v ∷ vs) [] a b f g = absurd (f v (inl refl))
one_order (v ∷ vs) (w ∷ ws) a b f g =
    let first = same_first v w vs ws a b (f v (inl refl)) (g w (inl refl)) in
    let rest = one_order vs ws a.1 b.1 (behind v w vs ws a first f) (behind w v ws vs b (sym first) g) in
    λ i. first i ∷ rest i

pub violations_once : (is_fact : Fact → Type 0) (spec : Spec) (vs ws : List BoundConstraint) → AreViolations is_fact spec vs → AreViolations is_fact spec ws → vs ≡ ws
violations_once is_fact spec vs ws a b = one_order vs ws a.in_order b.in_order (λ x i. b.all x (a.only x i)) (λ x i. a.all x (b.only x i))

-- of two elements, one comes before the other, or they are the same
elements_apart : (a b : Element) → Precedes a b ⊎ ((a ≡ b) ⊎ Precedes b a)
elements_apart a b = elim (cases_lt a.pool b.pool) [
  | inl less ↦ inl (inl less)
  | inr from ↦ elim (cases_lt b.pool a.pool) [
    | inl more ↦ inr (inr (inl more))
    | inr to ↦
        let pool : a.pool ≡ b.pool = omega arith in
        elim (cases_lt a.slot b.slot) [
          | inl less ↦ inl (inr (pool, less))
          | inr above ↦ elim (cases_lt b.slot a.slot) [
            | inl more ↦ inr (inr (inr (sym pool, more)))
            | inr below ↦ let slot : a.slot ≡ b.slot = omega arith in inr (inl (λ k. record { pool = pool k; slot = slot k }))
          ]
        ]
  ]
]

pairs_apart : (a b c d : Element) → BindingPrecedes (Pair a b) (Pair c d) ⊎ ((Pair a b ≡ Pair c d) ⊎ BindingPrecedes (Pair c d) (Pair a b))
pairs_apart a b c d = elim (elements_apart a c) [
  | inl before ↦ inl (inl before)
  | inr (inr behind) ↦ inr (inr (inl behind))
  | inr (inl first) ↦ elim (elements_apart b d) [
    | inl before ↦ inl (inr (first, before))
    | inr (inr behind) ↦ inr (inr (inr (sym first, behind)))
    | inr (inl second) ↦ inr (inl (λ k. Pair (first k) (second k)))
  ]
]

pub bindings_apart : (b c : Binding) → BindingPrecedes b c ⊎ ((b ≡ c) ⊎ BindingPrecedes c b)
bindings_apart Once Once = inr (inl refl)
bindings_apart Once (Each b) = inl tt
bindings_apart Once (Pair b d) = inl tt
bindings_apart (Each a) Once = inr (inr tt)
bindings_apart (Each a) (Each b) = elim (elements_apart a b) [ inl before ↦ inl before | inr (inl same) ↦ inr (inl (ap Each same)) | inr (inr behind) ↦ inr (inr behind) ]
bindings_apart (Each a) (Pair b d) = inl tt
bindings_apart (Pair a c) Once = inr (inr tt)
bindings_apart (Pair a c) (Each b) = inr (inr tt)
bindings_apart (Pair a c) (Pair b d) = pairs_apart a c b d

same_place : (order : List ℕ) (k m n : ℕ) → slice_get order k ≡ Some m → slice_get order k ≡ Some n → m ≡ n
same_place order k m n p q = let both : Some m ≡ Some n = sym p ∙ q in cc

pub first_once : (is_fact : Fact → Type 0) (spec : Spec) (order : List ℕ) (v w : BoundConstraint) → IsFirstViolated is_fact spec order v → IsFirstViolated is_fact spec order w → v ≡ w
first_once is_fact spec order v w p q = elim (cases_lt p.at q.at) [
  | inl less ↦ absurd (q.none_before p.at v less p.placed p.violated)
  | inr from ↦ elim (cases_lt q.at p.at) [
    | inl more ↦ absurd (p.none_before q.at w more q.placed q.violated)
    | inr to ↦
        let at : q.at ≡ p.at = omega arith in
        let constraint : v.constraint ≡ w.constraint = same_place order p.at v.constraint w.constraint p.placed (ap (slice_get order) (sym at) ∙ q.placed) in
        elim (bindings_apart v.binding w.binding) [
          | inl before ↦ absurd (q.least v.binding (subst (λ n. IsViolated is_fact spec (record { constraint = n; binding = v.binding })) constraint p.violated) before)
          | inr (inl same) ↦ λ k. record { constraint = constraint k; binding = same k }
          | inr (inr behind) ↦ absurd (p.least w.binding (subst (λ n. IsViolated is_fact spec (record { constraint = n; binding = w.binding })) (sym constraint) q.violated) behind)
        ]
  ]
]
