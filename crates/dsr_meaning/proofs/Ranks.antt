-- The orders of elements and of what is made of them are those by which the types are compared.
use Rattle.std.proofs.Common.{◌≡◌, ◌<◌, ◌⊎◌, ℕ, inl, inr, refl, sym, ap, ◌∙◌, arith}
use Rattle.std.proofs.lemmas.Bool.{cases_lt}
use Rattle.std.specs.Cmp.{nat_cmp_is}
use Rattle.std.specs.Prelude.{◌↔◌}
use Rattle.std.specs.Ordering.{ordering_then, nat_cmp}
use Rattle.std.specs.declared.cmp.Ordering.{Ordering}
use Rattle.std.specs.declared.cmp.Ordering.TheVariants.{Less, Equal, Greater}
use Rattle.dsr_ir.specs.declared.tuples.Binding.{Binding}
use Rattle.dsr_ir.specs.declared.tuples.Binding.TheVariants.{Once, Each, Pair}
use Rattle.dsr_ir.specs.declared.tuples.Element.{Element}
use Rattle.dsr_ir.specs.declared.tuples.Fact.{Fact}
use Rattle.dsr_ir.specs.declared.tuples.Fact.TheVariants as fact
use Rattle.dsr_ir.specs.declared.tuples.Target.{Target}
use Rattle.dsr_ir.specs.declared.tuples.Target.TheVariants.{Elem, Num}
use Rattle.dsr_ir.specs.contracts.tuples.BindingOrd.TheImpl as binding
use Rattle.dsr_ir.specs.contracts.tuples.ElementOrd.TheImpl as element
use Rattle.dsr_ir.specs.contracts.tuples.FactOrd.TheImpl as facts
use Rattle.dsr_ir.specs.contracts.tuples.InstanceOrd.TheImpl as instance
use Rattle.dsr_ir.specs.contracts.tuples.TargetOrd.TheImpl as target
use Rattle.dsr_meaning.specs.Orders.{BindingPrecedes, FactPrecedes, InstancePrecedes, Precedes, TargetPrecedes, TellsOrder}

-- a comparison of numbers comes out as they lie
nat_cases : (m n : ℕ) → ((m < n) × (nat_cmp m n ≡ Less)) ⊎ (((m ≡ n) × (nat_cmp m n ≡ Equal)) ⊎ ((n < m) × (nat_cmp m n ≡ Greater)))
nat_cases m n = elim (cases_lt m n) [
  | inl less ↦ inl (less, sym (nat_cmp_is m n Less less))
  | inr from ↦ elim (cases_lt n m) [
    | inl more ↦ inr (inr (more, sym (nat_cmp_is m n Greater more)))
    | inr to ↦ let same : m ≡ n = omega arith in inr (inl (same, sym (nat_cmp_is m n Equal same)))
  ]
]

nat_less : (m n : ℕ) → (nat_cmp m n ≡ Less) ↔ (m < n)
nat_less m n = (
  λ e. elim (nat_cases m n) [
    | inl h ↦ h.0
    | inr (inl h) ↦ let both : Less ≡ Equal = sym e ∙ h.1 in absurd cc
    | inr (inr h) ↦ let both : Less ≡ Greater = sym e ∙ h.1 in absurd cc
  ],
  λ less. sym (nat_cmp_is m n Less less),
)

nat_equal : (m n : ℕ) → (nat_cmp m n ≡ Equal) ↔ (m ≡ n)
nat_equal m n = (
  λ e. elim (nat_cases m n) [
    | inl h ↦ let both : Equal ≡ Less = sym e ∙ h.1 in absurd cc
    | inr (inl h) ↦ h.0
    | inr (inr h) ↦ let both : Equal ≡ Greater = sym e ∙ h.1 in absurd cc
  ],
  λ same. sym (nat_cmp_is m n Equal same),
)

pub nat_order : TellsOrder nat_cmp (λ m n. m < n)
nat_order = record { less = nat_less; equal = nat_equal }

-- the first comparison decides where it does, and then the second
then_less : (c d : Ordering) → ordering_then c d ≡ Less → (c ≡ Less) ⊎ ((c ≡ Equal) × (d ≡ Less))
then_less Less d e = inl refl
then_less Equal d e = inr (refl, e)
then_less Greater d e = absurd cc

less_then : (c d : Ordering) → (c ≡ Less) ⊎ ((c ≡ Equal) × (d ≡ Less)) → ordering_then c d ≡ Less
less_then c d (inl e) = ap (λ o. ordering_then o d) e
less_then c d (inr (e, f)) = ap (λ o. ordering_then o d) e ∙ f

then_equal : (c d : Ordering) → ordering_then c d ≡ Equal → (c ≡ Equal) × (d ≡ Equal)
then_equal Less d e = absurd cc
then_equal Equal d e = (refl, e)
then_equal Greater d e = absurd cc

equal_then : (c d : Ordering) → (c ≡ Equal) × (d ≡ Equal) → ordering_then c d ≡ Equal
equal_then c d (e, f) = ap (λ o. ordering_then o d) e ∙ f

module _ {A B : Type 0} (P : A → A → Type 0) (Q : B → B → Type 0) (first : A → A → Ordering) (second : B → B → Ordering) (one : TellsOrder first P) (two : TellsOrder second Q) where
  -- two parts in order, the first before the second
  pub both_less : (a b : A) (c d : B) → (ordering_then (first a b) (second c d) ≡ Less) ↔ (P a b ⊎ ((a ≡ b) × Q c d))
  both_less a b c d = (
    λ e. elim (then_less (first a b) (second c d) e) [
      | inl l ↦ inl ((one.less a b).0 l)
      | inr (s, l) ↦ inr ((one.equal a b).0 s, (two.less c d).0 l)
    ],
    λ h. less_then (first a b) (second c d) (elim h as (λ _. (first a b ≡ Less) ⊎ ((first a b ≡ Equal) × (second c d ≡ Less))) [
      | inl p ↦ inl ((one.less a b).1 p)
      | inr (s, q) ↦ inr ((one.equal a b).1 s, (two.less c d).1 q)
    ]),
  )

  pub both_equal : (a b : A) (c d : B) → (ordering_then (first a b) (second c d) ≡ Equal) ↔ ((a ≡ b) × (c ≡ d))
  both_equal a b c d = (
    λ e. let h = then_equal (first a b) (second c d) e in ((one.equal a b).0 h.0, (two.equal c d).0 h.1),
    λ h. equal_then (first a b) (second c d) ((one.equal a b).1 h.0, (two.equal c d).1 h.1),
  )

-- pairs in order, and their comparison
abbrev IsBeforeBoth : {A B : Type 0} → (A → A → Type 0) → (B → B → Type 0) → A × B → A × B → Type 0
IsBeforeBoth P Q p q = P p.0 q.0 ⊎ ((p.0 ≡ q.0) × Q p.1 q.1)

abbrev both_compared : {A B : Type 0} → (A → A → Ordering) → (B → B → Ordering) → A × B → A × B → Ordering
both_compared first second p q = ordering_then (first p.0 q.0) (second p.1 q.1)

both_order : {A B : Type 0} (P : A → A → Type 0) (Q : B → B → Type 0) (first : A → A → Ordering) (second : B → B → Ordering) → TellsOrder first P → TellsOrder second Q → TellsOrder (both_compared first second) (IsBeforeBoth P Q)
both_order P Q first second one two = record {
  less = λ p q. both_less P Q first second one two p.0 q.0 p.1 q.1;
  equal = λ p q.
      let parts = both_equal P Q first second one two p.0 q.0 p.1 q.1 in
      (λ e. let h = parts.0 e in λ k. (h.0 k, h.1 k), λ e. parts.1 (ap (λ x. x.0) e, ap (λ x. x.1) e));
}

pub element_order : TellsOrder element.ghosts.cmp Precedes
element_order = record {
  less = λ a b. both_less (λ m n. m < n) (λ m n. m < n) nat_cmp nat_cmp nat_order nat_order a.pool b.pool a.slot b.slot;
  equal = λ a b.
      let parts = both_equal (λ m n. m < n) (λ m n. m < n) nat_cmp nat_cmp nat_order nat_order a.pool b.pool a.slot b.slot in
      (λ e. let h = parts.0 e in λ k. record { pool = h.0 k; slot = h.1 k }, λ e. parts.1 (ap (λ x. x.pool) e, ap (λ x. x.slot) e));
}

target_less : (t u : Target) → (target.ghosts.cmp t u ≡ Less) ↔ TargetPrecedes t u
target_less (Elem a) (Elem b) = element_order.less a b
target_less (Elem a) (Num n) = (λ e. tt, λ h. refl)
target_less (Num m) (Elem b) = (λ e. absurd cc, λ h. absurd h)
target_less (Num m) (Num n) = nat_less m n

target_equal : (t u : Target) → (target.ghosts.cmp t u ≡ Equal) ↔ (t ≡ u)
target_equal (Elem a) (Elem b) = (λ e. ap Elem ((element_order.equal a b).0 e), λ e. (element_order.equal a b).1 (let same : a ≡ b = cc in same))
target_equal (Elem a) (Num n) = (λ e. absurd cc, λ e. absurd cc)
target_equal (Num m) (Elem b) = (λ e. absurd cc, λ e. absurd cc)
target_equal (Num m) (Num n) = (λ e. ap Num ((nat_equal m n).0 e), λ e. (nat_equal m n).1 (let same : m ≡ n = cc in same))

pub target_order : TellsOrder target.ghosts.cmp TargetPrecedes
target_order = record { less = target_less; equal = target_equal }

source_order : TellsOrder (both_compared element.ghosts.cmp target.ghosts.cmp) (IsBeforeBoth Precedes TargetPrecedes)
source_order = both_order Precedes TargetPrecedes element.ghosts.cmp target.ghosts.cmp element_order target_order

record_order : TellsOrder (both_compared element.ghosts.cmp nat_cmp) (IsBeforeBoth Precedes (λ m n. m < n))
record_order = both_order Precedes (λ m n. m < n) element.ghosts.cmp nat_cmp element_order nat_order

same_member : (s t : ℕ) (a b : Element) → fact.Member s a ≡ fact.Member t b → (s ≡ t) × (a ≡ b)
same_member s t a b e = (cc, cc)

same_pair : (r q : ℕ) (a b : Element) (x y : Target) → fact.Pair r a x ≡ fact.Pair q b y → (r ≡ q) × ((a ≡ b) × (x ≡ y))
same_pair r q a b x y e = (cc, (cc, cc))

fact_less : (f g : Fact) → (facts.ghosts.cmp f g ≡ Less) ↔ FactPrecedes f g
fact_less (fact.Member s a) (fact.Member t b) = both_less (λ m n. m < n) Precedes nat_cmp element.ghosts.cmp nat_order element_order s t a b
fact_less (fact.Member s a) (fact.Pair r b y) = (λ e. tt, λ h. refl)
fact_less (fact.Pair r a x) (fact.Member t b) = (λ e. absurd cc, λ h. absurd h)
fact_less (fact.Pair r a x) (fact.Pair q b y) = both_less (λ m n. m < n) (IsBeforeBoth Precedes TargetPrecedes) nat_cmp (both_compared element.ghosts.cmp target.ghosts.cmp) nat_order source_order r q (a, x) (b, y)

fact_equal : (f g : Fact) → (facts.ghosts.cmp f g ≡ Equal) ↔ (f ≡ g)
fact_equal (fact.Member s a) (fact.Member t b) =
    let parts = both_equal (λ m n. m < n) Precedes nat_cmp element.ghosts.cmp nat_order element_order s t a b in
    (λ e. let h = parts.0 e in λ k. fact.Member (h.0 k) (h.1 k), λ e. parts.1 (same_member s t a b e))
fact_equal (fact.Member s a) (fact.Pair r b y) = (λ e. absurd cc, λ e. absurd cc)
fact_equal (fact.Pair r a x) (fact.Member t b) = (λ e. absurd cc, λ e. absurd cc)
fact_equal (fact.Pair r a x) (fact.Pair q b y) =
    let parts = both_equal (λ m n. m < n) (IsBeforeBoth Precedes TargetPrecedes) nat_cmp (both_compared element.ghosts.cmp target.ghosts.cmp) nat_order source_order r q (a, x) (b, y) in (
      λ e. let h = parts.0 e in λ k. fact.Pair (h.0 k) (h.1 k).0 (h.1 k).1,
      λ e. let h = same_pair r q a b x y e in parts.1 (h.0, λ k. (h.1.0 k, h.1.1 k)),
    )

pub fact_order : TellsOrder facts.ghosts.cmp FactPrecedes
fact_order = record { less = fact_less; equal = fact_equal }

pub instance_order : TellsOrder instance.ghosts.cmp InstancePrecedes
instance_order = record {
  less = λ i j. both_less (λ m n. m < n) (IsBeforeBoth Precedes (λ m n. m < n)) nat_cmp (both_compared element.ghosts.cmp nat_cmp) nat_order record_order i.rule j.rule (i.elem, i.index) (j.elem, j.index);
  equal = λ i j.
      let parts = both_equal (λ m n. m < n) (IsBeforeBoth Precedes (λ m n. m < n)) nat_cmp (both_compared element.ghosts.cmp nat_cmp) nat_order record_order i.rule j.rule (i.elem, i.index) (j.elem, j.index) in (
        λ e. let h = parts.0 e in λ k. record { rule = h.0 k; elem = (h.1 k).0; index = (h.1 k).1 },
        λ e. parts.1 (ap (λ x. x.rule) e, λ k. ((e k).elem, (e k).index)),
      );
}

same_each : (a b : Element) → Each a ≡ Each b → a ≡ b
same_each a b e = cc

same_two : (a b c d : Element) → Pair a c ≡ Pair b d → (a ≡ b) × (c ≡ d)
same_two a b c d e = (cc, cc)

binding_less : (b c : Binding) → (binding.ghosts.cmp b c ≡ Less) ↔ BindingPrecedes b c
binding_less Once Once = (λ e. absurd cc, λ h. absurd h)
binding_less Once (Each b) = (λ e. tt, λ h. refl)
binding_less Once (Pair b d) = (λ e. tt, λ h. refl)
binding_less (Each a) Once = (λ e. absurd cc, λ h. absurd h)
binding_less (Each a) (Each b) = element_order.less a b
binding_less (Each a) (Pair b d) = (λ e. tt, λ h. refl)
binding_less (Pair a c) Once = (λ e. absurd cc, λ h. absurd h)
binding_less (Pair a c) (Each b) = (λ e. absurd cc, λ h. absurd h)
binding_less (Pair a c) (Pair b d) = both_less Precedes Precedes element.ghosts.cmp element.ghosts.cmp element_order element_order a b c d

binding_equal : (b c : Binding) → (binding.ghosts.cmp b c ≡ Equal) ↔ (b ≡ c)
binding_equal Once Once = (λ e. refl, λ e. refl)
binding_equal Once (Each b) = (λ e. absurd cc, λ e. absurd cc)
binding_equal Once (Pair b d) = (λ e. absurd cc, λ e. absurd cc)
binding_equal (Each a) Once = (λ e. absurd cc, λ e. absurd cc)
binding_equal (Each a) (Each b) = (λ e. ap Each ((element_order.equal a b).0 e), λ e. (element_order.equal a b).1 (same_each a b e))
binding_equal (Each a) (Pair b d) = (λ e. absurd cc, λ e. absurd cc)
binding_equal (Pair a c) Once = (λ e. absurd cc, λ e. absurd cc)
binding_equal (Pair a c) (Each b) = (λ e. absurd cc, λ e. absurd cc)
binding_equal (Pair a c) (Pair b d) =
    let parts = both_equal Precedes Precedes element.ghosts.cmp element.ghosts.cmp element_order element_order a b c d in
    (λ e. let h = parts.0 e in λ k. Pair (h.0 k) (h.1 k), λ e. parts.1 (same_two a b c d e))

pub binding_order : TellsOrder binding.ghosts.cmp BindingPrecedes
binding_order = record { less = binding_less; equal = binding_equal }
