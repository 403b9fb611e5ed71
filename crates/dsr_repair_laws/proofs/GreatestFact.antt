-- Of listed facts one is the greatest.
use Rattle.std.proofs.Common.{◌≡◌, ◌<◌, ◌⊎◌, ◌∙◌, ℕ, List, [], ◌∷◌, Option, None, Some, inl, inr, refl, sym, ap, subst, arith}
use Rattle.std.proofs.lemmas.Bool.{cases_lt}
use Rattle.std.proofs.lemmas.Option.{same_Some}
use Rattle.dsr_model_laws.proofs.Instances.{elements, targets}
use Rattle.dsr_model_laws.proofs.Listed.{IsListed, alike, numbers, those}
use Rattle.dsr_model_laws.proofs.Ways.{both, by_logic}
use Rattle.dsr_model_laws.specs.Deciding.{IsDecided}
use Rattle.dsr_ir.specs.declared.constraints.Measure.{Measure}
use Rattle.dsr_ir.specs.declared.constraints.Measure.TheVariants.{Into, Out, Whole}
use Rattle.dsr_ir.specs.declared.tuples.Binding.{Binding}
use Rattle.dsr_ir.specs.declared.tuples.Element.{Element}
use Rattle.dsr_ir.specs.declared.tuples.Fact.{Fact}
use Rattle.dsr_ir.specs.declared.tuples.Fact.TheVariants.{Member, Pair}
use Rattle.dsr_ir.specs.declared.tuples.Target.{Target}
use Rattle.dsr_ir.specs.declared.tuples.Target.TheVariants.{Elem, Num}
use Rattle.dsr_meaning.specs.Counting.{IsIn}
use Rattle.dsr_meaning.specs.Looking.{IsCounted, IsGreatestFact}
use Rattle.dsr_meaning.specs.Orders.{FactPrecedes, Precedes, TargetPrecedes}
use Rattle.dsr_meaning.specs.Truth.{element_of}
use Rattle.dsr_plan_laws.proofs.KnownSets.{maybe_same}

-- ---- an order of which one is the greatest

-- what comes before what comes before comes before, nothing comes before itself, and of two that differ one comes first
record IsOrder {A : Type 0} (Before : A → A → Type 0) : Type 0 where
  through : (x y z : A) → Before x y → Before y z → Before x z
  once : (x : A) → Before x x → ⊥
  apart : (x y : A) → Before x y ⊎ ((x ≡ y) ⊎ Before y x)

numbers_ordered : IsOrder (λ (m n : ℕ). m < n)
numbers_ordered = record {
  through = λ x y z p q. omega (arith, p, q);
  once = λ x p. omega (arith, p);
  apart = λ x y. elim (cases_lt x y) as (λ _. (x < y) ⊎ ((x ≡ y) ⊎ (y < x))) [
    | inl less ↦ inl less
    | inr from ↦ elim (cases_lt y x) as (λ _. (x < y) ⊎ ((x ≡ y) ⊎ (y < x))) [ inl more ↦ inr (inr more) | inr to ↦ inr (inl (omega (arith, from, to))) ]
  ];
}

-- by the one order, and then by the other one
abbrev InTurn : {A B : Type 0} → (A → A → Type 0) → (B → B → Type 0) → A → A → B → B → Type 0
InTurn P Q a b x y = P a b ⊎ ((a ≡ b) × Q x y)

in_turn_through : {A B : Type 0} (P : A → A → Type 0) (Q : B → B → Type 0) → IsOrder P → IsOrder Q → (a b c : A) (x y z : B) → InTurn P Q a b x y → InTurn P Q b c y z → InTurn P Q a c x z
in_turn_through P Q first second a b c x y z (inl p) (inl q) = inl (first.through a b c p q)
in_turn_through P Q first second a b c x y z (inl p) (inr q) = inl (subst (P a) q.0 p)
in_turn_through P Q first second a b c x y z (inr p) (inl q) = inl (subst (λ k. P k c) (sym p.0) q)
in_turn_through P Q first second a b c x y z (inr p) (inr q) = inr (p.0 ∙ q.0, second.through x y z p.1 q.1)

in_turn_once : {A B : Type 0} (P : A → A → Type 0) (Q : B → B → Type 0) → IsOrder P → IsOrder Q → (a : A) (x : B) → InTurn P Q a a x x → ⊥
in_turn_once P Q first second a x (inl p) = first.once a p
in_turn_once P Q first second a x (inr q) = second.once x q.1

-- either way, or the same
abbrev Apart : {A B : Type 0} → (A → A → Type 0) → (B → B → Type 0) → A → A → B → B → Type 0
Apart P Q a b x y = InTurn P Q a b x y ⊎ (((a ≡ b) × (x ≡ y)) ⊎ InTurn P Q b a y x)

in_turn_apart : {A B : Type 0} (P : A → A → Type 0) (Q : B → B → Type 0) → IsOrder P → IsOrder Q → (a b : A) (x y : B) → Apart P Q a b x y
in_turn_apart P Q first second a b x y = elim (first.apart a b) as (λ _. Apart P Q a b x y) [
  | inl before ↦ inl (inl before)
  | inr (inr behind) ↦ inr (inr (inl behind))
  | inr (inl same) ↦ elim (second.apart x y) as (λ _. Apart P Q a b x y) [
    | inl before ↦ inl (inr (same, before))
    | inr (inr behind) ↦ inr (inr (inr (sym same, behind)))
    | inr (inl too) ↦ inr (inl (same, too))
  ]
]

-- ---- facts are ordered

elements_ordered : IsOrder Precedes
elements_ordered = record {
  through = λ a b c. in_turn_through (λ m n. m < n) (λ m n. m < n) numbers_ordered numbers_ordered a.pool b.pool c.pool a.slot b.slot c.slot;
  once = λ a. in_turn_once (λ m n. m < n) (λ m n. m < n) numbers_ordered numbers_ordered a.pool a.slot;
  apart = λ a b. elim (in_turn_apart (λ m n. m < n) (λ m n. m < n) numbers_ordered numbers_ordered a.pool b.pool a.slot b.slot) as (λ _. Precedes a b ⊎ ((a ≡ b) ⊎ Precedes b a)) [
    | inl before ↦ inl before
    | inr (inl same) ↦ inr (inl (λ i. record { pool = same.0 i; slot = same.1 i }))
    | inr (inr behind) ↦ inr (inr behind)
  ];
}

targets_through : (x y z : Target) → TargetPrecedes x y → TargetPrecedes y z → TargetPrecedes x z
targets_through (Elem a) (Elem b) (Elem c) p q = elements_ordered.through a b c p q
targets_through (Elem a) (Elem b) (Num n) p q = tt
targets_through (Elem a) (Num m) (Elem c) p q = absurd q
targets_through (Elem a) (Num m) (Num n) p q = tt
targets_through (Num k) (Elem b) z p q = absurd p
targets_through (Num k) (Num m) (Elem c) p q = absurd q
targets_through (Num k) (Num m) (Num n) p q = omega (arith, p, q)

targets_once : (x : Target) → TargetPrecedes x x → ⊥
targets_once (Elem a) p = elements_ordered.once a p
targets_once (Num n) p = omega (arith, p)

targets_apart : (x y : Target) → TargetPrecedes x y ⊎ ((x ≡ y) ⊎ TargetPrecedes y x)
targets_apart (Elem a) (Elem b) = elim (elements_ordered.apart a b) as (λ _. Precedes a b ⊎ ((Elem a ≡ Elem b) ⊎ Precedes b a)) [ inl p ↦ inl p | inr (inl e) ↦ inr (inl (ap Elem e)) | inr (inr q) ↦ inr (inr q) ]
targets_apart (Elem a) (Num n) = inl tt
targets_apart (Num m) (Elem b) = inr (inr tt)
targets_apart (Num m) (Num n) = elim (numbers_ordered.apart m n) as (λ _. (m < n) ⊎ ((Num m ≡ Num n) ⊎ (n < m))) [ inl p ↦ inl p | inr (inl e) ↦ inr (inl (ap Num e)) | inr (inr q) ↦ inr (inr q) ]

targets_ordered : IsOrder TargetPrecedes
targets_ordered = record { through = targets_through; once = targets_once; apart = targets_apart }

-- a source and a target
abbrev EndsPrecede : Element × Target → Element × Target → Type 0
EndsPrecede p q = Precedes p.0 q.0 ⊎ ((p.0 ≡ q.0) × TargetPrecedes p.1 q.1)

ends_ordered : IsOrder EndsPrecede
ends_ordered = record {
  through = λ p q r. in_turn_through Precedes TargetPrecedes elements_ordered targets_ordered p.0 q.0 r.0 p.1 q.1 r.1;
  once = λ p. in_turn_once Precedes TargetPrecedes elements_ordered targets_ordered p.0 p.1;
  apart = λ p q. elim (in_turn_apart Precedes TargetPrecedes elements_ordered targets_ordered p.0 q.0 p.1 q.1) as (λ _. EndsPrecede p q ⊎ ((p ≡ q) ⊎ EndsPrecede q p)) [
    | inl before ↦ inl before
    | inr (inl same) ↦ inr (inl (λ i. (same.0 i, same.1 i)))
    | inr (inr behind) ↦ inr (inr behind)
  ];
}

facts_through : (f g h : Fact) → FactPrecedes f g → FactPrecedes g h → FactPrecedes f h
facts_through (Member r a) (Member s b) (Member t c) p q = in_turn_through (λ m n. m < n) Precedes numbers_ordered elements_ordered r s t a b c p q
facts_through (Member r a) (Member s b) (Pair t c z) p q = tt
facts_through (Member r a) (Pair s b y) (Member t c) p q = absurd q
facts_through (Member r a) (Pair s b y) (Pair t c z) p q = tt
facts_through (Pair r a x) (Member s b) h p q = absurd p
facts_through (Pair r a x) (Pair s b y) (Member t c) p q = absurd q
facts_through (Pair r a x) (Pair s b y) (Pair t c z) p q = in_turn_through (λ m n. m < n) EndsPrecede numbers_ordered ends_ordered r s t (a, x) (b, y) (c, z) p q

facts_once : (f : Fact) → FactPrecedes f f → ⊥
facts_once (Member s a) p = in_turn_once (λ m n. m < n) Precedes numbers_ordered elements_ordered s a p
facts_once (Pair r a x) p = in_turn_once (λ m n. m < n) EndsPrecede numbers_ordered ends_ordered r (a, x) p

pub facts_apart : (f g : Fact) → FactPrecedes f g ⊎ ((f ≡ g) ⊎ FactPrecedes g f)
facts_apart (Member s a) (Member t b) = elim (in_turn_apart (λ m n. m < n) Precedes numbers_ordered elements_ordered s t a b) as (λ _. FactPrecedes (Member s a) (Member t b) ⊎ ((Member s a ≡ Member t b) ⊎ FactPrecedes (Member t b) (Member s a))) [
  | inl before ↦ inl before
  | inr (inl same) ↦ inr (inl (λ i. Member (same.0 i) (same.1 i)))
  | inr (inr behind) ↦ inr (inr behind)
]
facts_apart (Member s a) (Pair r b y) = inl tt
facts_apart (Pair r a x) (Member t b) = inr (inr tt)
facts_apart (Pair r a x) (Pair q b y) = elim (in_turn_apart (λ m n. m < n) EndsPrecede numbers_ordered ends_ordered r q (a, x) (b, y)) as (λ _. FactPrecedes (Pair r a x) (Pair q b y) ⊎ ((Pair r a x ≡ Pair q b y) ⊎ FactPrecedes (Pair q b y) (Pair r a x))) [
  | inl before ↦ inl before
  | inr (inl same) ↦ inr (inl (λ i. Pair (same.0 i) (same.1 i).0 (same.1 i).1))
  | inr (inr behind) ↦ inr (inr behind)
]

facts_ordered : IsOrder FactPrecedes
facts_ordered = record { through = facts_through; once = facts_once; apart = facts_apart }

-- ---- the greatest of a list

record IsLast {A : Type 0} (Before : A → A → Type 0) (xs : List A) : Type 0 where
  item : A
  among : IsIn item xs
  none_after : (other : A) → IsIn other xs → Before item other → ⊥

module _ {A : Type 0} (Before : A → A → Type 0) (order : IsOrder Before) where
  last_of : (x : A) (xs : List A) → IsLast Before (x ∷ xs)
  last_of x [] = record { item = x; among = inl refl; none_after = λ other is before. elim is as (λ _. ⊥) [ inl same ↦ order.once x (subst (Before x) same before) | inr none ↦ none ] }
  last_of x (y ∷ ys) =
      let rest = last_of y ys in
      elim (order.apart rest.item x) as (λ _. IsLast Before (x ∷ y ∷ ys)) [
        | inl before ↦ record {
          item = x;
          among = inl refl;
          none_after = λ other is after. elim is as (λ _. ⊥) [
            | inl same ↦ order.once x (subst (Before x) same after)
            | inr later ↦ rest.none_after other later (order.through rest.item x other before after)
          ];
        }
        | inr (inl same) ↦ record {
          item = rest.item;
          among = inr rest.among;
          none_after = λ other is after. elim is as (λ _. ⊥) [
            | inl own ↦ order.once rest.item (subst (Before rest.item) (own ∙ sym same) after)
            | inr later ↦ rest.none_after other later after
          ];
        }
        | inr (inr behind) ↦ record {
          item = rest.item;
          among = inr rest.among;
          none_after = λ other is after. elim is as (λ _. ⊥) [
            | inl own ↦ order.once x (order.through x rest.item x behind (subst (Before rest.item) own after))
            | inr later ↦ rest.none_after other later after
          ];
        }
      ]

-- there is a greatest fact of a kind that is listed, or none
pub greatest : (Kind : Fact → Type 0) → IsListed Kind → ((fact : Fact) × IsGreatestFact Kind fact) ⊎ ((fact : Fact) → Kind fact → ⊥)
greatest Kind listed = of_list listed.things (λ f i. listed.only f i) (λ f k. listed.all f k) where
  of_list : (fs : List Fact) → ((f : Fact) → IsIn f fs → Kind f) → ((f : Fact) → Kind f → IsIn f fs) → ((fact : Fact) × IsGreatestFact Kind fact) ⊎ ((fact : Fact) → Kind fact → ⊥)
  of_list [] only all = inr (λ f k. all f k)
  of_list (f ∷ fs) only all =
      let last = last_of FactPrecedes facts_ordered f fs in
      inl (last.item, record { of_kind = only last.item last.among; none_after = λ other is after. last.none_after other (all other is) after })

-- ---- what is counted

abbrev Reaches : Option Element → Target → Type 0
Reaches o u = (y : Element) × (o ≡ Some y) × (u ≡ Elem y)

reaches : (o : Option Element) (u : Target) → IsDecided (Reaches o u)
reaches None u = inr (λ (h : Reaches None u). let no = h.1 in absurd cc)
reaches (Some z) u = by_logic (λ e. (z, refl, e)) (λ (h : Reaches (Some z) u). h.2 ∙ ap Elem (sym (same_Some z h.0 h.1))) (targets u (Elem z))

counted_decided : (b : Binding) (measure : Measure) (fact : Fact) → IsDecided (IsCounted b measure fact)
counted_decided b (Whole set) (Member s e) = numbers s set
counted_decided b (Whole set) (Pair r x t) = inr (λ h. h)
counted_decided b (Out v rel) (Member s e) = inr (λ h. h)
counted_decided b (Out v rel) (Pair r x t) = both (numbers r rel) (maybe_same elements (element_of b v) (Some x))
counted_decided b (Into rel v) (Member s e) = inr (λ h. h)
counted_decided b (Into rel v) (Pair r x t) = by_logic (λ (h : (r ≡ rel) × Reaches (element_of b v) t). (h.0, h.1.0, h.1.1, h.1.2)) (λ h. (h.0, (h.1, h.2, h.3))) (both (numbers r rel) (reaches (element_of b v) t))

pub counted_listed : (is_fact : Fact → Type 0) (b : Binding) (measure : Measure) → IsListed is_fact → IsListed (λ fact. IsCounted b measure fact × is_fact fact)
counted_listed is_fact b measure listed =
    alike (λ fact. is_fact fact × IsCounted b measure fact) (λ fact. IsCounted b measure fact × is_fact fact) (λ f h. (h.1, h.0)) (λ f h. (h.1, h.0))
    (those is_fact (IsCounted b measure) listed (λ f _. counted_decided b measure f))
