-- Constraints of which a symbol is marked, and symbols that are marked, in order.
use Rattle.std.proofs.Common.{◌≡◌, ◌<◌, ◌≤◌, ◌+◌, ◌⊎◌, ◌↔◌, ◌∙◌, ℕ, zero, suc, Bool, true, false, List, [], ◌∷◌, ◌++◌, length, Some, IsTrue, slice_get, inl, inr, refl, sym, ap, subst, arith}
use Rattle.std.specs.Prelude.{◌||◌}
use Rattle.std.proofs.lemmas.Bool.{cases_lt, false≢true, or_parts}
use Rattle.std.proofs.lemmas.Option.{same_Some}
use Rattle.dsr_affected.specs.Marking.{AreAffected, AreCollected, AreInOrder, AreMarksOf, IsAmong, Precedes, has_mark, is_conj_marked, is_constraint_marked}
use Rattle.dsr_affected.specs.declared.marks.Marks.{Marks}
use Rattle.dsr_affected_laws.specs.Affected.{HasSymbol, IsAffected, IsAffectedConstraint, atom_symbols, quant_symbols}
use Rattle.dsr_affected_laws.specs.Affected.HasSymbol.{of_literal, quantified}
use Rattle.dsr_affected_laws.proofs.Declared.{declared}
use Rattle.dsr_effect_laws.proofs.WrittenFields.{some_of}
use Rattle.dsr_ir.specs.declared.constraints.Conj.{Conj}
use Rattle.dsr_ir.specs.declared.constraints.Constraint.{Constraint}
use Rattle.dsr_ir.specs.declared.constraints.Literal.{Literal}
use Rattle.dsr_ir.specs.declared.declarations.FieldRef.{FieldRef}
use Rattle.dsr_ir.specs.declared.declarations.Spec.{Spec}
use Rattle.dsr_ir.specs.declared.updates.Symbol.{Symbol}
use Rattle.dsr_ir.specs.declared.updates.Symbol.TheVariants.{Set, Rel}
use Rattle.dsr_meaning.proofs.Items.{in_either, in_left, in_right, item_at, none_of}
use Rattle.dsr_meaning.specs.Counting.{IsIn}
use Rattle.dsr_meaning.specs.Lists.{any_of}
use Rattle.dsr_meaning.specs.Typed.{IsTyped}
use Rattle.dsr_update_theory.specs.Effects.{IsDeclared}

-- ---- one constraint

module _ (spec : Spec) (fields : List FieldRef) (marks : Marks) (exact : AreMarksOf spec fields marks) (c : Constraint) where
  by_quant : any_of (has_mark marks) (quant_symbols c.quant) ≡ true → IsAffectedConstraint spec fields c
  by_quant some =
      let s = some_of (has_mark marks) (quant_symbols c.quant) some in
      record { symbol = s.0; has = quantified s.1; affected = (exact s.0).0 s.2 }

  by_conjs : any_of (is_conj_marked marks) c.conjs ≡ true → IsAffectedConstraint spec fields c
  by_conjs some =
      let conj = some_of (is_conj_marked marks) c.conjs some in
      let literal = some_of (λ (l : Literal). any_of (has_mark marks) (atom_symbols l.atom)) conj.0.literals conj.2 in
      let s = some_of (has_mark marks) (atom_symbols literal.0.atom) literal.2 in
      record { symbol = s.0; has = of_literal conj.0 literal.0 conj.1 literal.1 s.1; affected = (exact s.0).0 s.2 }

  pub marked_affected : is_constraint_marked marks c ≡ true → IsAffectedConstraint spec fields c
  marked_affected some = elim (any_of (has_mark marks) (quant_symbols c.quant)) as (λ b. any_of (has_mark marks) (quant_symbols c.quant) ≡ b → (b || any_of (is_conj_marked marks) c.conjs) ≡ true → IsAffectedConstraint spec fields c) [
    | true ↦ λ bound _. by_quant bound
    | false ↦ λ _ conjs. by_conjs conjs
  ] refl some

  unmarked_symbol : is_constraint_marked marks c ≡ false → (symbol : Symbol) → HasSymbol c symbol → has_mark marks symbol ≡ false
  unmarked_symbol none symbol (quantified among) = none_of (has_mark marks) (quant_symbols c.quant) (or_parts _ _ none).0 symbol among
  unmarked_symbol none symbol (of_literal conj literal in_conjs in_literals among) =
      none_of (has_mark marks) (atom_symbols literal.atom)
      (none_of (λ (l : Literal). any_of (has_mark marks) (atom_symbols l.atom)) conj.literals
      (none_of (is_conj_marked marks) c.conjs (or_parts _ _ none).1 conj in_conjs) literal in_literals) symbol among

  pub unmarked_free : is_constraint_marked marks c ≡ false → IsAffectedConstraint spec fields c → ⊥
  unmarked_free none h = false≢true (sym (unmarked_symbol none h.symbol h.has) ∙ (exact h.symbol).1 h.affected)

-- ---- the affected ones in order

-- one item more at the end
at_end : {A : Type 0} (xs : List A) (x : A) → slice_get (xs ++ x ∷ []) (length xs) ≡ Some x
at_end [] x = refl
at_end (y ∷ ys) x = at_end ys x

still_at : {A : Type 0} (xs : List A) (x y : A) (i : ℕ) → slice_get xs i ≡ Some y → slice_get (xs ++ x ∷ []) i ≡ Some y
still_at [] x y i is = absurd cc
still_at (z ∷ zs) x y zero is = is
still_at (z ∷ zs) x y (suc i) is = still_at zs x y i is

-- what stands at a place stood there, or is the last
was_at : {A : Type 0} (xs : List A) (x y : A) (i : ℕ) → slice_get (xs ++ x ∷ []) i ≡ Some y → (slice_get xs i ≡ Some y) ⊎ ((i ≡ length xs) × (x ≡ y))
was_at [] x y zero is = inr (refl, same_Some x y is)
was_at [] x y (suc i) is = absurd cc
was_at (z ∷ zs) x y zero is = inl is
was_at (z ∷ zs) x y (suc i) is = elim (was_at zs x y i is) as (λ _. (slice_get (z ∷ zs) (suc i) ≡ Some y) ⊎ ((suc i ≡ length (z ∷ zs)) × (x ≡ y))) [
  | inl old ↦ inl old
  | inr last ↦ inr (ap suc last.0, last.1)
]

below_length : {A : Type 0} (xs : List A) (y : A) (i : ℕ) → slice_get xs i ≡ Some y → i < length xs
below_length [] y i is = absurd cc
below_length (z ∷ zs) y zero is = omega arith
below_length (z ∷ zs) y (suc i) is = let less = below_length zs y i is in omega (arith, less)

-- the affected ones among so many constraints
pub record IsOrdering (spec : Spec) (fields : List FieldRef) (order : List ℕ) (n : ℕ) : Type 0 where
  pub covers :
      (k : ℕ) (c : Constraint) → k < n → slice_get spec.constraints k ≡ Some c
      → ((at : ℕ) × (slice_get order at ≡ Some k)) ⊎ (IsAffectedConstraint spec fields c → ⊥)
  pub only :
      (at k : ℕ) → slice_get order at ≡ Some k
      → (c : Constraint) × (slice_get spec.constraints k ≡ Some c) × IsAffectedConstraint spec fields c
  pub below : (at k : ℕ) → slice_get order at ≡ Some k → k < n
  pub rising :
      (i j m k : ℕ) → i < j → slice_get order i ≡ Some m → slice_get order j ≡ Some k → m < k

pub ordering_begins : (spec : Spec) (fields : List FieldRef) → IsOrdering spec fields [] 0
ordering_begins spec fields = record {
  covers = λ k c less _. absurd (omega (arith, less));
  only = λ at k is. absurd (none at k is);
  below = λ at k is. absurd (none at k is);
  rising = λ i j m k less is _. absurd (none i m is);
} where
  none : (at k : ℕ) → slice_get (let none : List ℕ = [] in none) at ≡ Some k → ⊥
  none at k is = absurd cc

module _ (spec : Spec) (fields : List FieldRef) (order : List ℕ) (n : ℕ) (far : IsOrdering spec fields order n) (c : Constraint) (is : slice_get spec.constraints n ≡ Some c) where
  here_or : (P : ℕ → Constraint → Type 0) (k : ℕ) (d : Constraint) → k < n + 1 → slice_get spec.constraints k ≡ Some d → (k < n → P k d) → P n c → P k d
  here_or P k d less there before here = elim (cases_lt k n) as (λ _. P k d) [
    | inl old ↦ before old
    | inr last ↦
        let same : n ≡ k = omega (arith, less, last) in
        let one : c ≡ d = same_Some c d (sym is ∙ (ap (slice_get spec.constraints) same ∙ there)) in
        subst (λ z. P k z) one (subst (λ j. P j c) same here)
  ]

  pub ordering_more : IsAffectedConstraint spec fields c → IsOrdering spec fields (order ++ n ∷ []) (n + 1)
  ordering_more affected = record {
    covers = λ k d less there. here_or (λ m e. ((at : ℕ) × (slice_get (order ++ n ∷ []) at ≡ Some m)) ⊎ (IsAffectedConstraint spec fields e → ⊥)) k d less there
        (λ old. elim (far.covers k d old there) as (λ _. ((at : ℕ) × (slice_get (order ++ n ∷ []) at ≡ Some k)) ⊎ (IsAffectedConstraint spec fields d → ⊥)) [
          | inl at ↦ inl (at.0, still_at order n k at.0 at.1)
          | inr free ↦ inr free
        ])
        (inl (length order, at_end order n));
    only = λ at k there. elim (was_at order n k at there) as (λ _. (d : Constraint) × (slice_get spec.constraints k ≡ Some d) × IsAffectedConstraint spec fields d) [
      | inl old ↦ far.only at k old
      | inr last ↦ (c, subst (λ m. slice_get spec.constraints m ≡ Some c) last.1 is, affected)
    ];
    below = λ at k there. elim (was_at order n k at there) as (λ _. k < n + 1) [
      | inl old ↦ let less = far.below at k old in omega (arith, less)
      | inr last ↦ let same = last.1 in omega (arith, same)
    ];
    rising = λ i j m k less one two. elim (was_at order n k j two) as (λ _. m < k) [
      | inl old ↦ elim (was_at order n m i one) as (λ _. m < k) [
        | inl first ↦ far.rising i j m k less first old
        | inr end ↦ let low = below_length order k j old in let at = end.0 in absurd (omega (arith, low, at, less))
      ]
      | inr last ↦ elim (was_at order n m i one) as (λ _. m < k) [
        | inl first ↦ let low = far.below i m first in let same = last.1 in omega (arith, low, same)
        | inr end ↦ let at = end.0 in let to = last.0 in absurd (omega (arith, at, to, less))
      ]
    ];
  }

  pub ordering_same : (IsAffectedConstraint spec fields c → ⊥) → IsOrdering spec fields order (n + 1)
  ordering_same free = record {
    covers = λ k d less there. here_or (λ m e. ((at : ℕ) × (slice_get order at ≡ Some m)) ⊎ (IsAffectedConstraint spec fields e → ⊥)) k d less there (λ old. far.covers k d old there) (inr free);
    only = far.only;
    below = λ at k there. let less = far.below at k there in omega (arith, less);
    rising = far.rising;
  }

pub ordering_ends : (spec : Spec) (fields : List FieldRef) (order : List ℕ) (n : ℕ) → length spec.constraints ≤ n → IsOrdering spec fields order n → AreAffected spec fields order
ordering_ends spec fields order n all far = record {
  covers = λ k c there. let less = below_length spec.constraints c k there in far.covers k c (omega (arith, less, all)) there;
  only = far.only;
  rising = far.rising;
}

-- ---- symbols that are collected

order_more : (symbols : List Symbol) (x : Symbol) → AreInOrder symbols → ((a : Symbol) → IsIn a symbols → Precedes a x) → AreInOrder (symbols ++ x ∷ [])
order_more [] x order before = (λ b is. absurd is, tt)
order_more (a ∷ rest) x order before = (
  λ b is. elim (in_either b rest (x ∷ []) is) as (λ _. Precedes a b) [
    | inl old ↦ order.0 b old
    | inr last ↦ elim last as (λ _. Precedes a b) [ inl same ↦ subst (Precedes a) (sym same) (before a (inl refl)) | inr none ↦ absurd none ]
  ],
  order_more rest x order.1 (λ b is. before b (inr is)),
)

pub collected_begins : (marks : Marks) → AreCollected marks 0 0 []
collected_begins marks = record { exactly = λ symbol. (λ is. absurd is, λ h. none symbol h.0); order = tt } where
  none : (symbol : Symbol) → IsAmong 0 0 symbol → ⊥
  none (Set n) less = omega (arith, less)
  none (Rel n) less = omega (arith, less)

-- one set, or one relation, was asked
module _ (marks : Marks) (sets rels sets' rels' : ℕ) (symbols : List Symbol) (x : Symbol) (far : AreCollected marks sets rels symbols)
    (more : (s : Symbol) → IsAmong sets' rels' s → IsAmong sets rels s ⊎ (s ≡ x)) (kept : (s : Symbol) → IsAmong sets rels s → IsAmong sets' rels' s) (own : IsAmong sets' rels' x)
    (last : (s : Symbol) → IsAmong sets rels s → Precedes s x) where
  pub collected_more : IsTrue (has_mark marks x) → AreCollected marks sets' rels' (symbols ++ x ∷ [])
  collected_more marked = record {
    exactly = λ s. (
      λ is. elim (in_either s symbols (x ∷ []) is) as (λ _. IsAmong sets' rels' s × IsTrue (has_mark marks s)) [
        | inl old ↦ let h = (far.exactly s).0 old in (kept s h.0, h.1)
        | inr end ↦ elim end as (λ _. IsAmong sets' rels' s × IsTrue (has_mark marks s)) [
          | inl same ↦ subst (λ z. IsAmong sets' rels' z × IsTrue (has_mark marks z)) (sym same) (own, marked)
          | inr none ↦ absurd none
        ]
      ],
      λ h. elim (more s h.0) as (λ _. IsIn s (symbols ++ x ∷ [])) [
        | inl old ↦ in_left s symbols (x ∷ []) ((far.exactly s).1 (old, h.1))
        | inr same ↦ in_right s symbols (x ∷ []) (inl same)
      ],
    );
    order = order_more symbols x far.order (λ s is. last s ((far.exactly s).0 is).0);
  }

  pub collected_same : has_mark marks x ≡ false → AreCollected marks sets' rels' symbols
  collected_same unmarked = record {
    exactly = λ s. (
      λ is. let h = (far.exactly s).0 is in (kept s h.0, h.1),
      λ h. elim (more s h.0) as (λ _. IsIn s symbols) [
        | inl old ↦ (far.exactly s).1 (old, h.1)
        | inr same ↦ absurd (false≢true (sym unmarked ∙ subst (λ z. has_mark marks z ≡ true) same h.1))
      ],
    );
    order = far.order;
  }

set_more : (n : ℕ) (s : Symbol) → IsAmong (n + 1) 0 s → IsAmong n 0 s ⊎ (s ≡ Set n)
set_more n (Set m) less = elim (cases_lt m n) as (λ _. IsAmong n 0 (Set m) ⊎ (Set m ≡ Set n)) [
  | inl old ↦ inl old
  | inr end ↦ let same : m ≡ n = omega (arith, less, end) in inr (ap Set same)
]
set_more n (Rel m) less = absurd (omega (arith, less))

set_kept : (n : ℕ) (s : Symbol) → IsAmong n 0 s → IsAmong (n + 1) 0 s
set_kept n (Set m) less = omega (arith, less)
set_kept n (Rel m) less = less

set_last : (n : ℕ) (s : Symbol) → IsAmong n 0 s → Precedes s (Set n)
set_last n (Set m) less = less
set_last n (Rel m) less = absurd (omega (arith, less))

pub set_marked : (marks : Marks) (n : ℕ) (symbols : List Symbol) → AreCollected marks n 0 symbols → IsTrue (has_mark marks (Set n)) → AreCollected marks (n + 1) 0 (symbols ++ Set n ∷ [])
set_marked marks n symbols far marked = collected_more marks n 0 (n + 1) 0 symbols (Set n) far (set_more n) (set_kept n) (omega arith) (set_last n) marked

pub set_unmarked : (marks : Marks) (n : ℕ) (symbols : List Symbol) → AreCollected marks n 0 symbols → has_mark marks (Set n) ≡ false → AreCollected marks (n + 1) 0 symbols
set_unmarked marks n symbols far unmarked = collected_same marks n 0 (n + 1) 0 symbols (Set n) far (set_more n) (set_kept n) (omega arith) (set_last n) unmarked

rel_more : (sets n : ℕ) (s : Symbol) → IsAmong sets (n + 1) s → IsAmong sets n s ⊎ (s ≡ Rel n)
rel_more sets n (Set m) less = inl less
rel_more sets n (Rel m) less = elim (cases_lt m n) as (λ _. IsAmong sets n (Rel m) ⊎ (Rel m ≡ Rel n)) [
  | inl old ↦ inl old
  | inr end ↦ let same : m ≡ n = omega (arith, less, end) in inr (ap Rel same)
]

rel_kept : (sets n : ℕ) (s : Symbol) → IsAmong sets n s → IsAmong sets (n + 1) s
rel_kept sets n (Set m) less = less
rel_kept sets n (Rel m) less = omega (arith, less)

rel_last : (sets n : ℕ) (s : Symbol) → IsAmong sets n s → Precedes s (Rel n)
rel_last sets n (Set m) less = tt
rel_last sets n (Rel m) less = less

pub rel_marked : (marks : Marks) (sets n : ℕ) (symbols : List Symbol) → AreCollected marks sets n symbols → IsTrue (has_mark marks (Rel n)) → AreCollected marks sets (n + 1) (symbols ++ Rel n ∷ [])
rel_marked marks sets n symbols far marked = collected_more marks sets n sets (n + 1) symbols (Rel n) far (rel_more sets n) (rel_kept sets n) (omega arith) (rel_last sets n) marked

pub rel_unmarked : (marks : Marks) (sets n : ℕ) (symbols : List Symbol) → AreCollected marks sets n symbols → has_mark marks (Rel n) ≡ false → AreCollected marks sets (n + 1) symbols
rel_unmarked marks sets n symbols far unmarked = collected_same marks sets n sets (n + 1) symbols (Rel n) far (rel_more sets n) (rel_kept sets n) (omega arith) (rel_last sets n) unmarked

-- all sets were asked
pub grown : (marks : Marks) (n all : ℕ) (symbols : List Symbol) → n ≤ all → all ≤ n → AreCollected marks n 0 symbols → AreCollected marks all 0 symbols
grown marks n all symbols one two far = let same : n ≡ all = omega (arith, one, two) in subst (λ m. AreCollected marks m 0 symbols) same far

pub collected_ends : (spec : Spec) (fields : List FieldRef) (marks : Marks) → IsTyped spec → AreMarksOf spec fields marks → (sets rels : ℕ) (symbols : List Symbol) → length spec.base.sets ≤ sets → length spec.base.rels ≤ rels → AreCollected marks sets rels symbols → (symbol : Symbol) → IsIn symbol symbols ↔ IsAffected spec fields symbol
collected_ends spec fields marks typed exact sets rels symbols all every far symbol = (
  λ is. (exact symbol).0 ((far.exactly symbol).0 is).1,
  λ affected. (far.exactly symbol).1 (among symbol (declared spec fields symbol typed affected), (exact symbol).1 affected),
) where
  among : (s : Symbol) → IsDeclared spec.base s → IsAmong sets rels s
  among (Set n) low = omega (arith, low, all)
  among (Rel n) low = omega (arith, low, every)
