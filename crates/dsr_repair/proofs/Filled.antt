-- A set that has as many members as there are slots up to its greatest one has all of these.
use Rattle.std.proofs.Common.{◌≡◌, ◌<◌, ◌≤◌, ◌+◌, ℕ, suc, zero, List, [], ◌∷◌, length, ◌⊎◌, inl, inr, refl, sym, ap, subst, ◌∙◌, arith}
use Rattle.std.specs.Prelude.{Option, None, Some, IfSome}
use Rattle.std.proofs.lemmas.Bool.{cases_lt}
use Rattle.dsr_ir.specs.declared.constraints.Measure.TheVariants.{Whole}
use Rattle.dsr_ir.specs.declared.tuples.Binding.TheVariants.{Once}
use Rattle.dsr_ir.specs.declared.tuples.Element.{Element}
use Rattle.dsr_ir.specs.declared.tuples.Fact.{Fact}
use Rattle.dsr_ir.specs.declared.tuples.Fact.TheVariants.{Member}
use Rattle.dsr_ir.specs.declared.updates.Symbol.TheVariants.{Set}
use Rattle.dsr_meaning.proofs.Counts.{no_more}
use Rattle.dsr_meaning.specs.Counting.{AreMany, IsIn}
use Rattle.dsr_meaning.specs.Looking.{IsCounted, IsGreatestFact, IsOf}
use Rattle.dsr_model.specs.Facts.{IsInModel, MayBeOf}
use Rattle.dsr_model.specs.Views.{ModelView}
use Rattle.dsr_repair.specs.Supplies.{AreInSlots}

element_is : (e : Element) (pool slot : ℕ) → e.pool ≡ pool → e.slot ≡ slot → e ≡ record { pool = pool; slot = slot }
element_is e pool slot of at =
    let by_pool : ℕ → Element = λ p. record { pool = p; slot = e.slot } in
    let by_slot : ℕ → Element = λ s. record { pool = pool; slot = s } in
    ap by_pool of ∙ ap by_slot at

-- the slots of a pool below a number
slots : ℕ → ℕ → List Element
slots pool zero = []
slots pool (suc n) = record { pool = pool; slot = n } ∷ slots pool n

slot_count : (pool n : ℕ) → length (slots pool n) ≡ n
unfolding slots
slot_count pool zero = refl
slot_count pool (suc n) = ap suc (slot_count pool n)

slot_among : (pool n : ℕ) (e : Element) → e.pool ≡ pool → e.slot < n → IsIn e (slots pool n)
unfolding slots
slot_among pool zero e of below = absurd (omega (arith, below))
slot_among pool (suc n) e of below = elim (cases_lt e.slot n) [
  | inl earlier ↦ inr (slot_among pool n e of earlier)
  | inr later ↦ inl (element_is e pool n of (omega (arith, below, later)))
]

slot_is : (m n : ℕ) → (m ≡ n) ⊎ (m ≡ n → ⊥)
slot_is m n = elim (cases_lt m n) [
  | inl less ↦ inr (λ same. absurd (omega (arith, less, same)))
  | inr past ↦ elim (cases_lt n m) [
    | inl more ↦ inr (λ same. absurd (omega (arith, more, same)))
    | inr both ↦ inl (omega (arith, past, both))
  ]
]

-- some element of the list is this slot, or none
slot_found : (k : ℕ) (xs : List Element)
    → ((e : Element) × IsIn e xs × (e.slot ≡ k)) ⊎ ((e : Element) → IsIn e xs → e.slot ≡ k → ⊥)
slot_found k [] = inr (λ e here same. here)
slot_found k (x ∷ xs) = elim (slot_is x.slot k) [
  | inl same ↦ inl (x, inl refl, same)
  | inr other ↦ elim (slot_found k xs) [
    | inl there ↦ inl (there.0, inr there.1, there.2)
    | inr none ↦ inr (λ e here same. elim here [
      | inl is ↦ other (ap (λ (y : Element). y.slot) (sym is) ∙ same)
      | inr later ↦ none e later same
    ])
  ]
]

-- things of a kind, all of which are slots of a pool up to this one
module _ (P : Element → Type 0) (pool last : ℕ) (within : (e : Element) → P e → (e.pool ≡ pool) × (e.slot ≤ last)) where
  -- another slot beside them is one as well
  among : (things : List Element) → ((e : Element) → IsIn e things → P e) → (k : ℕ) → k < last + 1
      → (x : Element) → IsIn x (record { pool = pool; slot = k } ∷ things) → IsIn x (slots pool (last + 1))
  among things only k below x (inl is) =
      let one : Element = record { pool = pool; slot = k } in
      subst (λ y. IsIn y (slots pool (last + 1))) (sym is) (slot_among pool (last + 1) one refl below)
  among things only k below x (inr later) =
      let at = within x (only x later) in
      let upto = at.1 in
      slot_among pool (last + 1) x at.0 (omega (arith, upto))

  -- so many of them are all slots up to the last one
  all_slots : AreMany P (last + 1) → (k : ℕ) → k < last + 1 → P (record { pool = pool; slot = k })
  all_slots many k below = elim (slot_found k many.things) [
    | inl there ↦
        let is = many.enumerated.only there.0 there.1 in
        subst P (element_is there.0 pool k (within there.0 is).0 there.2) is
    | inr none ↦
        let one : Element = record { pool = pool; slot = k } in
        let more : suc (length many.things) ≤ length (slots pool (last + 1)) =
        no_more (one ∷ many.things) (slots pool (last + 1)) ((λ i. none one i refl), many.enumerated.distinct)
        (among many.things many.enumerated.only k below) in
        let all = slot_count pool (last + 1) in
        let counted = many.counted in
        absurd (omega (arith, more, counted, all))
  ]

module _ (m : ModelView) (set pool : ℕ) where
  pub filled : (n last : ℕ) → n ≡ last + 1 → AreMany (λ e. IsInModel m (Member set e)) n → AreInSlots (IsInModel m) set pool last
      → (k : ℕ) → k < n → IsInModel m (Member set (record { pool = pool; slot = k }))
  filled n last is many within k below =
      all_slots (λ e. IsInModel m (Member set e)) pool last within (subst (AreMany (λ e. IsInModel m (Member set e))) is many) k
      (omega (arith, is, below))

  greatest_within : (fact : Fact) (last : ℕ) → fact ≡ Member set (record { pool = pool; slot = last })
      → IsGreatestFact (λ f. IsCounted Once (Whole set) f × IsInModel m f) fact
      → ((other : Fact) → IsOf (IsInModel m) (Set set) other → MayBeOf m (Set set) other)
      → AreInSlots (IsInModel m) set pool last
  greatest_within fact last is greatest kinds = λ e member.
      let g = subst (IsGreatestFact (λ f. IsCounted Once (Whole set) f × IsInModel m f)) is greatest in
      let own = kinds (Member set (record { pool = pool; slot = last })) (refl, g.of_kind.1) in
      let others = kinds (Member set e) (refl, member) in
      let of : e.pool ≡ pool = others.1 ∙ sym own.1 in (
        of,
        elim (cases_lt last e.slot) [
          | inl past ↦ absurd (g.none_after (Member set e) (refl, member) (inr (refl, inr (sym of, past))))
          | inr within ↦ within
        ],
      )

  pub last_within : (fact : Fact) (answer : Option ℕ) → IfSome answer (λ slot. fact ≡ Member set (record { pool = pool; slot = slot }))
      → IsGreatestFact (λ f. IsCounted Once (Whole set) f × IsInModel m f) fact
      → ((other : Fact) → IsOf (IsInModel m) (Set set) other → MayBeOf m (Set set) other)
      → IfSome answer (λ last. AreInSlots (IsInModel m) set pool last)
  last_within fact None is greatest kinds = tt
  last_within fact (Some last) is greatest kinds = greatest_within fact last is greatest kinds

-- of two numbers below which all is so, each one does
pub either_to : (P : ℕ → Type 0) (one other n : ℕ) → (n ≡ one) ⊎ (n ≡ other)
    → ((k : ℕ) → k < one → P k) → ((k : ℕ) → k < other → P k) → (k : ℕ) → k < n → P k
either_to P one other n (inl is) first second k below = first k (omega (arith, is, below))
either_to P one other n (inr is) first second k below = second k (omega (arith, is, below))
