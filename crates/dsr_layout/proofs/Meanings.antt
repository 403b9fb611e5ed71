-- What the values of references mean in a legal layout.
use Rattle.std.proofs.Common.{◌≡◌, ◌≢◌, ◌<◌, ◌≤◌, ◌*◌, ◌-◌, ℕ, false, List, Some, refl, sym, ap, ◌∙◌, subst, arith}
use Rattle.std.specs.Prelude.{All, slice_get}
use Rattle.std.proofs.lemmas.Bool.{false≢true}
use Rattle.std.proofs.lemmas.Nat.{mul-le}
use Rattle.std.proofs.lemmas.Option.{slice_get_within, get_or_from_slice_get}
use Rattle.dsr_ir.specs.Layouts.{pool_numbers}
use Rattle.dsr_ir.specs.declared.layouts.Layout.{Layout}
use Rattle.dsr_ir.specs.declared.layouts.PoolNumbers.{PoolNumbers}
use Rattle.dsr_meaning.specs.Legal.{IsLegalLayout, IsLegalPool}
use Rattle.dsr_meaning.specs.References.{IsIllegal}
use Rattle.dsr_meaning.specs.Refusals.{is_code_below}
use Rattle.dsr_layout.specs.References.{Means}
use Rattle.dsr_layout.specs.declared.references.Ref.{Ref}
use Rattle.dsr_layout.specs.declared.references.Ref.TheVariants as refs
use Rattle.dsr_layout.proofs.Codes.{code_at, code_below, one_slot}
use Rattle.dsr_layout.proofs.LegalPools.{counted}

-- what holds of each item holds of one that is found
pub found_holds : {A : Type 0} (P : A → Type 0) (xs : List A) (k : ℕ) (x : A) → All P xs → slice_get xs k ≡ Some x → P x
found_holds P xs k x all e = subst P (get_or_from_slice_get xs k x x e) (all k x (slice_get_within xs k x e))

-- a declared pool is a legal one
pub legal_pool : (layout : Layout) (pool : ℕ) (n : PoolNumbers) → IsLegalLayout layout → pool_numbers layout pool ≡ Some n → IsLegalPool layout.length n
legal_pool layout pool n legal e = found_holds (IsLegalPool layout.length) layout.pools (pool - 1) n legal.pools (counted layout pool n e).1

-- a pool has no more slots than the image has bytes
pub few_slots : (layout : Layout) (pool : ℕ) (n : PoolNumbers) → IsLegalLayout layout → pool_numbers layout pool ≡ Some n → n.count ≤ 67108864
few_slots layout pool n legal e =
    let p = legal_pool layout pool n legal e in
    let all : n.count * 1 ≤ n.count * n.slot = mul-le n.count 1 n.count n.slot (omega arith) p.slot_some in
    omega (arith, p.within, legal.small, all)

-- a pool's numbers are the ones that it has
same_numbers : (layout : Layout) (pool : ℕ) (m n : PoolNumbers) → pool_numbers layout pool ≡ Some m → pool_numbers layout pool ≡ Some n → n ≡ m
same_numbers layout pool m n e f = let both : Some n ≡ Some m = sym f ∙ e in cc

-- the code of one slot is the one of no other slot, and not the one of no slot
pub only_slot : (layout : Layout) (pool value slot : ℕ) (n : PoolNumbers) → IsLegalLayout layout → pool_numbers layout pool ≡ Some n → slot < n.count → value ≡ code_at n slot → (other : Ref) → Means layout pool value other → other ≡ refs.Slot slot
only_slot layout pool value slot n legal e below is refs.None means =
    let none : value ≡ n.none = rw e at means in
    absurd ((legal_pool layout pool n legal e).none_apart slot below (sym none ∙ is))
only_slot layout pool value slot n legal e below is (refs.Slot other) means =
    let same = same_numbers layout pool n means.numbers e means.declared in
    ap refs.Slot (one_slot n value other slot (legal_pool layout pool n legal e).step_some (subst (λ m. value ≡ code_at m other) same means.code) is)
only_slot layout pool value slot n legal e below is refs.Illegal means =
    absurd (means.not_legal (slot, record { numbers = n; declared = e; below = below; code = is }))

-- a value that is neither is illegal
pub neither : (layout : Layout) (pool value : ℕ) (n : PoolNumbers) → pool_numbers layout pool ≡ Some n → value ≢ n.none → is_code_below n value n.count ≡ false → IsIllegal layout pool value
neither layout pool value n e other never = record {
  not_none = λ none. other (rw e at none);
  not_legal = λ legal.
      let same = same_numbers layout pool n legal.1.numbers e legal.1.declared in
      let below : legal.0 < n.count = subst (λ m. legal.0 < m.count) same legal.1.below in
      let is : value ≡ code_at n legal.0 = subst (λ m. value ≡ code_at m legal.0) same legal.1.code in
      absurd (false≢true (sym never ∙ code_below n value n.count legal.0 below is));
}

-- and is nothing else
pub only_illegal : (layout : Layout) (pool value : ℕ) → IsIllegal layout pool value → (other : Ref) → Means layout pool value other → other ≡ refs.Illegal
only_illegal layout pool value illegal refs.None means = absurd (illegal.not_none means)
only_illegal layout pool value illegal (refs.Slot slot) means = absurd (illegal.not_legal (slot, means))
only_illegal layout pool value illegal refs.Illegal means = refl
