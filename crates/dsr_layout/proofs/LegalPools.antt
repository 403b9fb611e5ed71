-- What is known of pools where none of them is refused.
use Rattle.std.proofs.Common.{◌≡◌, ◌≢◌, ◌<◌, ◌≤◌, ◌+◌, ◌-◌, ◌*◌, ◌^◌, ℕ, zero, suc, true, false, ◌||◌, nat_eq, nat_lt, List, [], ◌∷◌, map, length, get_or, All, None, Some, slice_get, if◌then◌else◌, refl, sym, ap, ◌∙◌, subst, arith}
use Rattle.std.proofs.Math.Nat.{mul-le-mul_right}
use Rattle.std.proofs.lemmas.Bool.Decides.{nat_tests}
use Rattle.std.proofs.lemmas.List.{get_or-map, length-map}
use Rattle.std.proofs.lemmas.Option.{get_or_from_slice_get, slice_get_within}
use Rattle.dsr_ir.specs.Layouts.{pool_numbers}
use Rattle.dsr_ir.specs.declared.layouts.Layout.{Layout}
use Rattle.dsr_ir.specs.declared.layouts.PoolNumbers.{PoolNumbers}
use Rattle.dsr_meaning.proofs.Empty.{both_empty, each_has}
use Rattle.dsr_meaning.specs.Lists.{each_at}
use Rattle.dsr_meaning.specs.Layouts.{pool_end, last_code}
use Rattle.dsr_meaning.specs.Legal.{IsLegalPool, IsByteOf, AreApart}
use Rattle.dsr_meaning.specs.Refusals.{Outside, Overlap, Zero, NoneIsCode, refused_when, outside_refusals, overlaps, zero_refusals, none_refusals, is_code_below, ByteRange, pool_range, share_byte}
use Rattle.dsr_layout.proofs.SharedBytes.{byte_shared}
use Rattle.dsr_layout.proofs.Looking.{quiet}
use Rattle.dsr_layout.specs.Laws.{HasByte}
use Rattle.dsr_layout.specs.Pools.{IsComputable, HasStep}
use Rattle.std.proofs.lemmas.Bool.{and_parts, or_parts}

-- a value that is no slot's code is none's
no_code : (n : PoolNumbers) (value count : ℕ) → is_code_below n value count ≡ false → (slot : ℕ) → slot < count → value ≢ n.code + slot * n.step
no_code n value zero e slot lt is = absurd (omega (arith, lt))
no_code n value (suc count) e slot lt is =
    let parts = or_parts (nat_eq value (n.code + count * n.step)) (is_code_below n value count) e in
    elim (nat_eq slot count) as (λ b. nat_eq slot count ≡ b → ⊥) [
      | true ↦ λ same.
          let at : slot ≡ count = grind (arith, nat_tests) in
          let yes : value ≡ n.code + count * n.step = subst (λ k. value ≡ n.code + k * n.step) at is in
          absurd (grind (arith, nat_tests))
      | false ↦ λ other.
          let below : slot < count = grind (arith, nat_tests) in
          no_code n value count parts.1 slot below is
    ] refl

-- the code of each slot is at most the last one
pub codes_below : (n : PoolNumbers) (bound : ℕ) → (nat_eq n.count 0 || nat_lt (last_code n) bound) ≡ true → (slot : ℕ) → slot < n.count → n.code + slot * n.step < bound
codes_below n bound below slot lt =
    let steps : slot * n.step ≤ (n.count - 1) * n.step = mul-le-mul_right n.step (omega (arith, lt)) in
    elim (nat_eq n.count 0) as (λ b. nat_eq n.count 0 ≡ b → (b || nat_lt (last_code n) bound) ≡ true → n.code + slot * n.step < bound) [
      | true ↦ λ e is. absurd (grind (arith, nat_tests))
      | false ↦ λ e is.
          let last : n.code + (n.count - 1) * n.step < bound = grind (arith, nat_tests) in
          omega (arith, steps, last)
    ] refl below

-- a pool that isn't refused
legal_pool : (bytes : ℕ) (n : PoolNumbers) → IsComputable n → nat_lt bytes (pool_end n) ≡ false → (nat_eq n.step 0 || nat_eq n.slot 0) ≡ false → is_code_below n n.none n.count ≡ false → IsLegalPool bytes n
legal_pool bytes n computable inside some apart =
    let parts = or_parts (nat_eq n.step 0) (nat_eq n.slot 0) some in
    let step = parts.0 in
    let slot = parts.1 in
    record {
      slot_some = grind (arith, nat_tests);
      step_some = grind (arith, nat_tests);
      within = grind (arith, nat_tests);
      codes_small = codes_below n (2 ^ 64) (and_parts (nat_lt (pool_end n) (2 ^ 64)) (nat_eq n.count 0 || nat_lt (last_code n) (2 ^ 64)) computable).1;
      none_apart = no_code n n.none n.count apart;
    }

-- what holds of each item because of four facts about each
all_of_four : {T : Type 0} (A B C D P : T → Type 0) → ((x : T) → A x → B x → C x → D x → P x) → (xs : List T) → All A xs → All B xs → All C xs → All D xs → All P xs
all_of_four A B C D P h xs a b c d = λ k e lt. h (get_or xs k e) (a k e lt) (b k e lt) (c k e lt) (d k e lt)

-- of two ranges that don't overlap with each other, none shares a byte
apart_in : (p : ℕ) (rs : List ByteRange) → overlaps p rs ≡ [] → (i j : ℕ) (d : ByteRange) → i < j → j < length rs → share_byte (get_or rs i d) (get_or rs j d) ≡ false
apart_in p [] e i j d lt within = absurd (omega (arith, within))
apart_in p (r ∷ rs) e i zero d lt within = absurd (omega (arith, lt))
apart_in p (r ∷ rs) e zero (suc j) d lt within =
    let first = (both_empty (each_at (λ q s. refused_when (share_byte r s) (Overlap p q)) (suc p) rs) (overlaps (suc p) rs) e).0 in
    each_has (λ q s. refused_when (share_byte r s) (Overlap p q)) (λ s. share_byte r s ≡ false) (λ q s. quiet (share_byte r s) (Overlap p q)) (suc p) rs first j d (omega (arith, within))
apart_in p (r ∷ rs) e (suc i) (suc j) d lt within =
    let rest = (both_empty (each_at (λ q s. refused_when (share_byte r s) (Overlap p q)) (suc p) rs) (overlaps (suc p) rs) e).1 in
    apart_in (suc p) rs rest i j d (omega (arith, lt)) (omega (arith, within))

-- no byte is in two ranges that share none
no_byte : (a b : ByteRange) → share_byte a b ≡ false → (at : ℕ) → HasByte a at → HasByte b at → ⊥
no_byte a b e at in_a in_b =
    let shared : false ≡ true = sym e ∙ byte_shared a b at in_a in_b in
    absurd cc

-- pools are counted from 1
pub counted : (layout : Layout) (p : ℕ) (n : PoolNumbers) → pool_numbers layout p ≡ Some n → (p ≡ 1 + (p - 1)) × (slice_get layout.pools (p - 1) ≡ Some n)
counted layout p n is = elim (nat_eq p 0) as (λ b. nat_eq p 0 ≡ b → (if b then None else slice_get layout.pools (p - 1)) ≡ Some n → (p ≡ 1 + (p - 1)) × (slice_get layout.pools (p - 1) ≡ Some n)) [
  | true ↦ λ _ h. absurd cc
  | false ↦ λ some h.
      let positive : p ≢ 0 = grind (arith, nat_tests) in
      (omega (arith, positive), h)
] refl is

-- the numbers of a pool stand behind the head's bytes among the ranges
range_at : (head : ByteRange) (layout : Layout) (p : ℕ) (n : PoolNumbers) (d : ByteRange) → pool_numbers layout p ≡ Some n → (get_or (head ∷ map pool_range layout.pools) p d ≡ pool_range n) × (p < length (head ∷ map pool_range layout.pools))
range_at head layout zero n d e = absurd cc
range_at head layout (suc p) n d is =
    let before : p ≡ suc p - 1 = omega arith in
    let e = ap (slice_get layout.pools) before ∙ (counted layout (suc p) n is).1 in
    let below = slice_get_within layout.pools p n e in
    let many = length-map layout.pools pool_range in
    (get_or-map pool_range layout.pools p n d below ∙ ap pool_range (get_or_from_slice_get layout.pools p n n e), omega (arith, below, many))

-- pools whose ranges don't overlap
pub pools_apart : (head : ByteRange) (layout : Layout) → overlaps 0 (head ∷ map pool_range layout.pools) ≡ [] → AreApart layout
pools_apart head layout e p q at m n other is_m is_n in_m in_n =
    let rs = head ∷ map pool_range layout.pools in
    let first = range_at head layout p m head is_m in
    let second = range_at head layout q n head is_n in
    elim (nat_lt p q) as (λ b. nat_lt p q ≡ b → ⊥) [
      | true ↦ λ before.
          let apart : share_byte (pool_range m) (pool_range n) ≡ false = subst (λ r. share_byte r (pool_range n) ≡ false) first.0 (subst (λ r. share_byte (get_or rs p head) r ≡ false) second.0 (apart_in 0 rs e p q head (grind (arith, nat_tests)) second.1)) in
          no_byte (pool_range m) (pool_range n) apart at (in_m.from, in_m.before) (in_n.from, in_n.before)
      | false ↦ λ behind.
          let apart : share_byte (pool_range n) (pool_range m) ≡ false = subst (λ r. share_byte r (pool_range m) ≡ false) second.0 (subst (λ r. share_byte (get_or rs q head) r ≡ false) first.0 (apart_in 0 rs e q p head (grind (arith, nat_tests)) first.1)) in
          no_byte (pool_range n) (pool_range m) apart at (in_n.from, in_n.before) (in_m.from, in_m.before)
    ] refl

-- the head's bytes are none of a pool's
pub head_apart_from : (head : ByteRange) (layout : Layout) → overlaps 0 (head ∷ map pool_range layout.pools) ≡ [] → (p at : ℕ) (n : PoolNumbers) → pool_numbers layout p ≡ Some n → HasByte head at → IsByteOf n at → ⊥
head_apart_from head layout e p at n is in_head in_pool =
    let rs = head ∷ map pool_range layout.pools in
    let found = range_at head layout p n head is in
    let first : 0 < p = omega (arith, (counted layout p n is).0) in
    let apart : share_byte head (pool_range n) ≡ false = subst (λ r. share_byte head r ≡ false) found.0 (apart_in 0 rs e 0 p head first found.1) in
    no_byte head (pool_range n) apart at in_head (in_pool.from, in_pool.before)

-- all pools, where none is refused
pub legal_pools : (layout : Layout) → All IsComputable layout.pools → outside_refusals layout ≡ [] → zero_refusals layout ≡ [] → none_refusals layout ≡ [] → All (IsLegalPool layout.length) layout.pools
legal_pools layout computable inside some apart =
    let outside = λ (p : ℕ) (n : PoolNumbers). refused_when (nat_lt layout.length (pool_end n)) (Outside p) in
    let nothing = λ (p : ℕ) (n : PoolNumbers). refused_when (nat_eq n.step 0 || nat_eq n.slot 0) (Zero p) in
    let code = λ (p : ℕ) (n : PoolNumbers). refused_when (is_code_below n n.none n.count) (NoneIsCode p) in
    all_of_four IsComputable IsInside HasSizes HasNone (IsLegalPool layout.length) legal_by layout.pools computable
    (each_has outside IsInside (λ p n. quiet (nat_lt layout.length (pool_end n)) (Outside p)) 1 layout.pools inside)
    (each_has nothing HasSizes (λ p n. quiet (nat_eq n.step 0 || nat_eq n.slot 0) (Zero p)) 1 layout.pools some)
    (each_has code HasNone (λ p n. quiet (is_code_below n n.none n.count) (NoneIsCode p)) 1 layout.pools apart)
  where
    IsInside : PoolNumbers → Type 0
    IsInside n = nat_lt layout.length (pool_end n) ≡ false

    HasSizes : PoolNumbers → Type 0
    HasSizes n = (nat_eq n.step 0 || nat_eq n.slot 0) ≡ false

    HasNone : PoolNumbers → Type 0
    HasNone n = is_code_below n n.none n.count ≡ false

    legal_by : (n : PoolNumbers) → IsComputable n → IsInside n → HasSizes n → HasNone n → IsLegalPool layout.length n
    legal_by = legal_pool layout.length

-- each pool has a step, where none is refused for want of one
pub have_steps : (layout : Layout) → zero_refusals layout ≡ [] → All HasStep layout.pools
have_steps layout e = each_has (λ p n. refused_when (nat_eq n.step 0 || nat_eq n.slot 0) (Zero p)) HasStep (λ p n empty. step_of p n empty) 1 layout.pools e
  where
    step_of : (p : ℕ) (n : PoolNumbers) → refused_when (nat_eq n.step 0 || nat_eq n.slot 0) (Zero p) ≡ [] → HasStep n
    step_of p n empty =
        let step = (or_parts (nat_eq n.step 0) (nat_eq n.slot 0) (quiet (nat_eq n.step 0 || nat_eq n.slot 0) (Zero p) empty)).0 in
        grind (arith, nat_tests)
