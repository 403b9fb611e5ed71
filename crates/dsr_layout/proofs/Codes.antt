-- The codes of a pool's slots.
use Rattle.std.proofs.Common.{◌≡◌, ◌≢◌, ◌<◌, ◌≤◌, ◌+◌, ◌*◌, ◌-◌, ◌/◌, ◌%◌, ℕ, zero, suc, true, false, ◌||◌, eqb, refl, sym, ap, ◌∙◌, arith}
use Rattle.std.proofs.Math.Nat.{mul-div_cancel, mul-mod_left}
use Rattle.std.proofs.lemmas.Nat.{div-add-mod'}
use Rattle.std.proofs.lemmas.Bool.Decides.{nat_tests}
use Rattle.dsr_ir.specs.declared.layouts.PoolNumbers.{PoolNumbers}
use Rattle.dsr_meaning.specs.Refusals.{is_code_below}

-- the code of a slot
abbrev pub code_at : PoolNumbers → ℕ → ℕ
code_at n slot = n.code + slot * n.step

-- the code of one of the first slots is found
pub code_below : (n : PoolNumbers) (v k slot : ℕ) → slot < k → v ≡ code_at n slot → is_code_below n v k ≡ true
code_below n v zero slot lt e = absurd (omega arith)
code_below n v (suc k) slot lt e = elim (eqb v (code_at n k)) as (λ b. eqb v (code_at n k) ≡ b → (b || is_code_below n v k) ≡ true) [
  | true ↦ λ _. refl
  | false ↦ λ other.
      let apart : v ≢ code_at n k = grind (arith, nat_tests) in
      let before : slot < k = elim (eqb slot k) as (λ b. eqb slot k ≡ b → slot < k) [
        | true ↦ λ same. let at : slot ≡ k = grind (arith, nat_tests) in absurd (apart (e ∙ ap (code_at n) at))
        | false ↦ λ differ. let at : slot ≢ k = grind (arith, nat_tests) in omega arith
      ] refl in
      code_below n v k slot before e
] refl

-- what is found is the code of one of the first slots
pub below_code : (n : PoolNumbers) (v k : ℕ) → is_code_below n v k ≡ true → (slot : ℕ) × ((slot < k) × (v ≡ code_at n slot))
below_code n v zero e = absurd cc
below_code n v (suc k) e = elim (eqb v (code_at n k)) as (λ b. eqb v (code_at n k) ≡ b → (b || is_code_below n v k) ≡ true → (slot : ℕ) × ((slot < suc k) × (v ≡ code_at n slot))) [
  | true ↦ λ same _. let lt : k < suc k = omega arith in let is : v ≡ code_at n k = grind (arith, nat_tests) in (k, (lt, is))
  | false ↦ λ _ later. let r = below_code n v k later in let lt : r.0 < suc k = omega (arith, r.1.0) in (r.0, (lt, r.1.1))
] refl e

-- none is found where none of the first slots has it as its code
pub never_code : (n : PoolNumbers) (v k : ℕ) → ((slot : ℕ) → slot < k → v ≡ code_at n slot → ⊥) → is_code_below n v k ≡ false
never_code n v k never = elim (is_code_below n v k) as (λ b. is_code_below n v k ≡ b → b ≡ false) [
  | true ↦ λ e. let r = below_code n v k e in absurd (never r.0 r.1.0 r.1.1)
  | false ↦ λ _. refl
] refl

-- a value before the first code
pub before_codes : (n : PoolNumbers) (v k : ℕ) → v < n.code → is_code_below n v k ≡ false
before_codes n v k before = never_code n v k (λ slot lt e. omega arith)

-- a value at a whole number of steps from the first code
pub at_steps : (n : PoolNumbers) (v k : ℕ) → n.code ≤ v → (v - n.code) % n.step ≡ 0 → (v - n.code) / n.step < k → is_code_below n v k ≡ true
at_steps n v k from whole below =
    let parts = div-add-mod' (v - n.code) n.step in
    let is : v ≡ code_at n ((v - n.code) / n.step) = omega arith in
    code_below n v k ((v - n.code) / n.step) below is

-- how far the code of a slot is from the first one
steps_of : (n : PoolNumbers) (v slot : ℕ) → 0 < n.step → v ≡ code_at n slot → ((v - n.code) / n.step ≡ slot) × ((v - n.code) % n.step ≡ 0)
steps_of n v slot positive e =
    let d : v - n.code ≡ slot * n.step = omega arith in
    (ap (λ x. x / n.step) d ∙ mul-div_cancel slot positive, ap (λ x. x % n.step) d ∙ mul-mod_left slot n.step)

-- a code of two slots
pub one_slot : (n : PoolNumbers) (v slot other : ℕ) → 0 < n.step → v ≡ code_at n slot → v ≡ code_at n other → slot ≡ other
one_slot n v slot other positive e f = sym (steps_of n v slot positive e).0 ∙ (steps_of n v other positive f).0

-- a value beside the steps, or behind the last code
pub beside_steps : (n : PoolNumbers) (v k : ℕ) → 0 < n.step → ((v - n.code) % n.step ≡ 0 → (v - n.code) / n.step < k → ⊥) → is_code_below n v k ≡ false
beside_steps n v k positive never = never_code n v k (λ slot lt e.
    let s = steps_of n v slot positive e in
    let below : (v - n.code) / n.step < k = omega (arith, s.0) in
    never s.1 below)
