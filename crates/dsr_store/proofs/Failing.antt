-- A count of failures never falls, and rises exactly where a call that is listed is made.
use Rattle.std.proofs.Common.{◌≡◌, ◌≤◌, ◌+◌, ℕ, List, [], ◌∷◌, true, false, cond, refl, arith}
use Rattle.std.specs.Prelude.{nat_le, nat_eq}
use Rattle.std.specs.List.{list_any}
use Rattle.std.proofs.lemmas.Bool.Decides.{nat_tests}
use Rattle.dsr_store.specs.Failing.{failures}

one_later : (number calls later : ℕ) → calls ≤ later → cond (nat_le number calls) 1 0 ≤ cond (nat_le number later) 1 0
one_later number calls later le = grind (arith, nat_tests)

one_next : (number calls next : ℕ) → next ≡ calls + 1 → nat_eq number next ≡ true → cond (nat_le number calls) 1 0 + 1 ≤ cond (nat_le number next) 1 0
one_next number calls next is here = grind (arith, nat_tests)

-- more calls, no fewer failures
pub failures_later : (fail : List ℕ) (calls later : ℕ) → calls ≤ later → failures fail calls ≤ failures fail later
failures_later [] calls later le = omega arith
failures_later (number ∷ fail) calls later le = omega (arith, one_later number calls later le, failures_later fail calls later le)

-- a further call that is listed, one more failure
pub failures_next : (fail : List ℕ) (calls next : ℕ) → next ≡ calls + 1 → list_any (λ number. nat_eq number next) fail ≡ true → failures fail calls + 1 ≤ failures fail next
failures_next [] calls next is listed = absurd cc
failures_next (number ∷ fail) calls next is listed =
    elim (nat_eq number next) as (λ b. nat_eq number next ≡ b → list_any (λ other. nat_eq other next) (number ∷ fail) ≡ true → failures (number ∷ fail) calls + 1 ≤ failures (number ∷ fail) next) [
      | true ↦ λ here _. omega (arith, one_next number calls next is here, failures_later fail calls next (omega arith))
      | false ↦ λ elsewhere listed.
          let rest : list_any (λ other. nat_eq other next) fail ≡ true = rw elsewhere at listed in
          omega (arith, one_later number calls next (omega arith), failures_next fail calls next is rest)
    ] refl listed

one_quiet : (number calls next : ℕ) → next ≡ calls + 1 → nat_eq number next ≡ false → cond (nat_le number next) 1 0 ≤ cond (nat_le number calls) 1 0
one_quiet number calls next is elsewhere = grind (arith, nat_tests)

-- a further call that isn't listed, as many failures
pub failures_quiet : (fail : List ℕ) (calls next : ℕ) → next ≡ calls + 1 → list_any (λ number. nat_eq number next) fail ≡ false → failures fail next ≡ failures fail calls
failures_quiet [] calls next is unlisted = refl
failures_quiet (number ∷ fail) calls next is unlisted =
    elim (nat_eq number next) as (λ b. nat_eq number next ≡ b → list_any (λ other. nat_eq other next) (number ∷ fail) ≡ false → failures (number ∷ fail) next ≡ failures (number ∷ fail) calls) [
      | true ↦ λ here unlisted. absurd cc
      | false ↦ λ elsewhere unlisted.
          let rest : list_any (λ other. nat_eq other next) fail ≡ false = rw elsewhere at unlisted in
          omega (arith, one_quiet number calls next is elsewhere, one_later number calls next (omega arith), failures_quiet fail calls next is rest)
    ] refl unlisted
