-- The first of some literals that may turn false.
use Rattle.std.proofs.Common.{◌≡◌, ◌≢◌, ◌<◌, ◌+◌, ◌&&◌, ℕ, zero, suc, Bool, true, false, not, nat_eq, IsTrue, List, [], ◌∷◌, None, Some, slice_get, refl, sym, subst, ◌∙◌, arith}
use Rattle.std.specs.Prelude.{if◌then◌else◌}
use Rattle.std.proofs.lemmas.Bool.Decides.{nat_tests}
use Rattle.std.proofs.lemmas.Bool.{false≢true}
use Rattle.dsr_graph.specs.Graphs.{first_marked, is_marked}
use Rattle.dsr_graph.specs.declared.listings.Outcome.{Outcome}

zero_more : (m : ℕ) → m + 0 ≡ m
zero_more m = omega arith

suc_more : (m n : ℕ) → m + suc n ≡ suc m + n
suc_more m n = omega arith

module _ (outcome : Outcome) (own : ℕ) where
  -- the literal with this kind, and this number, is another one and may turn false
  abbrev pub Turns : ℕ → ℕ → Bool
  Turns n kind = not (nat_eq n own) && is_marked outcome kind

  pub turns_if : (n kind : ℕ) → n ≢ own → IsTrue (is_marked outcome kind) → Turns n kind ≡ true
  turns_if n kind other marked =
      elim (nat_eq n own) as (λ t. nat_eq n own ≡ t → (not t && is_marked outcome kind) ≡ true) [
        | true ↦ λ e. absurd (other (grind (arith, nat_tests)))
        | false ↦ λ e. marked
      ] refl

  pub turns_other : (n kind : ℕ) → Turns n kind ≡ true → n ≢ own
  turns_other n kind t =
      elim (nat_eq n own) as (λ b. nat_eq n own ≡ b → (not b && is_marked outcome kind) ≡ true → n ≢ own) [
        | true ↦ λ e f. absurd (false≢true f)
        | false ↦ λ e f same. absurd (let no : nat_eq n own ≡ true = grind (same, arith, nat_tests) in false≢true (sym e ∙ no))
      ] refl t

  pub turns_marked : (n kind : ℕ) → Turns n kind ≡ true → IsTrue (is_marked outcome kind)
  turns_marked n kind t =
      elim (nat_eq n own) as (λ b. (not b && is_marked outcome kind) ≡ true → IsTrue (is_marked outcome kind)) [
        | true ↦ λ f. absurd (false≢true f)
        | false ↦ λ f. f
      ] t

  -- where none is found none of them turns
  pub none_marked : (kinds : List ℕ) (m : ℕ) → first_marked outcome own m kinds ≡ None → (n kind : ℕ) → slice_get kinds n ≡ Some kind → Turns (m + n) kind ≡ false
  none_marked [] m none n kind here = absurd cc
  none_marked (k ∷ rest) m none zero kind here =
      let same : k ≡ kind = cc in
      elim (Turns m k) as (λ t. Turns m k ≡ t → (if t then Some m else first_marked outcome own (suc m) rest) ≡ None → Turns (m + 0) kind ≡ false) [
        | true ↦ λ e f. absurd cc
        | false ↦ λ e f. subst (λ x. Turns (m + 0) x ≡ false) same (subst (λ x. Turns x k ≡ false) (sym (zero_more m)) e)
      ] refl none
  none_marked (k ∷ rest) m none (suc n) kind here =
      elim (Turns m k) as (λ t. (if t then Some m else first_marked outcome own (suc m) rest) ≡ None → Turns (m + suc n) kind ≡ false) [
        | true ↦ λ f. absurd cc
        | false ↦ λ f. subst (λ x. Turns x kind ≡ false) (sym (suc_more m n)) (none_marked rest (suc m) f n kind here)
      ] none

  -- the one that is found turns, and none before it does
  pub record IsFirstAt (kinds : List ℕ) (m found : ℕ) : Type 0 where
    pub n : ℕ
    pub found_is : found ≡ m + n
    pub kind : ℕ
    pub kind_is : slice_get kinds n ≡ Some kind
    pub turns : Turns found kind ≡ true
    pub none_before : (j other : ℕ) → j < n → slice_get kinds j ≡ Some other → Turns (m + j) other ≡ false

  pub some_marked : (kinds : List ℕ) (m found : ℕ) → first_marked outcome own m kinds ≡ Some found → IsFirstAt kinds m found
  some_marked [] m found is = absurd cc
  some_marked (k ∷ rest) m found is =
      elim (Turns m k) as (λ t. Turns m k ≡ t → (if t then Some m else first_marked outcome own (suc m) rest) ≡ Some found → IsFirstAt (k ∷ rest) m found) [
        | true ↦ λ e f. let same : m ≡ found = cc in record {
          n = 0;
          found_is = omega (arith, same);
          kind = k;
          kind_is = refl;
          turns = subst (λ x. Turns x k ≡ true) same e;
          none_before = λ j other less here. absurd (omega (arith, less));
        }
        | false ↦ λ e f. let its = some_marked rest (suc m) found f in let is = its.found_is in record {
          n = suc its.n;
          found_is = omega (arith, is);
          kind = its.kind;
          kind_is = its.kind_is;
          turns = its.turns;
          none_before = before its.n its.none_before e;
        }
      ] refl is where
        before : (n : ℕ) → ((j other : ℕ) → j < n → slice_get rest j ≡ Some other → Turns (suc m + j) other ≡ false) → Turns m k ≡ false → (j other : ℕ) → j < suc n → slice_get (k ∷ rest) j ≡ Some other → Turns (m + j) other ≡ false
        before n none e zero other less here =
            let same : k ≡ other = cc in
            subst (λ x. Turns (m + 0) x ≡ false) same (subst (λ x. Turns x k ≡ false) (sym (zero_more m)) e)
        before n none e (suc j) other less here =
            subst (λ x. Turns x other ≡ false) (sym (suc_more m j)) (none j other (omega (arith, less)) here)
