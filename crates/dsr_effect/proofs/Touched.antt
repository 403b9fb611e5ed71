-- What is found for an update once tells whether a rule is touched.
use Rattle.std.proofs.Common.{◌≡◌, ◌<◌, ◌↔◌, ◌∙◌, ◌-◌, nat_eq, ℕ, zero, suc, Bool, true, false, not, length, None, Some, IsSome, IsSomeAnd, IsTrue, Decides, inl, inr, refl, sym, ap, subst, arith}
use Rattle.std.specs.Prelude.{slice_get, slice_index_or}
use Rattle.std.specs.Option.{option_and_then, option_map_or}
use Rattle.std.proofs.lemmas.Bool.{cond-false}
use Rattle.std.proofs.lemmas.Bool.Decides.{nat_tests}
use Rattle.std.proofs.lemmas.Option.{slice_get_cases}
use Rattle.dsr_facts.specs.Marks.{IsMarked}
use Rattle.dsr_ir.specs.declared.declarations.Spec.{Spec}
use Rattle.dsr_ir.specs.declared.declarations.Structures.{Structures}
use Rattle.dsr_ir.specs.declared.rules.Rule.{Rule}
use Rattle.dsr_meaning.specs.Counting.{IsIn}
use Rattle.dsr_meaning.specs.Instances.{pool_of_premise, premise_pool}
use Rattle.dsr_meaning.specs.Typed.{IsPoolNumber, IsTyped, IsTypedSet, pool_at}
use Rattle.dsr_update_theory.specs.Avoided.{IsAvoided}
use Rattle.dsr_update_theory.specs.Changes.{fresh_pool}
use Rattle.dsr_update_theory.specs.Touching.{IsKeptApartBy, IsTouchedAtF, named_by}
use Rattle.dsr_effect.specs.Told.{IsTold, change_of}
use Rattle.dsr_effect.specs.declared.changes.Change.{Change as OwnChange}
use Rattle.dsr_meaning.proofs.Firing.{found_fits}
use Rattle.dsr_effect.proofs.RowNumbers.{premise_declared}

pool_number : (base : Structures) (n : ℕ) → pool_at base (suc n) ≡ slice_get base.pools n
pool_number base n =
    let other : nat_eq (suc n) 0 ≡ false = grind (arith, nat_tests) in
    let before : suc n - 1 ≡ n = omega arith in
    cond-false (nat_eq (suc n) 0) None (slice_get base.pools (suc n - 1)) other ∙ ap (slice_get base.pools) before

-- a pool is there for its number
pool_there : (base : Structures) (p : ℕ) → IsPoolNumber base p → IsSome (pool_at base p)
pool_there base zero number = absurd (let from = number.from in omega (arith, from))
pool_there base (suc n) number = elim (slice_get_cases base.pools n).1 as (λ _. IsSome (pool_at base (suc n))) [
  | inl w ↦ subst IsSome (sym (pool_number base n ∙ w.2)) refl
  | inr w ↦ absurd (let to = number.to in let past = w.0 in omega (arith, to, past))
]

-- and that of a premise's set is declared
premise_pool_there : (spec : Spec) (rule : Rule) (set : ℕ) → IsTyped spec → rule.premise ≡ Some set → set < length spec.base.sets → IsSome (pool_at spec.base (premise_pool spec rule))
premise_pool_there spec rule set typed is lt = elim (slice_get_cases spec.base.sets set).1 [
  | inl w ↦
      let pool_is : premise_pool spec rule ≡ w.0.pool =
      ap (λ premise. pool_of_premise spec.base premise) is ∙ ap (λ o. option_map_or (λ d. d.pool) o 0) w.2 in
      subst (λ p. IsSome (pool_at spec.base p)) (sym pool_is)
      (pool_there spec.base w.0.pool (found_fits (IsTypedSet spec.base) spec.base.sets set w.0 typed.base.sets w.2).pool)
  | inr w ↦ absurd (let past = w.0 in omega (arith, lt, past))
]

module _ (c : OwnChange) (told : IsTold c) (rule : Rule) (among : IsIn rule c.spec.now.rules) (set : ℕ) (is : rule.premise ≡ Some set) where
  declared : set < length c.spec.now.base.sets
  declared = premise_declared c.spec.now told.typed rule set among is

  pub apart_decides : (r : Bool) → Decides r (IsMarked c.apart set) → Decides r (IsKeptApartBy (change_of c) c.update.now.place rule.premise)
  apart_decides r marked =
      let tells = told.apart set declared in
      subst (λ premise. Decides r (IsKeptApartBy (change_of c) c.update.now.place premise)) (sym is)
      (λ e. tells.0 (marked.0 e), λ apart. marked.1 (tells.1 apart))

  pub touched_at_f_decides : (r : Bool) → c.update.now.fresh ≡ Some (premise_pool c.spec.now rule) → Decides r (IsMarked c.avoided set) → Decides (not r) (IsTouchedAtF (change_of c) rule)
  touched_at_f_decides r fresh marked = (to, from) where
    there : IsSome (fresh_pool (change_of c))
    there = subst (λ o. IsSome (option_and_then (pool_at c.spec.now.base) o)) (sym fresh) (premise_pool_there c.spec.now rule set told.typed is declared)

    tells : IsTrue (slice_index_or c.avoided set false) ↔ IsAvoided c.spec.now (named_by (fresh_pool (change_of c))) set
    tells = told.avoided there set declared

    to : not r ≡ true → IsTouchedAtF (change_of c) rule
    to e = record {
      pool = fresh;
      premise = subst (λ o. IsSomeAnd o (λ s. IsAvoided c.spec.now (named_by (fresh_pool (change_of c))) s → ⊥)) (sym is)
          (λ avoided. let marks = marked.1 (tells.1 avoided) in absurd (cc (e, marks)));
    }

    from : IsTouchedAtF (change_of c) rule → not r ≡ true
    from touched =
        let open_premise = subst (λ o. IsSomeAnd o (λ s. IsAvoided c.spec.now (named_by (fresh_pool (change_of c))) s → ⊥)) is touched.premise in
        elim r as (λ b. r ≡ b → not b ≡ true) [
          | true ↦ λ e. absurd (open_premise (tells.0 (marked.0 e)))
          | false ↦ λ e. refl
        ] refl
