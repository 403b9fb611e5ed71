-- By which structures records of a pool are read.
use Rattle.std.proofs.Common.{◌≡◌, ◌<◌, ◌+◌, ◌∙◌, ◌⊎◌, inl, inr, ℕ, zero, suc, Bool, true, false, cond, List, [], ◌∷◌, None, Some, length, take, get_or, nat_eq, refl, sym, ap, subst, arith}
use Rattle.std.specs.Prelude.{IsSomeAnd, MatchBool, ◌-◌, slice_get}
use Rattle.std.proofs.lemmas.Bool.Decides.{nat_tests}
use Rattle.dsr_ir.specs.declared.declarations.SetDecl.{SetDecl}
use Rattle.dsr_ir.specs.declared.declarations.Structures.{Structures}
use Rattle.dsr_meaning.specs.Counting.{IsIn}
use Rattle.dsr_meaning.specs.Typed.{Descends, pool_at}
use Rattle.dsr_report_read.proofs.Sought.{NoneViewed}
use Rattle.dsr_report_read.specs.Forms.{IsOfPool, IsTop, of_head, of_pool, of_set}
use Rattle.dsr_report_read.specs.Reads.{IsOwn, IsViewed}

pub in_got : {A : Type 0} (xs : List A) (i : ℕ) (x : A) → i < length xs → x ≡ get_or xs i x → IsIn x xs
in_got [] i x less is = absurd (omega (arith, less))
in_got (y ∷ xs) zero x less is = inl is
in_got (y ∷ xs) (suc i) x less is = inr (in_got xs i x (omega (arith, less)) is)

pub there_got : {A : Type 0} (xs : List A) (i : ℕ) (x : A) → i < length xs → x ≡ get_or xs i x → slice_get xs i ≡ Some x
there_got [] i x less is = absurd (omega (arith, less))
there_got (y ∷ xs) zero x less is = ap Some (sym is)
there_got (y ∷ xs) (suc i) x less is = there_got xs i x (omega (arith, less)) is

in_more : {A : Type 0} (xs : List A) (i : ℕ) (x y : A) → i < length xs → x ≡ get_or xs i x → IsIn y (take (i + 1) xs) → IsIn y (take i xs) ⊎ (y ≡ x)
in_more [] i x y less is there = absurd (omega (arith, less))
in_more (z ∷ xs) zero x y less is there = elim there as (λ _. IsIn y [] ⊎ (y ≡ x)) [ inl same ↦ inr (same ∙ sym is) | inr none ↦ absurd none ]
in_more {A} (z ∷ xs) (suc i) x y less is there =
    let next : suc i + 1 ≡ suc (i + 1) = omega arith in
    let its : IsIn y (z ∷ take (i + 1) xs) = subst (λ n. IsIn y (take n (z ∷ xs))) next there in
    elim its as (λ _. IsIn y (z ∷ take i xs) ⊎ (y ≡ x)) [
      | inl same ↦ inl (inl same)
      | inr rest ↦ elim (in_more xs i x y (omega (arith, less)) is rest) as (λ _. IsIn y (z ∷ take i xs) ⊎ (y ≡ x)) [ inl t ↦ inl (inr t) | inr same ↦ inr same ]
    ]

in_past : {A : Type 0} (xs : List A) (i : ℕ) (y : A) → (i < length xs → ⊥) → IsIn y xs → IsIn y (take i xs)
in_past [] i y past there = absurd there
in_past (z ∷ xs) zero y past there = absurd (past (omega arith))
in_past (z ∷ xs) (suc i) y past there =
    elim there as (λ _. (y ≡ z) ⊎ IsIn y (take i xs)) [
      | inl same ↦ inl same
      | inr rest ↦ inr (in_past xs i y (λ less. past (omega (arith, less))) rest)
    ]

module _ (base : Structures) (pool structure : ℕ) where
  module _ (sets : List SetDecl) (i : ℕ) where
    pub one_viewed : (x : SetDecl) → i < length sets → x ≡ get_or sets i x → NoneViewed base pool structure (take i sets)
        → (x.pool ≡ pool → Descends base.structures x.structure structure → ⊥) → NoneViewed base pool structure (take (i + 1) sets)
    one_viewed x less is before here = λ set there of_pool descends.
        elim (in_more sets i x set less is there) as (λ _. ⊥) [
          | inl t ↦ before set t of_pool descends
          | inr same ↦ here (subst (λ s. s.pool ≡ pool) same of_pool) (subst (λ s. Descends base.structures s.structure structure) same descends)
        ]

  pub none_viewed : (i : ℕ) → (i < length base.sets → ⊥) → NoneViewed base pool structure (take i base.sets) → IsViewed base pool structure → ⊥
  none_viewed i past none its = none its.set (in_past base.sets i its.set past its.is_in) its.of_pool its.descends

  abbrev Own : Bool → Type 0
  Own b = MatchBool b (Descends base.structures base.head structure) (IsSomeAnd (pool_at base pool) (λ its. Descends base.structures its.structure structure))

  pub from_own : IsOwn base pool structure → IsOfPool base pool structure
  from_own own =
      elim (nat_eq pool 0) as (λ b. nat_eq pool 0 ≡ b → Own b → IsOfPool base pool structure) [
        | true ↦ λ e descends. record { top = base.head; is_top = of_head (grind (arith, nat_tests)); descends = descends }
        | false ↦ λ e its.
            elim (pool_at base pool) as (λ o. pool_at base pool ≡ o → IsSomeAnd o (λ p. Descends base.structures p.structure structure) → IsOfPool base pool structure) [
              | None ↦ λ _ none. absurd none
              | Some p ↦ λ is descends. record { top = p.structure; is_top = of_pool p is; descends = descends }
            ] refl its
      ] refl own

  pub from_viewed : IsViewed base pool structure → IsOfPool base pool structure
  from_viewed its = record { top = its.set.structure; is_top = of_set its.set its.is_in its.of_pool; descends = its.descends }

  own_or : (top : ℕ) → IsTop base pool top → Descends base.structures top structure → IsOwn base pool structure ⊎ IsViewed base pool structure
  own_or _ (of_head zero_is) descends = inl (let e : nat_eq pool 0 ≡ true = grind (arith, nat_tests) in subst Own (sym e) descends)
  own_or _ (of_pool p is) descends =
      elim (nat_eq pool 0) as (λ b. nat_eq pool 0 ≡ b → cond b None (slice_get base.pools (pool - 1)) ≡ Some p → IsOwn base pool structure ⊎ IsViewed base pool structure) [
        | true ↦ λ e none. absurd cc
        | false ↦ λ e there. inl (subst Own (sym e) (subst (λ o. IsSomeAnd o (λ p. Descends base.structures p.structure structure)) (sym is) descends))
      ] refl is
  own_or _ (of_set set there of_it) descends = inr (record { set = set; is_in = there; of_pool = of_it; descends = descends })

  pub own_or_viewed : IsOfPool base pool structure → IsOwn base pool structure ⊎ IsViewed base pool structure
  own_or_viewed its = own_or its.top its.is_top its.descends
