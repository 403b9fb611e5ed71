-- A count of records is at most the number of slots in which they lie.
use Rattle.std.proofs.Common.{◌≡◌, ◌<◌, ◌≤◌, ◌||◌, ℕ, true, false, eqb, List, [], ◌∷◌, length, map, Option, None, Some, IsSome, IsSomeAnd, inl, inr, refl, sym, ap, subst, ◌∙◌}
use Rattle.std.proofs.lemmas.Bool.{false≢true}
use Rattle.std.proofs.lemmas.Bool.Decides.{eqb_tells}
use Rattle.std.proofs.lemmas.List.{length-map}
use Rattle.std.proofs.lemmas.Map.Steps.{length-le_from_distinct_below}
use Rattle.std.proofs.lemmas.Option.{same_Some}
use Rattle.std.specs.List.{AllByRecursion, list_any, IsDistinct as AllDiffer}
use Rattle.std.specs.Option.{option_map_or}
use Rattle.std.specs.Prelude.{slice_get}
use Rattle.dsr_ir.specs.declared.constraints.Measure.TheVariants.{Whole, Out, Into}
use Rattle.dsr_ir.specs.declared.declarations.Rel.{Rel}
use Rattle.dsr_ir.specs.declared.declarations.Spec.{Spec}
use Rattle.dsr_ir.specs.declared.layouts.Layout.{Layout}
use Rattle.dsr_ir.specs.declared.tuples.Element.{Element}
use Rattle.dsr_ir.specs.declared.tuples.Fact.TheVariants.{Member, Pair}
use Rattle.dsr_ir.specs.declared.tuples.Target.{Target}
use Rattle.dsr_ir.specs.declared.tuples.Target.TheVariants.{Elem, Num}
use Rattle.dsr_meaning.specs.Counting.{IsIn, IsDistinct, AreMany}
use Rattle.dsr_meaning.specs.Instances.{record_count, set_pool}
use Rattle.dsr_meaning.specs.Models.{IsFact}
use Rattle.dsr_meaning.specs.Truth.{element_of}
use Rattle.dsr_layout.specs.InRange.{FactsLieInRange, IsRecordOf, IsTargetOf}
use Rattle.dsr_model_laws.specs.Sizes.{SizesAreBounded}

module _ {A : Type 0} (number : A → ℕ) where
  apart : (x : A) (xs : List A) → ((y : A) → IsIn y xs → number x ≡ number y → ⊥) → AllByRecursion (λ n. eqb (number x) n ≡ false) (map number xs)
  apart x [] other = tt
  apart x (y ∷ xs) other = (elim (eqb_tells (number x) (number y)) as (λ _. eqb (number x) (number y) ≡ false) [ inl same ↦ absurd (other y (inl refl) same.1) | inr differs ↦ differs.0 ], apart x xs (λ z i. other z (inr i)))

  differ : (xs : List A) → IsDistinct xs → ((x y : A) → IsIn x xs → IsIn y xs → number x ≡ number y → x ≡ y) → AllDiffer eqb (map number xs)
  unfolding AllDiffer
  differ [] distinct once = tt
  differ (x ∷ xs) distinct once =
      (apart x xs (λ y i same. distinct.0 (subst (λ z. IsIn z xs) (sym (once x y (inl refl) (inr i) same)) i)), differ xs distinct.1 (λ y z i j. once y z (inr i) (inr j)))

  below_all : (k : ℕ) (xs : List A) → ((x : A) → IsIn x xs → number x < k) → (n : ℕ) → list_any (eqb n) (map number xs) ≡ true → n < k
  below_all k [] below n found = absurd (false≢true found)
  below_all k (x ∷ xs) below n found = elim (eqb_tells n (number x)) as (λ _. n < k) [
    | inl same ↦ subst (λ m. m < k) (sym same.1) (below x (inl refl))
    | inr differs ↦ below_all k xs (λ y i. below y (inr i)) n (subst (λ b. (b || list_any (eqb n) (map number xs)) ≡ true) differs.0 found)
  ]

  -- things that are told apart by numbers below another one are no more than that
  few : (P : A → Type 0) (k : ℕ) → ((x : A) → P x → number x < k) → ((x y : A) → P x → P y → number x ≡ number y → x ≡ y) → (n : ℕ) → AreMany P n → n ≤ k
  few P k below once n are =
      let only = are.enumerated.only in
      let at_most : length (map number are.things) ≤ k =
      length-le_from_distinct_below (map number are.things) k (differ are.things are.enumerated.distinct (λ x y i j. once x y (only x i) (only y j)))
      (below_all k are.things (λ x i. below x (only x i))) in
      subst (λ m. m ≤ k) (length-map are.things number ∙ are.counted) at_most

-- records of one pool are told apart by their slots
same_record : (layout : Layout) (pool : ℕ) (e f : Element) → IsRecordOf layout pool e → IsRecordOf layout pool f → e.slot ≡ f.slot → e ≡ f
same_record layout pool e f p q same = let pools = p.pool_is ∙ sym q.pool_is in λ i. record { pool = pools i; slot = same i }

slot_of : Target → ℕ
slot_of (Elem e) = e.slot
slot_of (Num n) = n

target_below : (layout : Layout) (pool : ℕ) (t : Target) → IsTargetOf layout (Some pool) t → slot_of t < record_count layout pool
unfolding slot_of
target_below layout pool (Elem e) at = at.slot_below
target_below layout pool (Num n) at = absurd at

same_target : (layout : Layout) (pool : ℕ) (t u : Target) → IsTargetOf layout (Some pool) t → IsTargetOf layout (Some pool) u → slot_of t ≡ slot_of u → t ≡ u
unfolding slot_of
same_target layout pool (Elem e) (Elem f) p q same = ap Elem (same_record layout pool e f p q same)
same_target layout pool (Num m) u p q same = absurd p
same_target layout pool (Elem e) (Num n) p q same = absurd q

-- what holds of the number for each element holds of it for the one that is named
of_named : {A : Type 0} (P : Element → A → Type 0) (o : Option Element) (n k : ℕ) → IsSomeAnd o (λ x. AreMany (P x) n) → ((x : Element) → AreMany (P x) n → n ≤ k) → n ≤ k
of_named P None n k are all = absurd are
of_named P (Some x) n k are all = all x are

module _ (spec : Spec) (bytes : List ℕ) (layout : Layout) (in_range : FactsLieInRange spec bytes layout) where
  member_record : (set : ℕ) (e : Element) → IsFact spec layout bytes (Member set e) → IsRecordOf layout (set_pool spec set) e
  member_record set e fact =
      let at = in_range (Member set e) fact in
      subst (λ p. IsRecordOf layout p e) (sym (ap (λ o. option_map_or (λ d. d.pool) o 0) at.declared)) at.member

  few_members : (set n : ℕ) → AreMany (λ e. IsFact spec layout bytes (Member set e)) n → n ≤ record_count layout (set_pool spec set)
  few_members set n are =
      few (λ e. e.slot) (λ e. IsFact spec layout bytes (Member set e)) (record_count layout (set_pool spec set)) (λ e h. (member_record set e h).slot_below)
      (λ e f p q. same_record layout (set_pool spec set) e f (member_record set e p) (member_record set f q)) n are

  abbrev source_count : ℕ → ℕ
  source_count rel = option_map_or (λ r. record_count layout r.source) (slice_get spec.base.rels rel) 0

  source_below : (rel : ℕ) (x : Element) (t : Target) → IsFact spec layout bytes (Pair rel x t) → x.slot < source_count rel
  source_below rel x t fact =
      let at = in_range (Pair rel x t) fact in
      subst (λ n. x.slot < n) (sym (ap (λ o. option_map_or (λ r. record_count layout r.source) o 0) at.declared)) at.source.slot_below

  same_source : (rel : ℕ) (t : Target) (x y : Element) → IsFact spec layout bytes (Pair rel x t) → IsFact spec layout bytes (Pair rel y t) → x.slot ≡ y.slot → x ≡ y
  same_source rel t x y p q same =
      let one = in_range (Pair rel x t) p in
      let two = in_range (Pair rel y t) q in
      let decl = same_Some two.decl one.decl (sym two.declared ∙ one.declared) in
      same_record layout one.decl.source x y one.source (subst (λ (r : Rel). IsRecordOf layout r.source y) decl two.source) same

  few_sources : (rel : ℕ) (y : Element) (n : ℕ) → AreMany (λ e. IsFact spec layout bytes (Pair rel e (Elem y))) n → n ≤ source_count rel
  few_sources rel y n are = few (λ e. e.slot) (λ e. IsFact spec layout bytes (Pair rel e (Elem y))) (source_count rel) (λ e h. source_below rel e (Elem y) h) (same_source rel (Elem y)) n are

  target_record : (rel : ℕ) (decl : Rel) (pool : ℕ) → slice_get spec.base.rels rel ≡ Some decl → decl.target ≡ Some pool → (x : Element) (t : Target) → IsFact spec layout bytes (Pair rel x t) → IsTargetOf layout (Some pool) t
  target_record rel decl pool declared is x t fact =
      let at = in_range (Pair rel x t) fact in
      let one = same_Some at.decl decl (sym at.declared ∙ declared) in
      subst (λ o. IsTargetOf layout o t) (ap (λ (r : Rel). r.target) one ∙ is) at.target_is

  few_targets : (rel : ℕ) (decl : Rel) (pool : ℕ) → slice_get spec.base.rels rel ≡ Some decl → decl.target ≡ Some pool → (x : Element) (n : ℕ) → AreMany (λ t. IsFact spec layout bytes (Pair rel x t)) n → n ≤ record_count layout pool
  few_targets rel decl pool declared is x n are =
      few slot_of (λ t. IsFact spec layout bytes (Pair rel x t)) (record_count layout pool) (λ t h. target_below layout pool t (target_record rel decl pool declared is x t h))
      (λ t u p q. same_target layout pool t u (target_record rel decl pool declared is x t p) (target_record rel decl pool declared is x u q)) n are

  pub bounded : SizesAreBounded spec bytes layout
  bounded b (Whole set) n counts are = few_members set n are
  bounded b (Out v rel) n counts are = elim (slice_get spec.base.rels rel) as (λ o. slice_get spec.base.rels rel ≡ o → IsSomeAnd o (λ r. IsSome r.target) → n ≤ option_map_or (λ r. option_map_or (record_count layout) r.target 0) o 0) [
    | None ↦ λ _ h. absurd h
    | Some decl ↦ λ declared h. elim decl.target as (λ o. decl.target ≡ o → IsSome o → n ≤ option_map_or (record_count layout) o 0) [
      | None ↦ λ _ k. absurd (false≢true k)
      | Some pool ↦ λ is _. of_named (λ x t. IsFact spec layout bytes (Pair rel x t)) (element_of b v) n (record_count layout pool) are (λ x. few_targets rel decl pool declared is x n)
    ] refl h
  ] refl counts
  bounded b (Into rel v) n counts are = of_named (λ y e. IsFact spec layout bytes (Pair rel e (Elem y))) (element_of b v) n (source_count rel) are (λ y. few_sources rel y n)
