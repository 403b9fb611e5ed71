-- Pools, sets and relations without fault are typed in the tables.
use Rattle.std.proofs.Common.{◌≡◌, ◌≤◌, ◌<◌, ◌-◌, if◌then◌else◌, inl, inr, ℕ, suc, true, false, ◌&&◌, ◌||◌, nat_eq, List, [], ◌∷◌, map, length, Option, None, Some, IfSome, unwrap_or, slice_get, option_and_then, All, refl, sym, ap, ◌∙◌, subst, arith}
use Rattle.std.specs.Prelude.{IsSomeAnd, IsSome}
use Rattle.std.specs.Str.{bytes_eq}
use Rattle.std.proofs.lemmas.Bool.{eqb-true, or_parts}
use Rattle.std.proofs.lemmas.List.{length-map}
use Rattle.std.proofs.Math.Dec.{eqb-suc-zero}
use Rattle.std.proofs.lemmas.Slice.Eq.{bytes_eq-Decides}
use Rattle.dsr_tree.specs.Trees.{PoolTree, TreeShape}
use Rattle.dsr_tree.specs.declared.faults.Condition.TheVariants as conditions
use Rattle.dsr_tree.specs.declared.tree.Fresh.{Fresh}
use Rattle.dsr_tree.specs.declared.tree.PlacedName.{PlacedName}
use Rattle.dsr_tree.specs.declared.tree.Relation.{Relation}
use Rattle.dsr_tree.specs.declared.tree.Set.{Set}
use Rattle.dsr_tree.specs.declared.tree.Target.{Target}
use Rattle.dsr_tree.specs.declared.tree.Target.TheVariants as targets
use Rattle.dsr_tree.specs.declared.tree.Var.{Var}
use Rattle.dsr_tree.specs.declared.tree.Var.TheVariants as vars
use Rattle.dsr_tree.specs.declared.tree.View.{View}
use Rattle.dsr_tree.specs.declared.tree.View.TheVariants as views
use Rattle.dsr_ir.specs.declared.declarations.Structures.{Structures}
use Rattle.dsr_meaning.specs.Counting.{IsIn}
use Rattle.dsr_meaning.specs.Typed.{IsPoolNumber, IsOtherStructure, Descends, IsPlainSetOf, IsTypedPool, pool_at as pool_of_number, IsTypedSet, IsTypedRel}
use Rattle.dsr_meaning.specs.Lists.{any_of, each_at}
use Rattle.dsr_meaning.proofs.Empty.{both_empty}
use Rattle.dsr_language_theory.specs.Declarations.{unknown_name, is_unrelated, disagree, view_faults, source_faults, target_faults, all_sets, is_elsewhere, supply_faults}
use Rattle.dsr_language_theory.specs.Names.{names_of, used_structure, ancestors_of, descends, pool_structure, plain_set, set_pool}
use Rattle.dsr_language_theory.specs.Tables.{number_in, avoided_by, avoided, typed_structure, typed_pool, set_structure, typed_except, typed_set, typed_source, typed_target, typed_relation, tables}
use Rattle.dsr_language_theory.proofs.Absent.{when_absent}
use Rattle.dsr_struct.proofs.Faultless.{AllEmpty}
use Rattle.dsr_struct.proofs.FixedNames.{fixed_numbers}
use Rattle.dsr_struct.proofs.Found.{each_is, map_has}
use Rattle.dsr_struct.proofs.KnownNames.{other_structures, pool_numbers}
use Rattle.dsr_struct.proofs.Lineage.{ancestors_are}
use Rattle.dsr_struct.proofs.NamesInExprs.{number_has, expr_is_typed, maybe_is_typed}
use Rattle.dsr_struct.proofs.Numbered.{PoolOf, pool_of, pool_at, pool_named, set_at, relation_at, plain_in}
use Rattle.dsr_struct.proofs.Parts.{known_name, sound_supply}
use Rattle.dsr_struct.proofs.Sound.{not_false, not_true, second_fails, known_some, all_with, known_is, is_some_and, found_item, made_at, some_is}

-- a structure that descends from another one, by numbers
descends_is : (i a : ℕ) (line : List ℕ) → (nat_eq i a || any_of (nat_eq a) line) ≡ true → IsIn a (i ∷ line)
descends_is i a line e = elim (nat_eq i a) as (λ b. nat_eq i a ≡ b → (b || any_of (nat_eq a) line) ≡ true → IsIn a (i ∷ line)) [
  | true ↦ λ is _. inl (sym (eqb-true i a is))
  | false ↦ λ _ h. inr (some_is a line h)
] refl e

-- the pool of a number, counted from 1
pool_behind : (base : Structures) (n : ℕ) → pool_of_number base (suc n) ≡ slice_get base.pools n
pool_behind base n =
    let less : suc n - 1 ≡ n = omega arith in
    ap (λ b. if b then None else slice_get base.pools (suc n - 1)) (eqb-suc-zero n) ∙ ap (slice_get base.pools) less

module _ (t : TreeShape) (empty : AllEmpty t) where
  -- ---- pools

  -- the sets that a supply avoids, where it is one of a pool
  avoids_all : (pool : ℕ) (qs : List PlacedName) (n : ℕ) → each_at (λ _ q. unknown_name (plain_set (names_of t)) q) n qs ≡ [] → any_of (is_elsewhere (names_of t) (Some pool)) qs ≡ false → All (IsPlainSetOf (tables t) (suc pool)) (map (number_in (names_of t).set) qs)
  avoids_all pool [] n known same = λ k d lt. absurd (omega arith)
  avoids_all pool (q ∷ qs) n known same =
      let names = names_of t in
      let both = both_empty (unknown_name (plain_set names) q) (each_at (λ _ r. unknown_name (plain_set names) r) (suc n) qs) known in
      let none = or_parts (is_elsewhere names (Some pool) q) (any_of (is_elsewhere names (Some pool)) qs) same in
      all_with (IsPlainSetOf (tables t) (suc pool)) (number_in names.set q) (map (number_in names.set) qs) (plain_in t empty pool q both.0 none.0) (avoids_all pool qs (suc n) both.1 none.1)

  are_sets : (qs : List PlacedName) (n : ℕ) → each_at (λ _ q. unknown_name (plain_set (names_of t)) q) n qs ≡ [] → all_sets (names_of t) qs ≡ true
  are_sets [] n known = refl
  are_sets (q ∷ qs) n known =
      let names = names_of t in
      let both = both_empty (unknown_name (plain_set names) q) (each_at (λ _ r. unknown_name (plain_set names) r) (suc n) qs) known in
      let first = known_some (plain_set names q.name) (known_name (plain_set names) q both.0) in
      let rest = are_sets qs (suc n) both.1 in
      λ j. first j && rest j

  avoids : (pool i : ℕ) (f : Fresh) → (names_of t).pool f.pool.name ≡ Some pool → supply_faults (names_of t) i f ≡ [] → All (IsPlainSetOf (tables t) (suc pool)) (avoided_by (names_of t) f)
  avoids pool i f is e =
      let names = names_of t in
      let sets = f.first ∷ f.rest in
      let sound = sound_supply names i f e in
      let none = second_fails (all_sets names sets) (any_of (is_elsewhere names (names.pool f.pool.name)) sets) (are_sets sets 0 sound.sets) sound.same_pool in
      avoids_all pool sets 0 sound.sets (subst (λ o. any_of (is_elsewhere names o) sets ≡ false) is none)

  -- those that the supply of a pool avoids
  typed_avoid : (i : ℕ) (p : PoolTree) → slice_get t.pools i ≡ Some p → IfSome (avoided (names_of t) p.name.name) (All (IsPlainSetOf (tables t) (suc i)))
  typed_avoid i p at =
      map_has (avoided_by (names_of t)) (option_and_then (slice_get t.supplies) ((names_of t).supply p.name.name)) (All (IsPlainSetOf (tables t) (suc i))) (of ((names_of t).supply p.name.name) refl)
    where
      of : (o : Option ℕ) → (names_of t).supply p.name.name ≡ o → IfSome (option_and_then (slice_get t.supplies) o) (λ f. All (IsPlainSetOf (tables t) (suc i)) (avoided_by (names_of t) f))
      of None e = tt
      of (Some k) e =
          let names = names_of t in
          let found = found_item (λ f. bytes_eq f.pool.name p.name.name) t.supplies k e in
          let pool = ap names.pool ((bytes_eq-Decides found.item.pool.name p.name.name).0 found.passes) ∙ pool_named t empty i p at in
          subst (λ o. IfSome o (λ f. All (IsPlainSetOf (tables t) (suc i)) (avoided_by names f))) (sym found.is) (avoids i k found.item pool (each_is (supply_faults names) 0 t.supplies empty.supplies k k found.item (omega arith) found.is))

  pub pool_is_typed : (i : ℕ) (p : PoolTree) → slice_get t.pools i ≡ Some p → IsTypedPool (tables t) (suc i) (typed_pool (names_of t) p)
  pool_is_typed i p at =
      let names = names_of t in
      let sound = pool_at t empty i p at in
      let typed = expr_is_typed (tables t) names.fixed (fixed_numbers t empty) in
      record {
        structure = number_has (used_structure names) (IsOtherStructure (tables t)) p.structure (other_structures t empty p.structure.name) sound.structure;
        count = typed p.count sound.count;
        slot = maybe_is_typed (tables t) names.fixed (fixed_numbers t empty) p.slot sound.slot;
        start = typed p.start sound.start;
        code = typed p.code sound.code;
        step = typed p.step sound.step;
        none = typed p.none sound.none;
        avoid = typed_avoid i p at;
      }

  -- ---- sets

  record TypedView (s : Set) (o : Option View) : Type 0 where
    pub structure : IsOtherStructure (tables t) (set_structure (names_of t) s o)
    pub view : IsSomeAnd (pool_of_number (tables t) (suc (number_in (names_of t).pool s.pool))) (λ d. Descends (tables t).structures (set_structure (names_of t) s o) d.structure)
    pub except : IfSome (typed_except (names_of t) o) (IsPlainSetOf (tables t) (suc (number_in (names_of t).pool s.pool)))
    pub complement_view : IsSome (typed_except (names_of t) o) → IsSomeAnd (pool_of_number (tables t) (suc (number_in (names_of t).pool s.pool))) (λ d. set_structure (names_of t) s o ≡ d.structure)

  module _ (s : Set) (pool : PoolOf t empty s.pool) where
    -- the pool of a set in the tables
    pool_there : pool_of_number (tables t) (suc (number_in (names_of t).pool s.pool)) ≡ Some (typed_pool (names_of t) pool.item)
    pool_there = pool_behind (tables t) (number_in (names_of t).pool s.pool) ∙ ap (λ o. slice_get (tables t).pools (unwrap_or o 0)) pool.is ∙ made_at (typed_pool (names_of t)) t.pools pool.number pool.item pool.at

    -- its structure, as that of a set
    structure_there : option_and_then (pool_structure (names_of t)) ((names_of t).pool s.pool.name) ≡ Some (typed_pool (names_of t) pool.item).structure
    structure_there = ap (option_and_then (pool_structure (names_of t))) pool.is ∙ pool.structure

    structure_known : IsOtherStructure (tables t) (typed_pool (names_of t) pool.item).structure
    structure_known = number_has (used_structure (names_of t)) (IsOtherStructure (tables t)) pool.item.structure (other_structures t empty pool.item.structure.name) (pool_at t empty pool.number pool.item pool.at).structure

    typed_view : (o : Option View) → view_faults (names_of t) s o ≡ [] → TypedView s o
    typed_view None e =
        let same : set_structure (names_of t) s None ≡ (typed_pool (names_of t) pool.item).structure = ap (λ o. unwrap_or o 0) structure_there in
        record {
          structure = subst (IsOtherStructure (tables t)) (sym same) structure_known;
          view = is_some_and _ _ (typed_pool (names_of t) pool.item) pool_there (inl (sym same));
          except = tt;
          complement_view = λ h. absurd (not_true h);
        }
    typed_view (Some (views.As place q)) e =
        let names = names_of t in
        let used = used_structure names in
        let both = both_empty _ _ e in
        let i = number_in used q in
        let a = (typed_pool names pool.item).structure in
        let known = known_is (used q.name) (known_name used q both.0) in
        let other = number_has used (IsOtherStructure (tables t)) q (other_structures t empty q.name) both.0 in
        let both_known : is_unrelated names (used q.name) (option_and_then (pool_structure names) (names.pool s.pool.name)) ≡ is_unrelated names (Some i) (Some a) = λ j. is_unrelated names (known j) (structure_there j) in
        let related = not_false (descends names i a) (sym both_known ∙ when_absent _ conditions.PoolMismatch s.place both.1) in
        let line = ancestors_are t empty i (subst (λ n. i < n) (length-map t.structures (typed_structure names)) other.declared) in
        record {
          structure = other;
          view = is_some_and _ _ (typed_pool names pool.item) pool_there (subst (λ l. IsIn a (i ∷ l)) (sym line) (descends_is i a (ancestors_of names i) related));
          except = tt;
          complement_view = λ h. absurd (not_true h);
        }
    typed_view (Some (views.Except place q)) e =
        let names = names_of t in
        let both = both_empty _ _ e in
        let same : set_structure names s (Some (views.Except place q)) ≡ (typed_pool names pool.item).structure = ap (λ o. unwrap_or o 0) structure_there in
        let agree = when_absent _ conditions.PoolMismatch s.place both.1 in
        let plain = plain_in t empty pool.number q both.0 (subst (λ o. disagree o (option_and_then (set_pool names) (plain_set names q.name)) ≡ false) pool.is agree) in
        record {
          structure = subst (IsOtherStructure (tables t)) (sym same) structure_known;
          view = is_some_and _ _ (typed_pool names pool.item) pool_there (inl (sym same));
          except = subst (λ n. IsPlainSetOf (tables t) (suc n) (number_in names.set q)) (sym (ap (λ o. unwrap_or o 0) pool.is)) plain;
          complement_view = λ _. is_some_and _ _ (typed_pool names pool.item) pool_there same;
        }

  pub set_is_typed : (i : ℕ) (s : Set) → slice_get t.sets i ≡ Some s → IsTypedSet (tables t) (typed_set (names_of t) s)
  set_is_typed i s at =
      let sound = set_at t empty i s at in
      let view = typed_view s (pool_of t empty s.pool sound.pool) s.view sound.viewed in
      record {
        pool = pool_numbers t empty s.pool sound.pool;
        structure = view.structure;
        view = view.view;
        except = view.except;
        complement_view = view.complement_view;
      }

  -- ---- relations

  typed_source_of : (v : Var) → source_faults (names_of t) v ≡ [] → typed_source (names_of t) v ≤ length (tables t).pools
  typed_source_of (vars.Head place) e = omega arith
  typed_source_of (vars.Name q) e = (pool_numbers t empty q e).to

  typed_target_of : (v : Target) → target_faults (names_of t) v ≡ [] → IfSome (typed_target (names_of t) v) (IsPoolNumber (tables t))
  typed_target_of (targets.Number place) e = tt
  typed_target_of (targets.Pool q) e = pool_numbers t empty q e

  pub relation_is_typed : (i : ℕ) (r : Relation) → slice_get t.relations i ≡ Some r → IsTypedRel (tables t) (typed_relation (names_of t) r)
  relation_is_typed i r at =
      let sound = relation_at t empty i r at in
      record { source = typed_source_of r.source sound.source; target = typed_target_of r.target sound.target }
