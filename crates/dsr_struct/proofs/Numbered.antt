-- In a tree without faults each declaration is the one for which its name stands, and what is found is what is meant.
use Rattle.std.proofs.Common.{◌≡◌, ℕ, suc, true, false, nat_eq, [], Option, None, Some, is_some, unwrap_or, slice_get, option_and_then, if◌then◌else◌, refl, sym, ap, ◌∙◌, subst, arith}
use Rattle.std.proofs.lemmas.Bool.{eqb-true, or_parts}
use Rattle.std.specs.Str.{bytes_eq}
use Rattle.dsr_tree.specs.Trees.{StructureTree, PoolTree, TreeShape}
use Rattle.dsr_tree.specs.declared.tree.PlacedName.{PlacedName}
use Rattle.dsr_tree.specs.declared.tree.Relation.{Relation}
use Rattle.dsr_tree.specs.declared.tree.Set.{Set}
use Rattle.dsr_tree.specs.declared.tree.View.{View}
use Rattle.dsr_tree.specs.declared.tree.View.TheVariants as views
use Rattle.dsr_meaning.specs.Typed.{IsPlainSetOf}
use Rattle.dsr_language_theory.specs.Declarations.{unknown_name, structure_faults, pool_faults, set_faults, relation_faults, disagree}
use Rattle.dsr_language_theory.specs.Names.{names_of, used_structure, is_complement, plain_number, plain_set, pool_structure, set_pool}
use Rattle.dsr_language_theory.specs.Tables.{number_in, typed_except, typed_set, tables}
use Rattle.dsr_struct.proofs.Faultless.{AllEmpty}
use Rattle.dsr_struct.proofs.Found.{each_is}
use Rattle.dsr_struct.proofs.Parts.{known_name, SoundStructure, sound_structure, SoundPool, sound_pool, SoundSet, sound_set, SoundRelation, sound_relation}
use Rattle.dsr_struct.proofs.Sound.{not_false, at_is, known_is, is_some_and, found_item, made_at}

-- what a look-up behind another one gives
record Through {A : Type 0} (f : ℕ → Option A) (o : Option ℕ) (y : A) : Type 0 where
  pub number : ℕ
  pub is : o ≡ Some number
  pub gives : f number ≡ Some y

through : {A : Type 0} (f : ℕ → Option A) (o : Option ℕ) (y : A) → option_and_then f o ≡ Some y → Through f o y
through f None y e = absurd cc
through f (Some n) y e = record { number = n; is = refl; gives = e }

-- numbers that don't disagree are equal
agreed : (a b : ℕ) → disagree (Some a) (Some b) ≡ false → a ≡ b
agreed a b e = eqb-true a b (not_false (nat_eq a b) e)

-- what is plain has no base
no_base : (o : Option View) → is_complement o ≡ false → (names : _) → typed_except names o ≡ None
no_base None e names = refl
no_base (Some (views.As place q)) e names = refl
no_base (Some (views.Except place q)) e names = absurd cc

module _ (t : TreeShape) (empty : AllEmpty t) where
  -- the declaration of a number has no fault
  pub structure_at : (i : ℕ) (s : StructureTree) → slice_get t.structures i ≡ Some s → SoundStructure (names_of t) i s
  structure_at i s at = sound_structure (names_of t) i s (each_is (structure_faults (names_of t)) 0 t.structures empty.structures i i s (omega arith) at)

  pub pool_at : (i : ℕ) (p : PoolTree) → slice_get t.pools i ≡ Some p → SoundPool (names_of t) i p
  pool_at i p at = sound_pool (names_of t) i p (each_is (pool_faults (names_of t)) 0 t.pools empty.pools i i p (omega arith) at)

  pub set_at : (i : ℕ) (s : Set) → slice_get t.sets i ≡ Some s → SoundSet (names_of t) i s
  set_at i s at = sound_set (names_of t) i s (each_is (set_faults (names_of t)) 0 t.sets empty.sets i i s (omega arith) at)

  pub relation_at : (i : ℕ) (r : Relation) → slice_get t.relations i ≡ Some r → SoundRelation (names_of t) i r
  relation_at i r at = sound_relation (names_of t) i r (each_is (relation_faults (names_of t)) 0 t.relations empty.relations i i r (omega arith) at)

  -- its name stands for its number
  pub structure_named : (i : ℕ) (s : StructureTree) → slice_get t.structures i ≡ Some s → (names_of t).structure s.name.name ≡ Some i
  structure_named i s at = at_is i ((names_of t).structure s.name.name) (structure_at i s at).first

  pub pool_named : (i : ℕ) (p : PoolTree) → slice_get t.pools i ≡ Some p → (names_of t).pool p.name.name ≡ Some i
  pool_named i p at = at_is i ((names_of t).pool p.name.name) (pool_at i p at).first

  pub set_named : (i : ℕ) (s : Set) → slice_get t.sets i ≡ Some s → (names_of t).set s.name.name ≡ Some i
  set_named i s at = at_is i ((names_of t).set s.name.name) (set_at i s at).first

  pub relation_named : (i : ℕ) (r : Relation) → slice_get t.relations i ≡ Some r → (names_of t).relation r.name.name ≡ Some i
  relation_named i r at = at_is i ((names_of t).relation r.name.name) (or_parts (is_some ((names_of t).set r.name.name)) _ (relation_at i r at).once).1

  pub relation_no_set : (i : ℕ) (r : Relation) → slice_get t.relations i ≡ Some r → is_some ((names_of t).set r.name.name) ≡ false
  relation_no_set i r at = (or_parts (is_some ((names_of t).set r.name.name)) _ (relation_at i r at).once).0

  -- the pool for which a name stands, and its structure
  pub record PoolOf (q : PlacedName) : Type 0 where
    pub number : ℕ
    pub item : PoolTree
    pub is : (names_of t).pool q.name ≡ Some number
    pub at : slice_get t.pools number ≡ Some item
    pub structure : pool_structure (names_of t) number ≡ Some (number_in (used_structure (names_of t)) item.structure)

  pub pool_of : (q : PlacedName) → unknown_name (names_of t).pool q ≡ [] → PoolOf q
  pool_of q e =
      let is = known_is ((names_of t).pool q.name) (known_name (names_of t).pool q e) in
      let number = number_in (names_of t).pool q in
      let found = found_item (λ p. bytes_eq p.name.name q.name) t.pools number is in
      let used = used_structure (names_of t) in
      record {
        number = number;
        item = found.item;
        is = is;
        at = found.is;
        structure = ap (option_and_then (λ d. used d.structure.name)) found.is ∙ known_is (used found.item.structure.name) (known_name used found.item.structure (pool_at number found.item found.is).structure);
      }

  -- the set of a number that is no complement
  record PlainAt (k n : ℕ) : Type 0 where
    pub item : Set
    pub at : slice_get t.sets k ≡ Some item
    pub plain : is_complement item.view ≡ false
    pub same : n ≡ k

  plain_at : (k n : ℕ) → plain_number (names_of t) k ≡ Some n → PlainAt k n
  plain_at k n e =
      elim (slice_get t.sets k) as (λ o. slice_get t.sets k ≡ o → option_and_then (λ s. if is_complement s.view then None else Some k) o ≡ Some n → PlainAt k n) [
        | None ↦ λ _ h. absurd cc
        | Some s ↦ λ at h. elim (is_complement s.view) as (λ b. is_complement s.view ≡ b → (if b then None else Some k) ≡ Some n → PlainAt k n) [
          | true ↦ λ _ g. absurd cc
          | false ↦ λ plain g. let same : n ≡ k = cc in record { item = s; at = at; plain = plain; same = same }
        ] refl h
      ] refl e

  -- a set that is named where no complement may stand, and that isn't one of another pool
  pub plain_in : (pool : ℕ) (q : PlacedName) → unknown_name (plain_set (names_of t)) q ≡ [] → disagree (Some pool) (option_and_then (set_pool (names_of t)) (plain_set (names_of t) q.name)) ≡ false → IsPlainSetOf (tables t) (suc pool) (number_in (names_of t).set q)
  plain_in pool q e same =
      let names = names_of t in
      let plain = known_is (plain_set names q.name) (known_name (plain_set names) q e) in
      let set = through (plain_number names) (names.set q.name) (number_in (plain_set names) q) plain in
      let at = plain_at set.number (number_in (plain_set names) q) set.gives in
      let pool_is = known_is (names.pool at.item.pool.name) (known_name names.pool at.item.pool (set_at set.number at.item at.at).pool) in
      let of_set : option_and_then (set_pool names) (plain_set names q.name) ≡ Some (number_in names.pool at.item.pool) =
      ap (option_and_then (set_pool names)) (plain ∙ ap Some at.same) ∙ ap (option_and_then (λ s. names.pool s.pool.name)) at.at ∙ pool_is in
      let one_pool = agreed pool (number_in names.pool at.item.pool) (subst (λ o. disagree (Some pool) o ≡ false) of_set same) in
      subst (IsPlainSetOf (tables t) (suc pool)) (sym (ap (λ o. unwrap_or o 0) set.is))
      (is_some_and (λ s. (s.pool ≡ suc pool) × (s.except ≡ None)) (slice_get (tables t).sets set.number) (typed_set names at.item) (made_at (typed_set names) t.sets set.number at.item at.at) (ap suc (sym one_pool), no_base at.item.view at.plain names))
