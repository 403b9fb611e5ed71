-- The tables of a tree without faults are typed.
use Rattle.std.proofs.Common.{◌≡◌, ◌≤◌, ◌+◌, ℕ, suc, true, false, nat_eq, List, [], map, length, codes, Option, Some, is_some, is_none, slice_get, option_map, if◌then◌else◌, All, ap, ◌∙◌, arith}
use Rattle.std.specs.Prelude.{IsSomeAnd}
use Rattle.std.specs.Str.{bytes_eq}
use Rattle.std.proofs.lemmas.Option.{slice_get-get_or}
use Rattle.std.proofs.lemmas.Slice.Eq.{bytes_eq-Decides}
use Rattle.dsr_tree.specs.Trees.{TreeShape}
use Rattle.dsr_tree.specs.declared.faults.Condition.TheVariants as conditions
use Rattle.dsr_meaning.specs.Typed.{AreDifferent, IsTypedStructure, IsTypedPool, IsTypedSet, IsTypedRel, symbol_names, AreTyped}
use Rattle.dsr_language_theory.specs.Declarations.{declaration_faults}
use Rattle.dsr_language_theory.specs.Names.{names_of, structure_number}
use Rattle.dsr_language_theory.specs.Tables.{typed_structure, typed_pool, typed_set, typed_relation, version_of, tables}
use Rattle.dsr_language_theory.proofs.Absent.{when_absent}
use Rattle.dsr_struct.proofs.Faultless.{AllEmpty, all_empty}
use Rattle.dsr_struct.proofs.Found.{mapped_is}
use Rattle.dsr_struct.proofs.Numbered.{structure_named, pool_named, set_named, relation_named, relation_no_set}
use Rattle.dsr_struct.proofs.PlaceableTables.{placeable_tables}
use Rattle.dsr_struct.proofs.Sound.{known_is, is_some_and, found_item, made_at, different, in_both}
use Rattle.dsr_struct.proofs.TypedFields.{structure_is_typed}
use Rattle.dsr_struct.proofs.TypedSets.{pool_is_typed, set_is_typed, relation_is_typed}

-- what holds of what each item is made to
all_mapped : {S T : Type 0} (g : S → T) (P : T → Type 0) (xs : List S) → ((i : ℕ) (x : S) → slice_get xs i ≡ Some x → P (g x)) → All P (map g xs)
all_mapped g P xs h k d lt = mapped_is g (λ _. P) xs h k _ (slice_get-get_or (map g xs) k d lt)

version_fits : (n : ℕ) → (1 ≤ version_of n) × (version_of n ≤ 2)
version_fits n = elim (nat_eq n 2) as (λ b. (1 ≤ (if b then 2 else 1)) × ((if b then 2 else 1) ≤ 2)) [ true ↦ (omega arith, omega arith) | false ↦ (omega arith, omega arith) ]

module _ (t : TreeShape) (empty : AllEmpty t) where
  head_is : IsSomeAnd (slice_get (tables t).structures (tables t).head) (λ s. s.name ≡ codes "Head")
  head_is =
      let number = structure_number t (codes "Head") in
      let is = known_is number (when_absent (is_none number) conditions.UnknownName 0 empty.head) in
      let found = found_item (λ s. bytes_eq s.name.name (codes "Head")) t.structures (tables t).head is in
      is_some_and (λ s. s.name ≡ codes "Head") _ (typed_structure (names_of t) found.item) (made_at (typed_structure (names_of t)) t.structures (tables t).head found.item found.is) ((bytes_eq-Decides found.item.name.name (codes "Head")).0 found.passes)

  -- ---- names

  structures_differ : AreDifferent (map (λ s. s.name) (tables t).structures)
  structures_differ = different (names_of t).structure _ (mapped_is (λ s. s.name) (λ i q. (names_of t).structure q ≡ Some i) (tables t).structures (mapped_is (typed_structure (names_of t)) (λ i s. (names_of t).structure s.name ≡ Some i) t.structures (structure_named t empty)))

  pools_differ : AreDifferent (map (λ d. d.name) (tables t).pools)
  pools_differ = different (names_of t).pool _ (mapped_is (λ d. d.name) (λ i q. (names_of t).pool q ≡ Some i) (tables t).pools (mapped_is (typed_pool (names_of t)) (λ i d. (names_of t).pool d.name ≡ Some i) t.pools (pool_named t empty)))

  -- the number of a set, or behind all sets that of a relation
  abbrev many_sets : ℕ
  many_sets = length (map (λ s. s.name) (tables t).sets)

  abbrev symbol : List ℕ → Option ℕ
  symbol q = if is_some ((names_of t).set q) then (names_of t).set q else option_map (λ k. many_sets + k) ((names_of t).relation q)

  of_set : (i : ℕ) (q : List ℕ) → (names_of t).set q ≡ Some i → symbol q ≡ Some i
  of_set i q e = ap (λ o. if is_some o then o else option_map (λ k. many_sets + k) ((names_of t).relation q)) e

  of_relation : (i : ℕ) (q : List ℕ) → is_some ((names_of t).set q) ≡ false → (names_of t).relation q ≡ Some i → symbol q ≡ Some (many_sets + i)
  of_relation i q none e = ap (λ b. if b then (names_of t).set q else option_map (λ k. many_sets + k) ((names_of t).relation q)) none ∙ ap (option_map (λ k. many_sets + k)) e

  symbols_differ : AreDifferent (symbol_names (tables t))
  symbols_differ = different symbol _ (in_both (λ i q. symbol q ≡ Some i) (map (λ s. s.name) (tables t).sets) (map (λ r. r.name) (tables t).rels)
      (mapped_is (λ s. s.name) (λ i q. symbol q ≡ Some i) (tables t).sets (mapped_is (typed_set (names_of t)) (λ i s. symbol s.name ≡ Some i) t.sets (λ i s at. of_set i s.name.name (set_named t empty i s at))))
      (mapped_is (λ r. r.name) (λ i q. symbol q ≡ Some (many_sets + i)) (tables t).rels (mapped_is (typed_relation (names_of t)) (λ i r. symbol r.name ≡ Some (many_sets + i)) t.relations (λ i r at. of_relation i r.name.name (relation_no_set t empty i r at) (relation_named t empty i r at)))))

-- the tables of a tree without faults
pub typed_tables : (t : TreeShape) → declaration_faults t ≡ [] → AreTyped (tables t)
typed_tables t e =
    let names = names_of t in
    let base = tables t in
    let empty = all_empty t e in
    let placeable = placeable_tables t e in
    record {
      version = version_fits t.version.number;
      head = head_is t empty;
      structures = mapped_is (typed_structure names) (IsTypedStructure base) t.structures (structure_is_typed t empty);
      pools = mapped_is (typed_pool names) (λ i d. IsTypedPool base (suc i) d) t.pools (pool_is_typed t empty);
      sets = all_mapped (typed_set names) (IsTypedSet base) t.sets (set_is_typed t empty);
      rels = all_mapped (typed_relation names) (IsTypedRel base) t.relations (relation_is_typed t empty);
      structure_names = structures_differ t empty;
      pool_names = pools_differ t empty;
      symbol_names = symbols_differ t empty;
      few_structures = placeable.few_structures;
      few_pools = placeable.few_pools;
      few_symbols = placeable.few_symbols;
    }
