-- The ancestors of a structure in the tables of a tree without faults are those in the tree.
use Rattle.std.proofs.Common.{◌≡◌, ◌<◌, ◌+◌, ℕ, suc, true, false, nat_eq, nat_lt, List, [], ◌∷◌, ◌++◌, map, length, reverse, Option, None, Some, is_none, unwrap_or, if◌then◌else◌, option_map, refl, sym, ap, ◌∙◌, subst, append_assoc, append-nil, arith}
use Rattle.std.specs.Option.{option_map_or}
use Rattle.std.specs.Prelude.{slice_index_or}
use Rattle.std.proofs.lemmas.Bool.{eqb-true}
use Rattle.std.proofs.lemmas.Bool.Decides.{nat_tests}
use Rattle.std.proofs.lemmas.List.{length-map, length-append, length-reverse, reverse-append, map-append, take_all}
use Rattle.dsr_tree.specs.Trees.{StructureTree, TreeShape}
use Rattle.dsr_tree.specs.declared.faults.Condition.TheVariants as conditions
use Rattle.dsr_tree.specs.declared.tree.PlacedName.{PlacedName}
use Rattle.dsr_meaning.specs.Lists.{each_at}
use Rattle.dsr_meaning.specs.Typed.{ancestors_among, ancestors}
use Rattle.dsr_meaning.proofs.Empty.{both_empty}
use Rattle.dsr_language_theory.specs.Declarations.{is_not_before, parent_faults, structure_faults}
use Rattle.dsr_language_theory.specs.Names.{Names, names_of, is_head, used_structure, before, parent_number, with_ancestors, ancestors_in, all_ancestors, ancestors_of, asked_structures}
use Rattle.dsr_language_theory.specs.Tables.{number_in, typed_structure, tables}
use Rattle.dsr_language_theory.proofs.Absent.{when_absent}
use Rattle.dsr_names.proofs.ByNumber.{by_number-get}
use Rattle.dsr_struct.proofs.Ancestors.{line_is}
use Rattle.dsr_struct.proofs.Faultless.{AllEmpty}
use Rattle.dsr_struct.proofs.Parts.{known_name, sound_structure}

-- a known number that isn't another one or behind it is before that
before_known : (i : ℕ) (o : Option ℕ) → is_none o ≡ false → is_not_before i o ≡ false → before i o ≡ Some (unwrap_or o 0)
before_known i None known e = absurd cc
before_known i (Some p) known e =
    let lt : nat_lt p i ≡ true = grind (arith, nat_tests) in
    ap (λ b. if b then Some p else None) lt

module _ (names : Names) where
  -- a parent without fault is the one of the tables
  same_parent : (i : ℕ) (o : Option PlacedName) → parent_faults names i o ≡ [] → parent_number names.structure i o ≡ option_map (number_in (used_structure names)) o
  same_parent i None e = refl
  same_parent i (Some q) e =
      let both = both_empty _ _ e in
      of (is_head q.name) (known_name (used_structure names) q both.0) (when_absent _ conditions.SubtypeLoop q.place both.1)
    where
      of : (b : _) → is_none (if b then None else names.structure q.name) ≡ false → is_not_before i (if b then None else names.structure q.name) ≡ false → (if b then None else before i (names.structure q.name)) ≡ Some (unwrap_or (if b then None else names.structure q.name) 0)
      of true known e = absurd cc
      of false known e = before_known i (names.structure q.name) known e

  -- so it is of each structure, the last one first
  abbrev HaveSameParents : List StructureTree → Type 0
  HaveSameParents [] = Unit {0}
  HaveSameParents (s ∷ earlier) = (parent_number names.structure (length earlier) s.parent ≡ option_map (number_in (used_structure names)) s.parent) × HaveSameParents earlier

  same_parents : (done rest : List StructureTree) → each_at (structure_faults names) (length done) rest ≡ [] → HaveSameParents (reverse done) → HaveSameParents (reverse (done ++ rest))
  same_parents done [] e have = subst (λ ss. HaveSameParents (reverse ss)) (sym (append-nil done)) have
  same_parents done (s ∷ rest) e have =
      let both = both_empty (structure_faults names (length done) s) (each_at (structure_faults names) (suc (length done)) rest) e in
      let sound = sound_structure names (length done) s both.0 in
      let parent = same_parent (length done) s.parent sound.parent in
      let here : HaveSameParents (s ∷ reverse done) = (subst (λ n. parent_number names.structure n s.parent ≡ option_map (number_in (used_structure names)) s.parent) (sym (length-reverse done)) parent, have) in
      let more : HaveSameParents (reverse (done ++ s ∷ [])) = subst HaveSameParents (sym (reverse-append done (s ∷ []))) here in
      let many : suc (length done) ≡ length (done ++ s ∷ []) = sym (length-append done (s ∷ []) ∙ omega arith) in
      let rest_empty = subst (λ n. each_at (structure_faults names) n rest ≡ []) many both.1 in
      subst (λ ss. HaveSameParents (reverse ss)) (append_assoc done (s ∷ []) rest) (same_parents (done ++ s ∷ []) rest rest_empty more)

  -- and hence the ancestors
  same_line : (ss : List StructureTree) → HaveSameParents ss → (i : ℕ) → ancestors_among (map (typed_structure names) ss) i ≡ ancestors_in names.structure ss i
  same_line [] have i = refl
  same_line (s ∷ earlier) have i =
      let line = ancestors_among (map (typed_structure names) earlier) in
      let line_of = ancestors_in names.structure earlier in
      let parent = option_map (number_in (used_structure names)) s.parent in
      let rest : (p : ℕ) → line p ≡ line_of p = same_line earlier have.1 in
      let all : line ≡ line_of = λ j p. rest p j in
      ap (λ n. if nat_eq i n then option_map_or (λ p. p ∷ line p) parent [] else line i) (length-map earlier (typed_structure names))
      ∙ ap (λ l. if nat_eq i (length earlier) then option_map_or (λ p. p ∷ l p) parent [] else l i) all
      ∙ (elim (nat_eq i (length earlier)) as (λ b. nat_eq i (length earlier) ≡ b → (if b then option_map_or (λ p. p ∷ line_of p) parent [] else line_of i) ≡ (if b then with_ancestors line_of (parent_number names.structure i s.parent) else line_of i)) [
        | true ↦ λ is. line_is line_of parent ∙ ap (with_ancestors line_of) (sym have.0 ∙ ap (λ n. parent_number names.structure n s.parent) (sym (eqb-true i (length earlier) is)))
        | false ↦ λ _. refl
      ] refl)

map_reverse : {S T : Type 0} (g : S → T) (xs : List S) → map g (reverse xs) ≡ reverse (map g xs)
map_reverse g [] = refl
map_reverse g (x ∷ xs) =
    ap (map g) (reverse-append (x ∷ []) xs)
    ∙ map-append g (reverse xs) (x ∷ [])
    ∙ ap (λ ys. ys ++ g x ∷ []) (map_reverse g xs)
    ∙ sym (reverse-append (g x ∷ []) (map g xs))

-- the ancestors of a structure in the tables
pub ancestors_are : (t : TreeShape) → AllEmpty t → (i : ℕ) → i < length t.structures → ancestors (tables t).structures i ≡ ancestors_of (names_of t) i
ancestors_are t empty i lt =
    let names = names_of t in
    let asked : asked_structures t ≡ t.structures = take_all 65 t.structures (omega (arith, empty.few_structures)) in
    let from_zero : i ≡ 0 + i = omega arith in
    ap (λ ss. ancestors_among ss i) (sym (map_reverse (typed_structure names) t.structures))
    ∙ same_line names (reverse t.structures) (same_parents names [] t.structures empty.structures tt) i
    ∙ ap (ancestors_in names.structure (reverse t.structures)) from_zero
    ∙ sym (by_number-get (ancestors_in names.structure (reverse t.structures)) 0 t.structures i [] lt)
    ∙ ap (λ ss. slice_index_or (all_ancestors names.structure ss) i []) (sym asked)
