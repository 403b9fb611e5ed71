-- What follows where no declaration has a fault: few items, so that their numbers fit, and legal widths.
use Rattle.std.proofs.Common.{◌≡◌, ◌<◌, ◌≤◌, ◌+◌, ◌-◌, ◌^◌, ℕ, Bool, not, ◌||◌, nat_eq, List, [], ◌++◌, length, min, codes, Option, None, Some, IfSome, is_some, All, slice_get, option_and_then, refl, sym, subst, arith}
use Rattle.std.specs.List.{position_from}
use Rattle.std.specs.Str.{bytes_eq}
use Rattle.std.proofs.lemmas.Bool.{eq-eqb}
use Rattle.std.proofs.lemmas.List.{length-take, take_all}
use Rattle.std.proofs.lemmas.Option.{get_or_from_slice_get, slice_get_within, IfSome_then}
use Rattle.dsr_tree.specs.Trees.{FieldTree, named, skipped, StructureTree, PoolTree, TreeShape}
use Rattle.dsr_tree.specs.declared.tree.Relation.{Relation}
use Rattle.dsr_tree.specs.declared.tree.Set.{Set}
use Rattle.dsr_tree.specs.declared.faults.Condition.TheVariants as conditions
use Rattle.dsr_language_theory.specs.Declarations.{FieldPosition, is_declared_above, source_faults, target_faults, head_faults, field_faults, position_of, structure_faults, pool_faults, set_faults, relation_faults, supply_faults, declaration_faults}
use Rattle.dsr_language_theory.specs.Faults.{when}
use Rattle.dsr_meaning.specs.Lists.{each_at}
use Rattle.dsr_language_theory.specs.Names.{Names, names_of, is_at, structure_number, fixed_in, has_fixed_name, asked_structures}
use Rattle.dsr_struct.specs.Known.{AllFit, HasLegalWidth, HasLegalWidths}
use Rattle.dsr_meaning.proofs.Empty.{both_empty, second_empty, no_second, each_has, few}
use Rattle.dsr_language_theory.proofs.Absent.{when_absent}
use Rattle.dsr_names.proofs.Numbering.{position_below}
use Rattle.dsr_struct.proofs.Parts.{sound_field, sound_structure}

-- the numbers of 64 items at most fit
position_fits : {T : Type 0} (test : T → Bool) (xs : List T) → length xs ≤ 64 → IfSome (position_from test 0 xs) (λ k. k < 2 ^ 32 - 1)
position_fits test xs small = IfSome_then (position_from test 0 xs) (position_below test 0 xs) (λ k lt. omega (arith, lt, small))

abbrev pub HasFewFields : StructureTree → Type 0
HasFewFields s = length s.fields ≤ 64

-- the numbers of fixed fields fit where each structure has few fields
fixed_fits : (t : TreeShape) → All HasFewFields t.structures → (head : Option ℕ) (q : List ℕ) → IfSome (fixed_in t head q) (λ k. k < 2 ^ 32 - 1)
fixed_fits t small None q = tt
fixed_fits t small (Some n) q =
    elim (slice_get t.structures n) as (λ o. slice_get t.structures n ≡ o → IfSome (option_and_then (λ s. position_from (has_fixed_name q) 0 s.fields) o) (λ k. k < 2 ^ 32 - 1)) [
      | None ↦ λ _. tt
      | Some s ↦ λ e. position_fits (has_fixed_name q) s.fields (subst HasFewFields (get_or_from_slice_get t.structures n s s e) (small n s (slice_get_within t.structures n s e)))
    ] refl

-- where few structures are asked, all are
all_asked : (t : TreeShape) → length (asked_structures t) ≤ 64 → asked_structures t ≡ t.structures
all_asked t small =
    let many : min 65 (length t.structures) ≤ 64 = rw (sym (length-take 65 t.structures)) small in
    take_all 65 t.structures (omega arith)

module _ (names : Names) where
  -- a field without fault has a legal width
  pub legal_width : (at : FieldPosition) (f : FieldTree) → field_faults names at f ≡ [] → HasLegalWidth f
  legal_width at (named f) e = (sound_field names at f e).legal
  legal_width at (skipped place l) e = tt

  -- a field, structure, pool or set that is one too many has a fault
  field_limit : (i : ℕ) (s : StructureTree) (f : FieldTree) → field_faults names (position_of names i s 64) f ≡ [] → ⊥
  field_limit i s (named f) e = no_second (when (is_declared_above names (position_of names i s 64) f.name.name) conditions.NameTwice f.name.place) _ _ e
  field_limit i s (skipped place l) e = absurd cc

  structure_limit : (s : StructureTree) → structure_faults names 64 s ≡ [] → ⊥
  structure_limit s e = no_second (when (not (is_at 64 (names.structure s.name.name))) conditions.NameTwice s.name.place) _ _ e

  pool_limit : (p : PoolTree) → pool_faults names 32 p ≡ [] → ⊥
  pool_limit p e = no_second (when (not (is_at 32 (names.pool p.name.name))) conditions.NameTwice p.name.place) _ _ e

  set_limit : (s : Set) → set_faults names 64 s ≡ [] → ⊥
  set_limit s e = no_second (when (not (is_at 64 (names.set s.name.name))) conditions.NameTwice s.name.place) _ _ e

  relation_limit : (i : ℕ) (r : Relation) → length names.tree.sets + i ≡ 64 → relation_faults names i r ≡ [] → ⊥
  relation_limit i r is e =
      let full = when_absent (nat_eq (length names.tree.sets + i) 64) conditions.Limit r.name.place (second_empty
      (when (is_some (names.set r.name.name) || not (is_at i (names.relation r.name.name))) conditions.NameTwice r.name.place)
      (when (nat_eq (length names.tree.sets + i) 64) conditions.Limit r.name.place)
      (source_faults names r.source ++ target_faults names r.target)
      e) in
      let equal = eq-eqb (length names.tree.sets + i) 64 is in
      absurd cc

  -- the fields of a structure without fault have none, hence legal widths, and there are few
  pub fields_empty : (i : ℕ) (s : StructureTree) → structure_faults names i s ≡ [] → each_at (λ j f. field_faults names (position_of names i s j) f) 0 s.fields ≡ []
  fields_empty i s e = (sound_structure names i s e).fields

  legal_widths : (i : ℕ) (s : StructureTree) → structure_faults names i s ≡ [] → HasLegalWidths s
  legal_widths i s e = each_has (λ j f. field_faults names (position_of names i s j) f) HasLegalWidth (λ j. legal_width (position_of names i s j)) 0 s.fields (fields_empty i s e)

  pub few_fields : (i : ℕ) (s : StructureTree) → structure_faults names i s ≡ [] → HasFewFields s
  few_fields i s e = few (λ j f. field_faults names (position_of names i s j) f) 64 0 64 (omega arith) (field_limit i s) s.fields (fields_empty i s e)

-- no declaration of a tree has a fault, and so there are few
pub record AllEmpty (t : TreeShape) : Type 0 where
  pub head : head_faults (names_of t) ≡ []
  pub structures : each_at (structure_faults (names_of t)) 0 t.structures ≡ []
  pub pools : each_at (pool_faults (names_of t)) 0 t.pools ≡ []
  pub sets : each_at (set_faults (names_of t)) 0 t.sets ≡ []
  pub relations : each_at (relation_faults (names_of t)) 0 t.relations ≡ []
  pub supplies : each_at (supply_faults (names_of t)) 0 t.supplies ≡ []
  pub few_structures : length t.structures ≤ 64
  pub few_pools : length t.pools ≤ 32
  pub few_sets : length t.sets ≤ 64
  pub few_symbols : length t.sets + length t.relations ≤ 64

pub all_empty : (t : TreeShape) → declaration_faults t ≡ [] → AllEmpty t
all_empty t e =
    let names = names_of t in
    let others = each_at (relation_faults names) 0 t.relations ++ each_at (supply_faults names) 0 t.supplies in
    let from_sets = each_at (set_faults names) 0 t.sets ++ others in
    let from_pools = each_at (pool_faults names) 0 t.pools ++ from_sets in
    let head = both_empty (head_faults names) (each_at (structure_faults names) 0 (asked_structures t) ++ from_pools) e in
    let asked = both_empty (each_at (structure_faults names) 0 (asked_structures t)) from_pools head.1 in
    let pools = both_empty (each_at (pool_faults names) 0 t.pools) from_sets asked.1 in
    let sets = both_empty (each_at (set_faults names) 0 t.sets) others pools.1 in
    let last = both_empty (each_at (relation_faults names) 0 t.relations) (each_at (supply_faults names) 0 t.supplies) sets.1 in
    let few_asked = few (structure_faults names) 64 0 64 (omega arith) (structure_limit names) (asked_structures t) asked.0 in
    let all = all_asked t few_asked in
    let few_sets = few (set_faults names) 64 0 64 (omega arith) (set_limit names) t.sets sets.0 in
    let at = 64 - length t.sets in
    let few_relations = few (relation_faults names) at 0 at (omega arith) (λ r. relation_limit names at r (omega (arith, few_sets))) t.relations last.0 in
    record {
      head = head.0;
      structures = subst (λ ss. each_at (structure_faults names) 0 ss ≡ []) all asked.0;
      pools = pools.0;
      sets = sets.0;
      relations = last.0;
      supplies = last.1;
      few_structures = subst (λ ss. length ss ≤ 64) all few_asked;
      few_pools = few (pool_faults names) 32 0 32 (omega arith) (pool_limit names) t.pools pools.0;
      few_sets = few_sets;
      few_symbols = omega (arith, few_sets, few_relations);
    }

-- what the tables need of a tree
pub record IsSmall (t : TreeShape) : Type 0 where
  pub fit : AllFit (names_of t)
  pub legal : All HasLegalWidths t.structures

-- a tree without faults has it
pub faultless : (t : TreeShape) → declaration_faults t ≡ [] → IsSmall t
faultless t e =
    let names = names_of t in
    let empty = all_empty t e in
    record {
      fit = record {
        structure = λ q. position_fits (λ s. bytes_eq s.name.name q) t.structures empty.few_structures;
        fixed = fixed_fits t (each_has (structure_faults names) HasFewFields (few_fields names) 0 t.structures empty.structures) (structure_number t (codes "Head"));
        pool = λ q. position_fits (λ p. bytes_eq p.name.name q) t.pools (omega (arith, empty.few_pools));
        set = λ q. position_fits (λ s. bytes_eq s.name.name q) t.sets empty.few_sets;
      };
      legal = each_has (structure_faults names) HasLegalWidths (legal_widths names) 0 t.structures empty.structures;
    }
