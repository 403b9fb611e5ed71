-- The tables of a tree without faults can be placed: few items, legal widths, and fields at the boundaries that they need.
use Rattle.std.proofs.Common.{◌≡◌, ◌%◌, ℕ, suc, Bool, true, false, not, ◌&&◌, ◌||◌, nat_eq, List, [], ◌∷◌, ◌++◌, map, take, length, is_some, refl, sym, ap, ◌∙◌, subst, append_assoc, arith}
use Rattle.std.specs.Prelude.{IsTrue}
use Rattle.std.proofs.lemmas.Bool.{eqb-true}
use Rattle.std.proofs.lemmas.List.{take_at, length-map, length-append, map-append}
use Rattle.std.proofs.lemmas.List.Elements.{All-map}
use Rattle.dsr_tree.specs.Trees.{FieldTree, named, skipped, StructureTree, TreeShape}
use Rattle.dsr_tree.specs.declared.faults.Condition.TheVariants as conditions
use Rattle.dsr_tree.specs.declared.faults.Fault.{Fault}
use Rattle.dsr_language_theory.specs.Declarations.{FieldPosition, is_bytewise, expr_faults, extent_of, field_faults, position_of, structure_faults, declaration_faults}
use Rattle.dsr_meaning.specs.Extents.{bit_behind, bit_behind_all}
use Rattle.dsr_language_theory.specs.Faults.{when}
use Rattle.dsr_meaning.specs.Lists.{each_at}
use Rattle.dsr_language_theory.specs.Names.{Names, names_of}
use Rattle.dsr_language_theory.specs.Tables.{typed_expr, typed_field, typed_structure, typed_pool, typed_set, typed_relation, tables}
use Rattle.dsr_meaning.specs.Placeable.{HasLegalWidth as IsLegal, begins_byte, plain_extent, AreAligned, IsPlaceableStructure, ArePlaceable}
use Rattle.dsr_meaning.proofs.Bits.{bit_behind_append}
use Rattle.dsr_meaning.proofs.Empty.{both_empty, each_has}
use Rattle.dsr_language_theory.proofs.Absent.{when_absent}
use Rattle.dsr_struct.proofs.Extents.{begins_same, legal_field, extent_same}
use Rattle.dsr_struct.proofs.Parts.{sound_field}
use Rattle.dsr_struct.proofs.Faultless.{all_empty, legal_width, fields_empty, few_fields}

-- what has to begin at a byte does, where it isn't so that it has to and doesn't
begins_there : (must on_byte : Bool) → (must && not on_byte) ≡ false → must ≡ true → on_byte ≡ true
begins_there true true e h = refl
begins_there true false e h = absurd cc
begins_there false on_byte e h = absurd cc

module _ (names : Names) where
  -- a field without fault begins at a byte where it has to
  on_byte : (at : FieldPosition) (f : FieldTree) → field_faults names at f ≡ [] → IsTrue (begins_byte (typed_field names f)) → at.on_byte ≡ true
  on_byte at (named f) e h =
      begins_there (is_bytewise f.width || is_some f.length) at.on_byte (sound_field names at f e).aligned
      (sym (begins_same f.width (typed_expr names.fixed) f.length) ∙ h)
  on_byte at (skipped place l) e h =
      let behind = both_empty (when (nat_eq at.number 64) conditions.Limit place) (when (not at.on_byte) conditions.Align place ++ expr_faults names.fixed l) e in
      let none = both_empty (when (not at.on_byte) conditions.Align place) (expr_faults names.fixed l) behind.1 in
      begins_there true at.on_byte (when_absent (not at.on_byte) conditions.Align place none.0) refl

  module _ (i : ℕ) (s : StructureTree) where
    abbrev faults_at : ℕ → FieldTree → List Fault
    faults_at j f = field_faults names (position_of names i s j) f

    -- the fields behind some of a structure's are aligned
    aligned : (done rest : List FieldTree) (n bit : ℕ) → s.fields ≡ done ++ rest → length done ≡ n → bit_behind_all 0 (map extent_of done) ≡ bit → each_at faults_at n rest ≡ [] → AreAligned bit (map (typed_field names) rest)
    aligned done [] n bit is many behind e = tt
    aligned done (f ∷ rest) n bit is many behind e =
        let both = both_empty (faults_at n f) (each_at faults_at (suc n) rest) e in
        let begins : bit_behind_all 0 (map extent_of (take n s.fields)) ≡ bit = ap (λ fs. bit_behind_all 0 (map extent_of fs)) (ap (take n) is ∙ take_at done (f ∷ rest) n many) ∙ behind in
        let next : bit_behind_all 0 (map extent_of (done ++ f ∷ [])) ≡ bit_behind bit (plain_extent (typed_field names f)) =
        ap (bit_behind_all 0) (map-append extent_of done (f ∷ []))
        ∙ bit_behind_append 0 (map extent_of done) (extent_of f)
        ∙ ap (λ b. bit_behind b (extent_of f)) behind
        ∙ ap (bit_behind bit) (sym (extent_same names f)) in
        let more : length (done ++ f ∷ []) ≡ suc n = length-append done (f ∷ []) ∙ omega (arith, many) in (
          λ h. eqb-true (bit % 8) 0 (subst (λ b. nat_eq (b % 8) 0 ≡ true) begins (on_byte (position_of names i s n) f both.0 h)),
          aligned (done ++ f ∷ []) rest (suc n) (bit_behind bit (plain_extent (typed_field names f))) (is ∙ sym (append_assoc done (f ∷ []) rest)) more next both.1,
        )

  -- a structure without fault
  pub is_placeable : (i : ℕ) (s : StructureTree) → structure_faults names i s ≡ [] → IsPlaceableStructure (typed_structure names s)
  is_placeable i s e =
      let none = fields_empty names i s e in
      record {
        few_fields = rw (length-map s.fields (typed_field names)) (few_fields names i s e);
        widths = All-map IsLegal (typed_field names) s.fields (each_has (λ j f. field_faults names (position_of names i s j) f) (λ f. IsLegal (typed_field names f)) (λ j f h. legal_field names f (legal_width names (position_of names i s j) f h)) 0 s.fields none);
        aligned = aligned i s [] s.fields 0 0 refl refl refl none;
      }

-- the tables of a tree without faults
pub placeable_tables : (t : TreeShape) → declaration_faults t ≡ [] → ArePlaceable (tables t)
placeable_tables t e =
    let names = names_of t in
    let empty = all_empty t e in
    record {
      structures = All-map IsPlaceableStructure (typed_structure names) t.structures (each_has (structure_faults names) (λ s. IsPlaceableStructure (typed_structure names s)) (is_placeable names) 0 t.structures empty.structures);
      few_structures = rw (length-map t.structures (typed_structure names)) empty.few_structures;
      few_pools = rw (length-map t.pools (typed_pool names)) empty.few_pools;
      few_symbols = rw (length-map t.sets (typed_set names), length-map t.relations (typed_relation names)) empty.few_symbols;
    }
