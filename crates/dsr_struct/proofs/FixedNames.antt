-- A name that stands for a number of a fixed field stands for a fixed field of `Head`.
use Rattle.std.proofs.Common.{◌≡◌, ℕ, Bool, true, false, not, ◌&&◌, ◌||◌, List, [], map, codes, Option, None, Some, IfSome, is_some, is_none, unwrap_or, slice_get, option_map, option_and_then, All, refl, sym, ap, ◌∙◌, subst}
use Rattle.std.specs.Prelude.{IsSomeAnd, IsTrue}
use Rattle.std.specs.List.{position_from}
use Rattle.std.specs.Str.{bytes_eq}
use Rattle.std.proofs.lemmas.Option.{IfSome_then, slice_get-map}
use Rattle.dsr_ir.specs.Exprs.{ExprShape}
use Rattle.dsr_ir.specs.declared.declarations.Structure.{Structure}
use Rattle.dsr_ir.specs.declared.declarations.Structures.{Structures}
use Rattle.dsr_tree.specs.Trees.{ExprTree, FieldTree, named, skipped, StructureTree, TreeShape}
use Rattle.dsr_language_theory.specs.Declarations.{FieldPosition, field_faults, position_of, structure_faults}
use Rattle.dsr_meaning.specs.FixedFields.{head_fields, is_fixed}
use Rattle.dsr_language_theory.specs.Names.{Names, names_of, structure_number, fixed_in, has_fixed_name}
use Rattle.dsr_language_theory.specs.Tables.{typed_expr, typed_field, typed_structure, tables}
use Rattle.dsr_meaning.proofs.Empty.{each_has}
use Rattle.dsr_struct.proofs.Faultless.{AllEmpty, fields_empty}
use Rattle.dsr_struct.proofs.Found.{item_is, found_passes}
use Rattle.dsr_struct.proofs.Parts.{sound_field}

-- what is fixed and not misplaced has no length
fixed_alone : (fixed in_head behind right : Bool) (l : Option ExprTree) (g : ExprTree → ExprShape) → (fixed && (not in_head || is_some l || behind)) ≡ false → (fixed && right) ≡ true → (fixed && is_none (option_map g l)) ≡ true
fixed_alone false in_head behind right l g e h = absurd cc
fixed_alone true in_head behind right None g e h = refl
fixed_alone true true behind right (Some x) g e h = absurd cc
fixed_alone true false behind right (Some x) g e h = absurd cc

-- the fields of the structure that is `Head`
head_is : (base : Structures) (s : Structure) → slice_get base.structures base.head ≡ Some s → head_fields base ≡ s.fields
head_is base s e = rw e refl

-- an item that is made of one that is there
made_is : {S T : Type 0} (g : S → T) (xs : List S) (k : ℕ) (P : S → Type 0) (Q : T → Type 0) → IsSomeAnd (slice_get xs k) P → ((x : S) → slice_get xs k ≡ Some x → P x → Q (g x)) → IsSomeAnd (slice_get (map g xs) k) Q
made_is g xs k P Q found h =
    subst (λ o. IsSomeAnd o Q) (sym (slice_get-map g xs k)) (elim (slice_get xs k) as (λ o. slice_get xs k ≡ o → IsSomeAnd o P → IsSomeAnd (option_map g o) Q) [
      | None ↦ λ _ f. f
      | Some x ↦ h x
    ] refl found)

-- the number is one of a fixed field of `Head`
abbrev pub IsFixedNumber : Structures → ℕ → Type 0
IsFixedNumber base k = IsSomeAnd (slice_get (head_fields base) k) (λ f. IsTrue (is_fixed f))

module _ (names : Names) where
  -- a field that is fixed under some name is so in the tables
  abbrev IsFixedThere : FieldTree → Type 0
  IsFixedThere f = (q : List ℕ) → has_fixed_name q f ≡ true → IsTrue (is_fixed (typed_field names f))

  abbrev AreFixedThere : StructureTree → Type 0
  AreFixedThere s = All IsFixedThere s.fields

  -- a field without fault is
  fixed_there : (at : FieldPosition) (f : FieldTree) → field_faults names at f ≡ [] → IsFixedThere f
  fixed_there at (named f) e q h = fixed_alone (is_some f.fixed) at.in_head at.behind_open (bytes_eq f.name.name q) f.length (typed_expr names.fixed) (sound_field names at f e).placed h
  fixed_there at (skipped place l) e q h = absurd cc

  all_fixed_there : (i : ℕ) (s : StructureTree) → structure_faults names i s ≡ [] → AreFixedThere s
  all_fixed_there i s e = each_has (λ j f. field_faults names (position_of names i s j) f) IsFixedThere (λ j. fixed_there (position_of names i s j)) 0 s.fields (fields_empty names i s e)

  -- the number of a fixed name in a structure
  fixed_number_is : (s : StructureTree) (q : List ℕ) → AreFixedThere s → IfSome (position_from (has_fixed_name q) 0 s.fields) (λ k. IsSomeAnd (slice_get (map (typed_field names) s.fields) k) (λ f. IsTrue (is_fixed f)))
  fixed_number_is s q all = IfSome_then (position_from (has_fixed_name q) 0 s.fields) (found_passes (has_fixed_name q) s.fields) (λ k found.
      made_is (typed_field names) s.fields k (λ f. IsTrue (has_fixed_name q f)) (λ f. IsTrue (is_fixed f)) found (λ f at h. item_is IsFixedThere s.fields k f all at q h))

module _ (t : TreeShape) (empty : AllEmpty t) where
  all_there : All (AreFixedThere (names_of t)) t.structures
  all_there = each_has (structure_faults (names_of t)) (AreFixedThere (names_of t)) (all_fixed_there (names_of t)) 0 t.structures empty.structures

  -- the names of expressions in a tree without faults
  pub fixed_numbers : (q : List ℕ) → IfSome ((names_of t).fixed q) (IsFixedNumber (tables t))
  fixed_numbers q =
      elim (structure_number t (codes "Head")) as (λ o. structure_number t (codes "Head") ≡ o → IfSome (fixed_in t o q) (IsFixedNumber (tables t))) [
        | None ↦ λ _. tt
        | Some h ↦ λ e. in_head h e
      ] refl
    where
      in_head : (h : ℕ) → structure_number t (codes "Head") ≡ Some h → IfSome (fixed_in t (Some h) q) (IsFixedNumber (tables t))
      in_head h e =
          elim (slice_get t.structures h) as (λ o. slice_get t.structures h ≡ o → IfSome (option_and_then (λ s. position_from (has_fixed_name q) 0 s.fields) o) (IsFixedNumber (tables t))) [
            | None ↦ λ _. tt
            | Some s ↦ λ at.
                let is_head : slice_get (tables t).structures (tables t).head ≡ Some (typed_structure (names_of t) s) =
                ap (λ o. slice_get (map (typed_structure (names_of t)) t.structures) (unwrap_or o 0)) e
                ∙ slice_get-map (typed_structure (names_of t)) t.structures h
                ∙ ap (option_map (typed_structure (names_of t))) at in
                subst (λ fs. IfSome (position_from (has_fixed_name q) 0 s.fields) (λ k. IsSomeAnd (slice_get fs k) (λ f. IsTrue (is_fixed f))))
                (sym (head_is (tables t) (typed_structure (names_of t) s) is_head))
                (fixed_number_is (names_of t) s q (item_is (AreFixedThere (names_of t)) t.structures h s all_there at))
          ] refl
