-- The fields of a structure without fault, and its parent, are typed in the tables.
use Rattle.std.proofs.Common.{◌≡◌, ◌<◌, ◌^◌, ℕ, Bool, true, false, not, ◌&&◌, ◌||◌, nat_le, List, [], map, take, codes, Option, None, Some, IfSome, is_some, is_none, unwrap_or, slice_get, option_map, option_and_then, All, refl, sym, ap, ◌∙◌, subst, arith}
use Rattle.std.specs.Option.{option_map_or}
use Rattle.std.specs.Str.{bytes_eq}
use Rattle.std.proofs.lemmas.Bool.{leb-false, or_parts}
use Rattle.std.proofs.lemmas.Bool.Decides.{nat_tests}
use Rattle.std.proofs.lemmas.List.{take-map}
use Rattle.std.proofs.lemmas.Nat.{pow_pos}
use Rattle.std.proofs.lemmas.Option.{slice_get_within}
use Rattle.std.proofs.lemmas.Slice.Eq.{bytes_eq-Decides}
use Rattle.dsr_ir.specs.Exprs.{NumOf}
use Rattle.dsr_ir.specs.declared.declarations.Field.{Field}
use Rattle.dsr_tree.specs.Trees.{ExprTree, expr_tree, no_terms, more_terms, TermTree, term_tree, no_factors, more_factors, FactorTree, number_tree, name_tree, group_tree, NamedFieldTree, FieldTree, named, skipped, StructureTree, TreeShape}
use Rattle.dsr_tree.specs.declared.faults.Condition.TheVariants as conditions
use Rattle.dsr_tree.specs.declared.tree.Content.{Content}
use Rattle.dsr_tree.specs.declared.tree.Content.TheVariants as contents
use Rattle.dsr_tree.specs.declared.tree.PlacedName.{PlacedName}
use Rattle.dsr_tree.specs.declared.tree.Width.{Width}
use Rattle.dsr_meaning.specs.Cells.{width_bits}
use Rattle.dsr_meaning.specs.Counting.{IsIn}
use Rattle.dsr_meaning.specs.Typed.{IsOtherStructure, ancestors, HasName, HasOwnName, IsTypedKind, HasKnownLength, MayBeFixed, IsTypedField, IsTypedStructure}
use Rattle.dsr_meaning.proofs.Empty.{both_empty}
use Rattle.dsr_language_theory.specs.Declarations.{entry_bits, content_faults, is_number, is_number_term, is_number_factor, is_open, is_open_structure, has_open, inherits_open, field_faults, is_not_before, parent_faults, position_of, structure_faults}
use Rattle.dsr_language_theory.specs.Names.{Names, names_of, is_at, is_head, has_name, field_number, own_field, inherits, ancestors_of, used_structure}
use Rattle.dsr_language_theory.specs.Tables.{number_in, typed_expr, typed_term, typed_factor, typed_width, typed_content, typed_field, typed_structure, tables}
use Rattle.dsr_language_theory.proofs.Absent.{when_absent}
use Rattle.dsr_struct.proofs.Extents.{bits_same, legal_field}
use Rattle.dsr_struct.proofs.Faultless.{AllEmpty, legal_width}
use Rattle.dsr_struct.proofs.FixedNames.{fixed_numbers}
use Rattle.dsr_struct.proofs.Found.{mapped_is, each_is}
use Rattle.dsr_struct.proofs.KnownNames.{other_structures, pool_numbers}
use Rattle.dsr_struct.proofs.Lineage.{ancestors_are}
use Rattle.dsr_struct.proofs.NamesInExprs.{number_has, expr_is_typed, maybe_is_typed}
use Rattle.dsr_struct.proofs.Numbered.{structure_at, structure_named}
use Rattle.dsr_struct.proofs.Parts.{known_name, SoundField, sound_field}
use Rattle.dsr_struct.proofs.PlaceableTables.{is_placeable}
use Rattle.dsr_struct.proofs.Sound.{not_false, not_true, at_is, made_at, made_of, made_in, none_found, all_made}
use Rattle.dsr_meaning.proofs.Items.{none_of}

-- a number that isn't found at another one or behind it is before
is_before : (i : ℕ) (o : Option ℕ) → is_none o ≡ false → is_not_before i o ≡ false → unwrap_or o 0 < i
is_before i None known e = absurd cc
is_before i (Some p) known e = grind (arith, nat_tests)

-- what is fixed stands in `Head`, is no array, and stands behind known lengths
well_placed : (fixed in_head : Bool) (len : Option ExprTree) (behind : Bool) → fixed ≡ true → (fixed && (not in_head || is_some len || behind)) ≡ false → (in_head ≡ true) × ((len ≡ None) × (behind ≡ false))
well_placed false in_head len behind f e = absurd cc
well_placed true false len behind f e = absurd cc
well_placed true true (Some l) behind f e = absurd cc
well_placed true true None true f e = absurd cc
well_placed true true None false f e = (refl, (refl, refl))

-- an expression that is a number is typed as that
module _ (fixed : List ℕ → Option ℕ) where
  mutual
    number_expr : (e : ExprTree) → is_number e ≡ true → (n : ℕ) × (typed_expr fixed e ≡ NumOf n)
    number_expr (expr_tree term no_terms) h = number_term term h
    number_expr (expr_tree term (more_terms sign next rest)) h = absurd cc

    number_term : (e : TermTree) → is_number_term e ≡ true → (n : ℕ) × (typed_term fixed e ≡ NumOf n)
    number_term (term_tree factor no_factors) h = number_factor factor h
    number_term (term_tree factor (more_factors sign next rest)) h = absurd cc

    number_factor : (e : FactorTree) → is_number_factor e ≡ true → (n : ℕ) × (typed_factor fixed e ≡ NumOf n)
    number_factor (number_tree number) h = (number.number, refl)
    number_factor (name_tree name) h = absurd cc
    number_factor (group_tree place inner) h = number_expr inner h

module _ (names : Names) where
  known_length : (f : FieldTree) → is_open f ≡ false → HasKnownLength (typed_field names f)
  known_length (named f) h = of f.length h
    where
      of : (o : Option ExprTree) → is_open (named (record { fixed = f.fixed; width = f.width; name = f.name; length = o; content = f.content })) ≡ false → IfSome (option_map (typed_expr names.fixed) o) (λ e. (n : ℕ) × (e ≡ NumOf n))
      of None h = tt
      of (Some e) h = number_expr names.fixed e (not_false (is_number e) h)
  known_length (skipped place l) h = number_expr names.fixed l (not_false (is_number l) h)

  known_lengths : (fs : List FieldTree) → has_open fs ≡ false → All HasKnownLength (map (typed_field names) fs)
  known_lengths fs h = all_made is_open (typed_field names) HasKnownLength known_length fs h

  -- a field of the tables that has a name is made of one that has it
  record MadeOfNamed (x : FieldTree) (g : Field) : Type 0 where
    pub field : NamedFieldTree
    pub is : x ≡ named field
    pub same : g.name ≡ field.name.name

  made_of_named : (x : FieldTree) (g : Field) → g ≡ typed_field names x → HasName g → MadeOfNamed x g
  made_of_named (named f) g made has = record { field = f; is = refl; same = ap (λ y. y.name) made }
  made_of_named (skipped place l) g made has = absurd (has (ap (λ y. y.kind) made))

module _ (t : TreeShape) (empty : AllEmpty t) where
  typed_kind : (w : Width) (c : Option Content) (g : Field) → g.width ≡ typed_width w → content_faults (names_of t).pool w c ≡ [] → IsTypedKind (tables t) g (typed_content (names_of t) c)
  typed_kind w None g is e = pow_pos (width_bits g.width)
  typed_kind w (Some (contents.Init place number)) g is e =
      let below : number.number < 2 ^ entry_bits w = leb-false (2 ^ entry_bits w) number.number (when_absent (nat_le (2 ^ entry_bits w) number.number) conditions.Width number.place e) in
      subst (λ b. number.number < 2 ^ b) (sym (ap width_bits is ∙ bits_same w)) below
  typed_kind w (Some (contents.Refers place q)) g is e = pool_numbers t empty q e

  module _ (i : ℕ) (s : StructureTree) (at : slice_get t.structures i ≡ Some s) where
    -- the field of a number has no fault
    field_at : (k : ℕ) (f : FieldTree) → slice_get s.fields k ≡ Some f → field_faults (names_of t) (position_of (names_of t) i s k) f ≡ []
    field_at k f is = each_is (λ j g. field_faults (names_of t) (position_of (names_of t) i s j) g) 0 s.fields (structure_at t empty i s at).fields k k f (omega arith) is

    sound_at : (k : ℕ) (f : NamedFieldTree) → slice_get s.fields k ≡ Some (named f) → SoundField (names_of t) (position_of (names_of t) i s k) f
    sound_at k f is = sound_field (names_of t) (position_of (names_of t) i s k) f (field_at k (named f) is)

    -- its name stands for its number
    field_named : (k : ℕ) (f : NamedFieldTree) → slice_get s.fields k ≡ Some (named f) → own_field (names_of t) i f.name.name ≡ Some k
    field_named k f is = at_is k (own_field (names_of t) i f.name.name) (or_parts (not (is_at k (own_field (names_of t) i f.name.name))) (inherits (names_of t) i f.name.name) (sound_at k f is).once).0

    -- the ancestors of its structure
    line_is : ancestors (tables t).structures i ≡ ancestors_of (names_of t) i
    line_is = ancestors_are t empty i (slice_get_within t.structures i s at)

    own_name : (k : ℕ) (f : NamedFieldTree) → slice_get s.fields k ≡ Some (named f) → HasOwnName (tables t) i (typed_structure (names_of t) s) k (typed_field (names_of t) (named f))
    own_name k f is =
        let names = names_of t in
        let q = f.name.name in
        record {
          own = λ j g at_j has same.
              let m = made_of (typed_field names) s.fields j g at_j in
              let n = made_of_named names m.item g m.made has in
              let one = field_named k f is in
              let other = field_named j n.field (m.is ∙ ap Some n.is) in
              let both : Some j ≡ Some k = sym other ∙ ap (own_field names i) (sym n.same ∙ same) ∙ one in
              cc;
          inherited = λ a u g is_in at_a in_fields has same.
              let none = none_of (λ b. is_some (own_field names b q)) (ancestors_of names i) (or_parts (not (is_at k (own_field names i q))) (inherits names i q) (sound_at k f is).once).1 a (subst (IsIn a) line_is is_in) in
              let m = made_of (typed_structure names) t.structures a u at_a in
              let number : own_field names a q ≡ field_number m.item q = ap (option_and_then (λ n. n q)) (made_at field_number t.structures a m.item m.is) in
              let x = made_in (typed_field names) m.item.fields g (subst (λ v. IsIn g v.fields) m.made in_fields) in
              let n = made_of_named names x.item g x.made has in
              let fails : bytes_eq n.field.name.name q ≡ false = sym (ap (has_name q) n.is) ∙ none_found (has_name q) 0 m.item.fields (sym (ap is_some number) ∙ none) x.item x.is in
              let passes : bytes_eq n.field.name.name q ≡ true = (bytes_eq-Decides n.field.name.name q).1 (sym n.same ∙ same) in
              absurd cc;
        }

    may_be_fixed : (k : ℕ) (f : NamedFieldTree) → slice_get s.fields k ≡ Some (named f) → is_some f.fixed ≡ true → MayBeFixed (tables t) i (typed_structure (names_of t) s) k (typed_field (names_of t) (named f))
    may_be_fixed k f is fixed =
        let names = names_of t in
        let placed = well_placed (is_some f.fixed) (is_head s.name.name) f.length (inherits_open names i || has_open (take k s.fields)) fixed (sound_at k f is).placed in
        let closed = or_parts (inherits_open names i) (has_open (take k s.fields)) placed.1.1 in
        let called = (bytes_eq-Decides s.name.name (codes "Head")).0 placed.0 in
        record {
          in_head = sym (ap (λ o. unwrap_or o 0) (sym (ap names.structure called) ∙ structure_named t empty i s at));
          scalar = ap (option_map (typed_expr names.fixed)) placed.1.0;
          own = subst (All HasKnownLength) (sym (take-map (typed_field names) k s.fields)) (known_lengths names (take k s.fields) closed.1);
          inherited = λ a u is_in at_a.
              let none = none_of (is_open_structure names) (ancestors_of names i) closed.0 a (subst (IsIn a) line_is is_in) in
              let m = made_of (typed_structure names) t.structures a u at_a in
              let closed_there : has_open m.item.fields ≡ false = sym (ap (λ o. option_map_or (λ v. has_open v.fields) o false) m.is) ∙ none in
              subst (λ v. All HasKnownLength v.fields) (sym m.made) (known_lengths names m.item.fields closed_there);
        }

    typed_field_at : (k : ℕ) (f : FieldTree) → slice_get s.fields k ≡ Some f → IsTypedField (tables t) i (typed_structure (names_of t) s) k (typed_field (names_of t) f)
    typed_field_at k (named f) is =
        let names = names_of t in
        let sound = sound_at k f is in
        record {
          width = legal_field names (named f) (legal_width names (position_of names i s k) (named f) (field_at k (named f) is));
          length = maybe_is_typed (tables t) names.fixed (fixed_numbers t empty) f.length sound.len;
          kind = typed_kind f.width f.content (typed_field names (named f)) refl sound.meant;
          own_name = λ _. own_name k f is;
          fixed = λ h. may_be_fixed k f is h;
        }
    typed_field_at k (skipped place l) is =
        let names = names_of t in
        let rest = both_empty _ _ (field_at k (skipped place l) is) in
        let last = both_empty _ _ rest.1 in
        record {
          width = tt;
          length = expr_is_typed (tables t) names.fixed (fixed_numbers t empty) l last.1;
          kind = record { width = refl; length = refl; free = refl; name = refl };
          own_name = λ has. absurd (has refl);
          fixed = λ h. absurd (not_true h);
        }

  typed_parent : (i : ℕ) (o : Option PlacedName) → parent_faults (names_of t) i o ≡ [] → IfSome (option_map (number_in (used_structure (names_of t))) o) (IsOtherStructure (tables t)) × IfSome (option_map (number_in (used_structure (names_of t))) o) (λ p. p < i)
  typed_parent i None e = (tt, tt)
  typed_parent i (Some q) e =
      let number = used_structure (names_of t) in
      let both = both_empty _ _ e in (
        number_has number (IsOtherStructure (tables t)) q (other_structures t empty q.name) both.0,
        is_before i (number q.name) (known_name number q both.0) (when_absent (is_not_before i (number q.name)) conditions.SubtypeLoop q.place both.1),
      )

  -- a structure without fault is typed in the tables
  pub structure_is_typed : (i : ℕ) (s : StructureTree) → slice_get t.structures i ≡ Some s → IsTypedStructure (tables t) i (typed_structure (names_of t) s)
  structure_is_typed i s at =
      let names = names_of t in
      let parents = typed_parent i s.parent (structure_at t empty i s at).parent in
      let placeable = is_placeable names i s (each_is (structure_faults names) 0 t.structures empty.structures i i s (omega arith) at) in
      record {
        parent = parents.0;
        parent_before = parents.1;
        few_fields = placeable.few_fields;
        aligned = placeable.aligned;
        fields = mapped_is (typed_field names) (λ k f. IsTypedField (tables t) i (typed_structure names s) k f) s.fields (typed_field_at i s at);
      }
