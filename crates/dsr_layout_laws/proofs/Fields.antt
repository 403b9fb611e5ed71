-- Cells of fields of structures of which one descends from the other.
use Rattle.std.proofs.Common.{◌≡◌, ◌≢◌, ◌<◌, ◌≤◌, ◌+◌, ◌*◌, ◌⊎◌, ℕ, zero, suc, List, [], ◌∷◌, length, None, Some, IfSome, Option, slice_get, unwrap_or, option_map, option_and_then, if◌then◌else◌, inl, inr, refl, sym, ap, ◌∙◌, subst, arith}
use Rattle.std.proofs.lemmas.Bool.{cases_lt, lt-ltb}
use Rattle.std.proofs.lemmas.Option.{slice_get_cases}
use Rattle.dsr_layout_laws.specs.Entries.{IsEntry}
use Rattle.dsr_ir.specs.Layouts.{field_place}
use Rattle.dsr_ir.specs.declared.declarations.Field.{Field}
use Rattle.dsr_ir.specs.declared.declarations.FieldRef.{FieldRef}
use Rattle.dsr_ir.specs.declared.declarations.Structure.{Structure}
use Rattle.dsr_ir.specs.declared.declarations.Structures.{Structures}
use Rattle.dsr_ir.specs.declared.layouts.Cell.{Cell}
use Rattle.dsr_ir.specs.declared.layouts.FieldPlace.{FieldPlace}
use Rattle.dsr_ir.specs.declared.layouts.Layout.{Layout}
use Rattle.dsr_ir.specs.declared.tuples.Element.{Element}
use Rattle.dsr_layout.proofs.Collecting.{collected_item}
use Rattle.dsr_layout.proofs.LegalLayout.{built}
use Rattle.dsr_layout.proofs.Lineages.{lineage_of}
use Rattle.dsr_layout.proofs.Placed.{byte_behind, rising}
use Rattle.dsr_layout.proofs.Lineages as lineages
use Rattle.dsr_meaning.specs.Cells.{record_start, width_bits}
use Rattle.dsr_meaning.specs.Counting.{IsIn}
use Rattle.dsr_meaning.specs.Extents.{up_to_byte, bit_behind}
use Rattle.dsr_meaning.specs.FixedFields.{fixed_value}
use Rattle.dsr_meaning.specs.Layouts.{layout_of, places_of}
use Rattle.dsr_meaning.specs.Legal.{entry_count}
use Rattle.dsr_meaning.specs.Places.{lineage, entries_of, bit_behind_fields, placed, end_of, own_places}
use Rattle.dsr_meaning.specs.Typed.{AreTyped, Descends, ancestors}
use Rattle.dsr_meaning.specs.Writes.{AreBitsApart, AreCellsApart}
use Rattle.dsr_schema.proofs.Descending.{ancestors_step, line, no_ancestors}
use Rattle.dsr_layout_laws.proofs.Ranges.{row_step}
use Rattle.dsr_layout_laws.proofs.Records.{carried, entry_cell}

-- ---- fields of one structure

-- the bit behind all entries of a field
abbrev pub end_bit : FieldPlace → ℕ
end_bit p = p.bit + entry_count p * width_bits p.width

-- the entries of a field end at the bit behind it or before it
entries_end : (bit width : ℕ) (entries : Option ℕ) → bit + unwrap_or entries 1 * width ≤ bit_behind bit (record { bits = width; entries = entries })
entries_end bit width None = omega arith
entries_end bit width (Some n) = byte_behind (bit + n * width)

-- fields stand one behind the other, from a bit on
abbrev AreInOrder : ℕ → List FieldPlace → Type 0
AreInOrder bit [] = Unit {0}
AreInOrder bit (p ∷ ps) = (bit ≤ p.bit) × AreInOrder (end_bit p) ps

from_earlier : (a b : ℕ) (ps : List FieldPlace) → a ≤ b → AreInOrder b ps → AreInOrder a ps
from_earlier a b [] le order = tt
from_earlier a b (p ∷ ps) le order = (omega (arith, le, order.0), order.1)

-- what stands in the list begins at its first bit or behind it
behind_first : (bit : ℕ) (ps : List FieldPlace) → AreInOrder bit ps → (k : ℕ) (p : FieldPlace) → slice_get ps k ≡ Some p → bit ≤ p.bit
behind_first bit [] order k p is = absurd cc
behind_first bit (o ∷ ps) order zero p is = let same : o ≡ p = cc in subst (λ x. bit ≤ x.bit) same order.0
behind_first bit (o ∷ ps) order (suc k) p is =
    let later = behind_first (end_bit o) ps order.1 k p is in
    omega (arith, later, order.0)

-- a field ends where or before a later one begins
ends_before : (bit : ℕ) (ps : List FieldPlace) → AreInOrder bit ps → (k l : ℕ) (p q : FieldPlace) → k < l → slice_get ps k ≡ Some p → slice_get ps l ≡ Some q → end_bit p ≤ q.bit
ends_before bit [] order k l p q lt is found = absurd cc
ends_before bit (o ∷ ps) order k zero p q lt is found = absurd (omega (arith, lt))
ends_before bit (o ∷ ps) order zero (suc l) p q lt is found =
    let same : o ≡ p = cc in
    subst (λ x. end_bit x ≤ q.bit) same (behind_first (end_bit o) ps order.1 l q found)
ends_before bit (o ∷ ps) order (suc k) (suc l) p q lt is found = ends_before (end_bit o) ps order.1 k l p q (omega (arith, lt)) is found

-- what holds of the first and of the later ones
first_or_later : (o : FieldPlace) (qs : List FieldPlace) (last : ℕ) → end_bit o ≤ last → ((k : ℕ) (p : FieldPlace) → slice_get qs k ≡ Some p → end_bit p ≤ last) → (k : ℕ) (p : FieldPlace) → slice_get (o ∷ qs) k ≡ Some p → end_bit p ≤ last
first_or_later o qs last own later zero p found = let same : o ≡ p = cc in subst (λ x. end_bit x ≤ last) same own
first_or_later o qs last own later (suc k) p found = later k p found

-- where the own fields of a structure stand
record IsBegun (fixed : ℕ → Option ℕ) (s : Structure) (before : List Structure) (places : List FieldPlace) : Type 0 where
  start : ℕ
  start_is : end_of fixed before ≡ Some start
  placed_are : placed fixed start s.fields ≡ Some places

-- where a structure ends, whose own fields stand behind its ancestors'
record IsEnded (fixed : ℕ → Option ℕ) (s : Structure) (before : List Structure) (end : ℕ) : Type 0 where
  start : ℕ
  start_is : end_of fixed before ≡ Some start
  last : ℕ
  last_is : bit_behind_fields fixed start s.fields ≡ Some last
  within : last ≤ end

-- the parent of a structure, which is an ancestor of it or descends from that
record HasParent (structures : List Structure) (i : ℕ) (s : Structure) (x : ℕ) : Type 0 where
  parent : ℕ
  before : parent < i
  line_is : lineage structures i ≡ s ∷ lineage structures parent
  above : Descends structures parent x

-- a structure ends at a bit or before it
record EndsBy (fixed : ℕ → Option ℕ) (structures : List Structure) (x bound : ℕ) : Type 0 where
  end : ℕ
  end_is : end_of fixed (lineage structures x) ≡ Some end
  low : end ≤ bound

-- the place of a field is among the own ones of its structure
record IsPlaced (fixed : ℕ → Option ℕ) (structures : List Structure) (field : FieldRef) (p : FieldPlace) : Type 0 where
  places : List FieldPlace
  structure : Structure
  found : slice_get structures field.structure ≡ Some structure
  own : own_places fixed (lineage structures field.structure) ≡ Some places
  place_is : slice_get places field.field ≡ Some p

module _ (fixed : ℕ → Option ℕ) where
  -- the places of fields are in order
  placed_order : (fs : List Field) (bit : ℕ) → IfSome (placed fixed bit fs) (AreInOrder bit)
  placed_order [] bit = tt
  placed_order (f ∷ fs) bit = elim (entries_of fixed f.len) as (λ o. IfSome (option_and_then (λ e. option_map (λ ps. record { bit = bit; width = f.width; length = e.entries } ∷ ps) (placed fixed (bit_behind bit e) fs)) (option_map (λ n. record { bits = width_bits f.width; entries = n }) o)) (AreInOrder bit)) [
    | None ↦ tt
    | Some entries ↦
        let behind = bit_behind bit (record { bits = width_bits f.width; entries = entries }) in
        elim (placed fixed behind fs) as (λ o. IfSome o (AreInOrder behind) → IfSome (option_map (λ ps. record { bit = bit; width = f.width; length = entries } ∷ ps) o) (AreInOrder bit)) [
          | None ↦ λ _. tt
          | Some ps ↦ λ rest. (omega arith, from_earlier (bit + unwrap_or entries 1 * width_bits f.width) behind ps (entries_end bit (width_bits f.width) entries) rest)
        ] (placed_order fs behind)
  ]

  -- they end where or before the fields do
  placed_end : (fs : List Field) (bit last : ℕ) (ps : List FieldPlace) → bit_behind_fields fixed bit fs ≡ Some last → placed fixed bit fs ≡ Some ps → (k : ℕ) (p : FieldPlace) → slice_get ps k ≡ Some p → end_bit p ≤ last
  placed_end [] bit last ps is made =
      let none : [] ≡ ps = cc in
      λ k p found. absurd (let both : None ≡ Some p = ap (λ qs. slice_get qs k) none ∙ found in cc)
  placed_end (f ∷ fs) bit last ps is made = elim (entries_of fixed f.len) as (λ o. option_and_then (λ e. bit_behind_fields fixed (bit_behind bit e) fs) (option_map (λ n. record { bits = width_bits f.width; entries = n }) o) ≡ Some last → option_and_then (λ e. option_map (λ ps. record { bit = bit; width = f.width; length = e.entries } ∷ ps) (placed fixed (bit_behind bit e) fs)) (option_map (λ n. record { bits = width_bits f.width; entries = n }) o) ≡ Some ps → (k : ℕ) (p : FieldPlace) → slice_get ps k ≡ Some p → end_bit p ≤ last) [
    | None ↦ λ h _. absurd cc
    | Some entries ↦ λ h.
        let behind = bit_behind bit (record { bits = width_bits f.width; entries = entries }) in
        let first : FieldPlace = record { bit = bit; width = f.width; length = entries } in
        elim (placed fixed behind fs) as (λ o. placed fixed behind fs ≡ o → option_map (λ qs. first ∷ qs) o ≡ Some ps → (k : ℕ) (p : FieldPlace) → slice_get ps k ≡ Some p → end_bit p ≤ last) [
          | None ↦ λ _ g. absurd cc
          | Some qs ↦ λ others g k p found.
              let made : ps ≡ first ∷ qs = cc in
              let own : end_bit first ≤ last = omega (arith, entries_end bit (width_bits f.width) entries, rising fixed fs behind last h) in
              first_or_later first qs last own (placed_end fs behind last qs h others) k p (sym (ap (λ xs. slice_get xs k) made) ∙ found)
        ] refl
  ] is made

  -- ---- structures and their ancestors

  begun : (s : Structure) (before : List Structure) (places : List FieldPlace) → own_places fixed (s ∷ before) ≡ Some places → IsBegun fixed s before places
  begun s before places own = elim (end_of fixed before) as (λ o. end_of fixed before ≡ o → option_and_then (λ start. placed fixed start s.fields) o ≡ Some places → IsBegun fixed s before places) [
    | None ↦ λ _ h. absurd cc
    | Some start ↦ λ is h. record { start = start; start_is = is; placed_are = h }
  ] refl own

  ended : (s : Structure) (before : List Structure) (end : ℕ) → end_of fixed (s ∷ before) ≡ Some end → IsEnded fixed s before end
  ended s before end is = elim (end_of fixed before) as (λ o. end_of fixed before ≡ o → option_and_then (λ start. option_map up_to_byte (bit_behind_fields fixed start s.fields)) o ≡ Some end → IsEnded fixed s before end) [
    | None ↦ λ _ h. absurd cc
    | Some start ↦ λ first h. elim (bit_behind_fields fixed start s.fields) as (λ o. bit_behind_fields fixed start s.fields ≡ o → option_map up_to_byte o ≡ Some end → IsEnded fixed s before end) [
      | None ↦ λ _ g. absurd cc
      | Some last ↦ λ at g.
          let whole : up_to_byte last ≡ end = cc in
          record { start = start; start_is = first; last = last; last_is = at; within = omega (arith, byte_behind last, whole) }
    ] refl h
  ] refl is

  -- a structure's own fields end where or before it does
  own_end : (s : Structure) (before : List Structure) (end : ℕ) (places : List FieldPlace) → end_of fixed (s ∷ before) ≡ Some end → own_places fixed (s ∷ before) ≡ Some places → (k : ℕ) (p : FieldPlace) → slice_get places k ≡ Some p → end_bit p ≤ end
  own_end s before end places is own k p found =
      let b = begun s before places own in
      let e = ended s before end is in
      let both : Some b.start ≡ Some e.start = sym b.start_is ∙ e.start_is in
      let same : b.start ≡ e.start = cc in
      let low = placed_end s.fields e.start e.last places e.last_is (subst (λ n. placed fixed n s.fields ≡ Some places) same b.placed_are) k p found in
      omega (arith, low, e.within)

  -- and begin where or behind its ancestors end
  in_order : (s : Structure) (before : List Structure) (places : List FieldPlace) (b : IsBegun fixed s before places) → AreInOrder b.start places
  in_order s before places b = subst (λ o. IfSome o (AreInOrder b.start)) b.placed_are (placed_order s.fields b.start)

  module _ (base : Structures) (typed : AreTyped base) where
    has_parent : (i : ℕ) (s : Structure) → slice_get base.structures i ≡ Some s → (x : ℕ) → IsIn x (ancestors base.structures i) → HasParent base.structures i s x
    has_parent i s found x above =
        let before = (typed.structures i s found).parent_before in
        elim s.parent as (λ o. s.parent ≡ o → IfSome o (λ p. p < i) → IsIn x (line base.structures o) → HasParent base.structures i s x) [
          | None ↦ λ _ _ h. absurd h
          | Some p ↦ λ is lt h. record {
            parent = p;
            before = lt;
            line_is =
                lineage_of base.structures i s found
                ∙ ap (λ o. s ∷ lineages.ancestors base.structures i o) is
                ∙ ap (λ b. s ∷ (if b then lineage base.structures p else [])) (lt-ltb p i lt);
            above = h;
          }
        ] refl before (subst (IsIn x) (ancestors_step base.structures i s found before) above)

    -- what a structure descends from ends where or before it does
    ends_by : (n i end : ℕ) → i < n → end_of fixed (lineage base.structures i) ≡ Some end → (x : ℕ) → Descends base.structures i x → EndsBy fixed base.structures x end
    ends_by zero i end lt is x down = absurd (omega (arith, lt))
    ends_by (suc n) i end lt is x (inl same) = record { end = end; end_is = subst (λ j. end_of fixed (lineage base.structures j) ≡ Some end) (sym same) is; low = omega arith }
    ends_by (suc n) i end lt is x (inr above) = elim (slice_get_cases base.structures i).1 [
      | inr w ↦ absurd (subst (IsIn x) (no_ancestors base.structures i w.0) above)
      | inl w ↦
          let h = has_parent i w.0 w.2 x above in
          let e = ended w.0 (lineage base.structures h.parent) end (ap (end_of fixed) (sym h.line_is) ∙ is) in
          let first = rising fixed w.0.fields e.start e.last e.last_is in
          let rest = ends_by n h.parent e.start (omega (arith, h.before, lt)) e.start_is x h.above in
          record { end = rest.end; end_is = rest.end_is; low = omega (arith, rest.low, first, e.within) }
    ]

    -- the fields of an ancestor end where or before the own ones begin
    behind_ancestors : (a b : FieldRef) (p q : FieldPlace) → IsPlaced fixed base.structures a p → IsPlaced fixed base.structures b q → IsIn b.structure (ancestors base.structures a.structure) → end_bit q ≤ p.bit
    behind_ancestors a b p q one two above =
        let h = has_parent a.structure one.structure one.found b.structure above in
        let g = begun one.structure (lineage base.structures h.parent) one.places (ap (own_places fixed) (sym h.line_is) ∙ one.own) in
        let e = ends_by (suc h.parent) h.parent g.start (omega arith) g.start_is b.structure h.above in
        let split = lineage_of base.structures b.structure two.structure two.found in
        let before = lineages.ancestors base.structures b.structure two.structure.parent in
        let low = own_end two.structure before e.end two.places (ap (end_of fixed) (sym split) ∙ e.end_is) (ap (own_places fixed) (sym split) ∙ two.own) b.field q two.place_is in
        let from = behind_first g.start one.places (in_order one.structure (lineage base.structures h.parent) one.places g) a.field p one.place_is in
        omega (arith, low, e.low, from)

    -- fields of one structure
    in_structure : (a b : FieldRef) (p q : FieldPlace) → a ≢ b → a.structure ≡ b.structure → IsPlaced fixed base.structures a p → IsPlaced fixed base.structures b q → (end_bit p ≤ q.bit) ⊎ (end_bit q ≤ p.bit)
    in_structure a b p q differ same one two =
        let split = lineage_of base.structures a.structure one.structure one.found in
        let before = lineages.ancestors base.structures a.structure one.structure.parent in
        let g = begun one.structure before one.places (ap (own_places fixed) (sym split) ∙ one.own) in
        let order = in_order one.structure before one.places g in
        let both : Some two.places ≡ Some one.places = sym two.own ∙ (ap (λ i. own_places fixed (lineage base.structures i)) (sym same) ∙ one.own) in
        let places : two.places ≡ one.places = cc in
        let found : slice_get one.places b.field ≡ Some q = ap (λ ps. slice_get ps b.field) (sym places) ∙ two.place_is in
        elim (cases_lt a.field b.field) [
          | inl lt ↦ inl (ends_before g.start one.places order a.field b.field p q lt one.place_is found)
          | inr le ↦ elim (cases_lt b.field a.field) [
            | inl more ↦ inr (ends_before g.start one.places order b.field a.field q p more found one.place_is)
            | inr few ↦
                let field : a.field ≡ b.field = omega (arith, le, few) in
                absurd (differ (λ k. record { structure = same k; field = field k }))
          ]
        ]

    -- fields of two structures of which one descends from the other
    in_lines : (a b : FieldRef) (p q : FieldPlace) → a ≢ b → Descends base.structures a.structure b.structure → IsPlaced fixed base.structures a p → IsPlaced fixed base.structures b q → (end_bit p ≤ q.bit) ⊎ (end_bit q ≤ p.bit)
    in_lines a b p q differ (inl same) one two = in_structure a b p q differ (sym same) one two
    in_lines a b p q differ (inr above) one two = inr (behind_ancestors a b p q one two above)

  -- a place in the table of places
  is_placed : (structures : List Structure) (layout : Layout) (field : FieldRef) (p : FieldPlace) → places_of fixed structures ≡ Some layout.fields → field_place layout field ≡ Some p → IsPlaced fixed structures field p
  is_placed structures layout field p made is = elim (slice_get layout.fields field.structure) as (λ o. slice_get layout.fields field.structure ≡ o → option_and_then (λ places. slice_get places field.field) o ≡ Some p → IsPlaced fixed structures field p) [
    | None ↦ λ _ h. absurd cc
    | Some places ↦ λ at h.
        let item = collected_item (λ j _. own_places fixed (lineage structures j)) 0 structures layout.fields made field.structure field.structure places (omega arith) at in
        record { places = places; structure = item.item; found = item.item_is; own = item.has; place_is = h }
  ] refl is

-- ---- their cells

-- entries of two rows that are apart, behind the same bit
rows_apart : (record_bit i j : ℕ) (p q : FieldPlace) → (end_bit p ≤ q.bit) ⊎ (end_bit q ≤ p.bit) → i < entry_count p → j < entry_count q → AreBitsApart (record_bit + p.bit + i * width_bits p.width) (width_bits p.width) (record_bit + q.bit + j * width_bits q.width) (width_bits q.width)
rows_apart record_bit i j p q (inl before) lt less = inl (omega (arith, before, row_step i (entry_count p) (width_bits p.width) lt))
rows_apart record_bit i j p q (inr after) lt less = inr (omega (arith, after, row_step j (entry_count q) (width_bits q.width) less))

pub turned : {A B : Type 0} → A ⊎ B → B ⊎ A
turned (inl x) = inr x
turned (inr y) = inl y

-- cells of two fields of a record
pub in_other_fields : (base : Structures) (bytes : List ℕ) (layout : Layout) → AreTyped base → layout_of base bytes ≡ Some layout → (e : Element) (a b : FieldRef) (i j : ℕ) (c d : Cell) → a ≢ b → Descends base.structures a.structure b.structure ⊎ Descends base.structures b.structure a.structure → IsEntry layout e a i c → IsEntry layout e b j d → AreCellsApart c d
in_other_fields base bytes layout typed is e a b i j c d differ lines one two =
    let fixed = fixed_value base bytes in
    let made = (built fixed base (length bytes) layout is).fields_are in
    let p = one.entry.place in
    let q = two.entry.place in
    let first = is_placed fixed base.structures layout a p made one.entry.place_is in
    let second = is_placed fixed base.structures layout b q made two.entry.place_is in
    let apart : (end_bit p ≤ q.bit) ⊎ (end_bit q ≤ p.bit) =
    elim lines [
      | inl down ↦ in_lines fixed base typed a b p q differ down first second
      | inr up ↦ turned (in_lines fixed base typed b a q p (λ s. differ (sym s)) up second first)
    ] in
    let ci = entry_cell layout e a i p c one.entry.place_is one.cell_is in
    let di = entry_cell layout e b j q d two.entry.place_is two.cell_is in
    let at = 8 * record_start layout e in
    carried c d (at + p.bit + i * width_bits p.width) (width_bits p.width) (at + q.bit + j * width_bits q.width) (width_bits q.width) ci.0 ci.1 di.0 di.1
    (rows_apart at i j p q apart one.entry.index_below two.entry.index_below)
