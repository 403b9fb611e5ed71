-- The entries of fields lie in their structures, and structures in those that extend them.
use Rattle.std.proofs.Common.{◌≡◌, ◌<◌, ◌≤◌, ◌+◌, ◌*◌, ◌^◌, ℕ, true, false, nat_lt, List, [], ◌∷◌, length, All, Option, None, Some, IfSome, option_map, option_and_then, slice_get, unwrap_or, if◌then◌else◌, refl, sym, ap, ◌∙◌, subst, arith}
use Rattle.std.proofs.lemmas.Bool.{lt-ltb}
use Rattle.std.proofs.lemmas.Nat.{mul-le}
use Rattle.std.proofs.lemmas.Option.{IfSome_then}
use Rattle.dsr_ir.specs.Layouts.{field_place}
use Rattle.dsr_ir.specs.declared.declarations.Field.{Field}
use Rattle.dsr_ir.specs.declared.declarations.Structure.{Structure}
use Rattle.dsr_ir.specs.declared.declarations.Structures.{Structures}
use Rattle.dsr_ir.specs.declared.declarations.FieldRef.{FieldRef}
use Rattle.dsr_ir.specs.declared.layouts.FieldPlace.{FieldPlace}
use Rattle.dsr_ir.specs.declared.layouts.Layout.{Layout}
use Rattle.dsr_meaning.specs.Cells.{width_bits}
use Rattle.dsr_meaning.specs.Expressions.{in_range}
use Rattle.dsr_meaning.specs.Extents.{up_to_byte, bit_behind}
use Rattle.dsr_meaning.specs.FixedFields.{fixed_value}
use Rattle.dsr_meaning.specs.Layouts.{layout_of, places_of}
use Rattle.dsr_meaning.specs.Legal.{entry_count}
use Rattle.dsr_meaning.specs.Places.{lineage, entries_of, bit_behind_fields, placed, end_of, size_of, own_places}
use Rattle.dsr_layout.proofs.Collecting.{collected_item}
use Rattle.dsr_layout.proofs.Lineages.{ancestors, lineage_of}
use Rattle.dsr_layout.proofs.LegalLayout.{built}
use Rattle.dsr_layout.proofs.LegalPlaces.{Each, all_of}
use Rattle.dsr_layout.proofs.Meanings.{found_holds}
use Rattle.dsr_layout.proofs.Placed.{byte_behind, rising}

-- each entry of the place ends at a bit or before it
abbrev EndsBy : ℕ → FieldPlace → Type 0
EndsBy end place = (index : ℕ) → index < entry_count place → place.bit + (index + 1) * width_bits place.width ≤ end

-- an entry ends at the bit behind its field or before it
entry_ends : (bit width : ℕ) (entries : Option ℕ) (index : ℕ) → index < unwrap_or entries 1 → bit + (index + 1) * width ≤ bit_behind bit (record { bits = width; entries = entries })
entry_ends bit width None index below =
    let only : (index + 1) * width ≤ 1 * width = mul-le (index + 1) width 1 width (omega (arith, below)) (omega arith) in
    omega (arith, only)
entry_ends bit width (Some n) index below =
    let before : (index + 1) * width ≤ n * width = mul-le (index + 1) width n width (omega (arith, below)) (omega arith) in
    omega (arith, before, byte_behind (bit + n * width))

-- a size is the end that it is made from
in_range_same : (n bits : ℕ) → in_range n ≡ Some bits → n ≡ bits
in_range_same n bits e = elim (nat_lt n (2 ^ 64)) as (λ b. (if b then Some n else None) ≡ Some bits → n ≡ bits) [
  | true ↦ λ h. cc
  | false ↦ λ h. absurd cc
] e

module _ (fixed : ℕ → Option ℕ) where
  pub sized_end : (structures : List Structure) (i bits : ℕ) → size_of fixed structures i ≡ Some bits → end_of fixed (lineage structures i) ≡ Some bits
  sized_end structures i bits sized = elim (end_of fixed (lineage structures i)) as (λ o. option_and_then in_range o ≡ Some bits → o ≡ Some bits) [
    | None ↦ λ h. h
    | Some e ↦ λ h. ap Some (in_range_same e bits h)
  ] sized

  placed_within : (fs : List Field) (bit last end : ℕ) → bit_behind_fields fixed bit fs ≡ Some last → last ≤ end → IfSome (placed fixed bit fs) (Each (EndsBy end))
  placed_within [] bit last end is within = tt
  placed_within (f ∷ fs) bit last end is within = elim (entries_of fixed f.len) as (λ o. option_and_then (λ e. bit_behind_fields fixed (bit_behind bit e) fs) (option_map (λ n. record { bits = width_bits f.width; entries = n }) o) ≡ Some last → IfSome (option_and_then (λ e. option_map (λ ps. record { bit = bit; width = f.width; length = e.entries } ∷ ps) (placed fixed (bit_behind bit e) fs)) (option_map (λ n. record { bits = width_bits f.width; entries = n }) o)) (Each (EndsBy end))) [
    | None ↦ λ _. tt
    | Some entries ↦ λ h.
        let behind = bit_behind bit (record { bits = width_bits f.width; entries = entries }) in
        let rest = rising fixed fs behind last h in
        elim (placed fixed behind fs) as (λ o. IfSome o (Each (EndsBy end)) → IfSome (option_map (λ ps. record { bit = bit; width = f.width; length = entries } ∷ ps) o) (Each (EndsBy end))) [
          | None ↦ λ _. tt
          | Some ps ↦ λ others. (λ index below. let own = entry_ends bit (width_bits f.width) entries index below in omega (arith, own, rest, within), others)
        ] (placed_within fs behind last end h within)
  ] is

  -- a structure ends at the bit behind its last field or behind it
  last_bit : (fs : List Field) (start end : ℕ) → option_map up_to_byte (bit_behind_fields fixed start fs) ≡ Some end → (last : ℕ) × ((bit_behind_fields fixed start fs ≡ Some last) × (last ≤ end))
  last_bit fs start end is = elim (bit_behind_fields fixed start fs) as (λ o. option_map up_to_byte o ≡ Some end → (last : ℕ) × ((o ≡ Some last) × (last ≤ end))) [
    | None ↦ λ e. absurd cc
    | Some last ↦ λ e.
        let whole : up_to_byte last ≡ end = cc in
        let within : last ≤ end = omega (arith, byte_behind last, whole) in
        (last, (refl, within))
  ] is

  -- the own fields of a structure lie before its end
  own_within : (line : List Structure) (end : ℕ) → end_of fixed line ≡ Some end → IfSome (own_places fixed line) (All (EndsBy end))
  own_within [] end is = tt
  own_within (s ∷ line) end is = elim (end_of fixed line) as (λ o. option_and_then (λ start. option_map up_to_byte (bit_behind_fields fixed start s.fields)) o ≡ Some end → IfSome (option_and_then (λ start. placed fixed start s.fields) o) (All (EndsBy end))) [
    | None ↦ λ _. tt
    | Some start ↦ λ h.
        let behind = last_bit s.fields start end h in
        IfSome_then (placed fixed start s.fields) (placed_within s.fields start behind.0 end behind.1.0 behind.1.1) (all_of (EndsBy end))
  ] is

  pub parent_within : (structures : List Structure) (i p : ℕ) (s : Structure) (larger smaller : ℕ) → slice_get structures i ≡ Some s → s.parent ≡ Some p → p < i → size_of fixed structures i ≡ Some larger → size_of fixed structures p ≡ Some smaller → smaller ≤ larger
  parent_within structures i p s larger smaller found parent before large small =
      let line : lineage structures i ≡ s ∷ lineage structures p =
      lineage_of structures i s found
      ∙ ap (λ o. s ∷ ancestors structures i o) parent
      ∙ ap (λ b. s ∷ (if b then lineage structures p else [])) (lt-ltb p i before) in
      let behind = last_bit s.fields smaller larger (
      sym (ap (option_and_then (λ start. option_map up_to_byte (bit_behind_fields fixed start s.fields))) (sized_end structures p smaller small))
      ∙ sym (ap (end_of fixed) line)
      ∙ sized_end structures i larger large) in
      omega (arith, rising fixed s.fields smaller behind.0 behind.1.0, behind.1.1)

  -- a place in the table of places
  place_within : (structures : List Structure) (fields : List (List FieldPlace)) (i k : ℕ) (places : List FieldPlace) (place : FieldPlace) (bits : ℕ) → places_of fixed structures ≡ Some fields → slice_get fields i ≡ Some places → slice_get places k ≡ Some place → size_of fixed structures i ≡ Some bits → EndsBy bits place
  place_within structures fields i k places place bits made at found sized =
      let own = (collected_item (λ j _. own_places fixed (lineage structures j)) 0 structures fields made i i places (omega arith) at).has in
      found_holds (EndsBy bits) places k place (subst (λ o. IfSome o (All (EndsBy bits))) own (own_within (lineage structures i) bits (sized_end structures i bits sized))) found

pub field_within : (base : Structures) (bytes : List ℕ) (layout : Layout) → layout_of base bytes ≡ Some layout → (field : FieldRef) (place : FieldPlace) (index bits : ℕ) → field_place layout field ≡ Some place → index < entry_count place → size_of (fixed_value base bytes) base.structures field.structure ≡ Some bits → place.bit + (index + 1) * width_bits place.width ≤ bits
field_within base bytes layout is field place index bits found below sized = elim (slice_get layout.fields field.structure) as (λ o. slice_get layout.fields field.structure ≡ o → option_and_then (λ places. slice_get places field.field) o ≡ Some place → place.bit + (index + 1) * width_bits place.width ≤ bits) [
  | None ↦ λ _ h. absurd cc
  | Some places ↦ λ at h. place_within (fixed_value base bytes) base.structures layout.fields field.structure field.field places place bits (built (fixed_value base bytes) base (length bytes) layout is).fields_are at h sized index below
] refl found
