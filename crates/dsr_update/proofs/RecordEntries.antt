-- A record has each entry of a field of its pool's structure and of the ancestors, and the reset value fits there.
use Rattle.std.proofs.Common.{◌≡◌, ◌<◌, ◌≤◌, ◌+◌, ◌*◌, ◌^◌, ◌-◌, ◌∙◌, ℕ, zero, suc, true, false, nat_eq, List, [], ◌∷◌, length, Option, Some, None, refl, sym, ap, subst, arith}
use Rattle.std.specs.Prelude.{IsSomeAnd, MatchBool, option_map, option_and_then, slice_get}
use Rattle.dsr_ir.specs.Layouts.{pool_numbers, field_place}
use Rattle.dsr_ir.specs.declared.declarations.Field.{Field}
use Rattle.dsr_ir.specs.declared.declarations.FieldRef.{FieldRef}
use Rattle.dsr_ir.specs.declared.declarations.Kind.TheVariants.{Number, Refers, Gap}
use Rattle.dsr_ir.specs.declared.declarations.Spec.{Spec}
use Rattle.dsr_ir.specs.declared.declarations.Structures.{Structures}
use Rattle.dsr_ir.specs.declared.layouts.FieldPlace.{FieldPlace}
use Rattle.dsr_ir.specs.declared.layouts.Layout.{Layout}
use Rattle.dsr_ir.specs.declared.layouts.PoolNumbers.{PoolNumbers}
use Rattle.dsr_ir.specs.declared.tuples.Element.{Element}
use Rattle.dsr_layout.proofs.Enclosed.{field_within, sized_end}
use Rattle.dsr_layout.proofs.Fitting.{field_found, has_size, none_fits, pool_fits, pool_found}
use Rattle.dsr_layout.proofs.LegalLayout.{built}
use Rattle.dsr_layout.proofs.Lineages.{ancestors, lineage_of}
use Rattle.dsr_layout.proofs.SameCounts.{some_before}
use Rattle.dsr_meaning.specs.Cells.{width_bits}
use Rattle.dsr_meaning.specs.Extents.{bit_behind}
use Rattle.dsr_meaning.specs.FixedFields.{fixed_value}
use Rattle.dsr_meaning.specs.Instances.{declared_field, kind_pool}
use Rattle.dsr_meaning.specs.Layouts.{layout_of}
use Rattle.dsr_meaning.specs.Legal.{HasBits, HasEntry, IsLegalLayout, entry_count}
use Rattle.dsr_meaning.specs.Places.{end_of, extent_of, lineage, own_places, placed, placed_at, size_of}
use Rattle.dsr_meaning.specs.Typed.{Descends, IsTypedKind, pool_at}
use Rattle.dsr_resolve.proofs.AcceptedLayouts.{legal_of}
use Rattle.dsr_resolve.proofs.Descent.{descended_end}
use Rattle.dsr_resolve.proofs.PlacesOfFields.{collected_has, mapped_before}
use Rattle.dsr_step_theory.specs.Resets.{reset_number}
use Rattle.dsr_update.specs.Claims.{CanReset, IsRecordField}
use Rattle.dsr_update.proofs.RecordSlots.{in_pool}
use Rattle.dsr_meaning.proofs.Options.{some_and, some_of}
use Rattle.dsr_meaning.proofs.Items.{item_there}

-- ---- the place of a declared field is as wide as the field

module _ (fixed : ℕ → Option ℕ) where
  placed_width : (fs : List Field) (bit : ℕ) (places : List FieldPlace) → placed fixed bit fs ≡ Some places → (k : ℕ) (f : Field) (place : FieldPlace) → slice_get fs k ≡ Some f → slice_get places k ≡ Some place → place.width ≡ f.width
  placed_width [] bit places e k f place found at = absurd cc
  placed_width (g ∷ gs) bit places e zero f place found at =
      let first = some_before (λ x. option_map (λ ps. placed_at bit g x ∷ ps) (placed fixed (bit_behind bit x) gs)) (extent_of fixed g) places e in
      let rest = mapped_before (λ ps. placed_at bit g first.0 ∷ ps) (placed fixed (bit_behind bit first.0) gs) places first.1.1 in
      let there : slice_get (placed_at bit g first.0 ∷ rest.0) 0 ≡ Some place = ap (λ ps. slice_get ps 0) rest.1.1 ∙ at in
      let here : place ≡ placed_at bit g first.0 = cc in
      let same : g ≡ f = cc in
      ap (λ (p : FieldPlace). p.width) here ∙ ap (λ (x : Field). x.width) same
  placed_width (g ∷ gs) bit places e (suc k) f place found at =
      let first = some_before (λ x. option_map (λ ps. placed_at bit g x ∷ ps) (placed fixed (bit_behind bit x) gs)) (extent_of fixed g) places e in
      let rest = mapped_before (λ ps. placed_at bit g first.0 ∷ ps) (placed fixed (bit_behind bit first.0) gs) places first.1.1 in
      placed_width gs (bit_behind bit first.0) rest.0 rest.1.0 k f place found (ap (λ ps. slice_get ps (suc k)) rest.1.1 ∙ at)

pub same_width : (base : Structures) (bytes : List ℕ) (layout : Layout) → layout_of base bytes ≡ Some layout → (field : FieldRef) (f : Field) (place : FieldPlace) → declared_field base field ≡ Some f → field_place layout field ≡ Some place → place.width ≡ f.width
same_width base bytes layout is field f place declared found =
    let fixed = fixed_value base bytes in
    let at = field_found base field f declared in
    let own = collected_has (λ i _. own_places fixed (lineage base.structures i)) 0 base.structures layout.fields (built fixed base (length bytes) layout is).fields_are field.structure field.structure at.structure (omega arith) at.structure_is in
    let line = lineage_of base.structures field.structure at.structure at.structure_is in
    let start = some_before (λ b. placed fixed b at.structure.fields) (end_of fixed (ancestors base.structures field.structure at.structure.parent)) own.value (sym (ap (own_places fixed) line) ∙ own.has) in
    let there : slice_get own.value field.field ≡ Some place = sym (ap (option_and_then (λ places. slice_get places field.field)) own.value_is) ∙ found in
    placed_width fixed at.structure.fields start.0 own.value start.1.1 field.field f place at.field_is there

-- ---- what a record that can be reset has

-- the bits of a slot are those of a record there
in_slot : (layout : Layout) (e : Element) (n : PoolNumbers) (bits : ℕ) → pool_numbers layout e.pool ≡ Some n → e.slot < n.count → bits ≤ 8 * n.slot → HasBits layout e bits
in_slot layout e n bits numbers below within = elim (nat_eq e.pool 0) as (λ b. nat_eq e.pool 0 ≡ b → MatchBool b (bits ≤ 8 * layout.length) (IsSomeAnd (pool_numbers layout e.pool) (λ m. (e.slot < m.count) × (bits ≤ 8 * m.slot)))) [
  | true ↦ λ head.
      let none : pool_numbers layout e.pool ≡ None = rw head refl in
      let both : None ≡ Some n = sym none ∙ numbers in
      absurd cc
  | false ↦ λ _. subst (λ o. IsSomeAnd o (λ m. (e.slot < m.count) × (bits ≤ 8 * m.slot))) (sym numbers) (below, within)
] refl

module _ (spec : Spec) (layout : Layout) (e : Element) (bytes : ℕ) (can : CanReset spec layout e bytes) where
  abbrev base : Structures
  base = spec.base

  abbrev size : ℕ → Option ℕ
  size = size_of (fixed_value base can.image) base.structures

  pub as_long : bytes ≡ layout.length
  as_long = can.as_long ∙ (built (fixed_value base can.image) base (length can.image) layout can.layout_is.numbers).bytes_are

  -- the layout is a legal one where the image is as small as an image may be
  pub legal_where_small : bytes ≤ 67108864 → IsLegalLayout layout
  legal_where_small small = legal_of spec can.image layout can.layout_is can.typed (omega (arith, small, can.as_long))

  module _ (place : FieldRef) (f : Field) (of : IsRecordField spec e place f) (at : FieldPlace) (found : field_place layout place ≡ Some at) where
    -- the bits of the structure that declares the field lie in the slot
    ends_in_slot : (n : PoolNumbers) → pool_numbers layout e.pool ≡ Some n → (index : ℕ) → index < entry_count at → at.bit + (index + 1) * width_bits at.width ≤ 8 * n.slot
    ends_in_slot n numbers index below =
        let pool = some_and (pool_at base e.pool) (λ d. Descends base.structures d.structure place.structure) of.structure in
        let d = pool.0 in
        let declared = pool_found base e.pool d pool.1.0 in
        let own = field_found base place f of.declared in
        let sized = some_of (size place.structure) (has_size spec can.image can.layout_is.accepted place.structure own.structure own.structure_is) in
        let above = item_there base.structures d.structure (can.typed.base.pools (e.pool - 1) d declared).structure.declared in
        let top = some_of (size d.structure) (has_size spec can.image can.layout_is.accepted d.structure above.0 above.1) in
        let fixed = fixed_value base can.image in
        let ancestor : sized.0 ≤ top.0 = descended_end fixed base.structures (λ i s is. (can.typed.base.structures i s is).parent_before) d.structure place.structure top.0 sized.0 pool.1.1 (sized_end fixed base.structures d.structure top.0 top.1) (sized_end fixed base.structures place.structure sized.0 sized.1) in
        let within = field_within base can.image layout can.layout_is.numbers place at index sized.0 found below sized.1 in
        let room = pool_fits spec can.image can.layout_is.accepted layout can.layout_is.numbers e.pool n numbers d top.0 declared top.1 in
        omega (arith, ancestor, within, room)

    -- so the record has each entry of the field
    pub has_entry : (index : ℕ) → index < entry_count at → HasEntry layout e place index
    has_entry index below =
        let pool = in_pool layout e can.slot in
        let bits = at.bit + (index + 1) * width_bits at.width in
        let within = ends_in_slot pool.numbers pool.numbers_are index below in
        record {
          place = at;
          place_is = found;
          index_below = below;
          within = in_slot layout e pool.numbers bits pool.numbers_are pool.below within;
        }

    -- and the reset value fits them
    fits_width : (value : ℕ) → reset_number layout f.kind ≡ Some value → value < 2 ^ width_bits f.width
    fits_width value is =
        let own = field_found base place f of.declared in
        let typed = ((can.typed.base.structures place.structure own.structure own.structure_is).fields place.field f own.field_is).kind in
        elim f.kind as (λ kind. f.kind ≡ kind → IsTypedKind base f kind → reset_number layout kind ≡ Some value → value < 2 ^ width_bits f.width) [
          | Number init ↦ λ _ fits e. let same : init ≡ value = cc in subst (λ v. v < 2 ^ width_bits f.width) same fits
          | Refers pool ↦ λ refers _ e.
              let n = mapped_before (λ (m : PoolNumbers). m.none) (pool_numbers layout pool) value e in
              subst (λ v. v < 2 ^ width_bits f.width) n.1.1
              (none_fits spec can.image can.layout_is.accepted layout can.layout_is.numbers place.structure place.field pool own.structure f n.0 own.structure_is own.field_is (ap kind_pool refers) n.1.0)
          | Gap ↦ λ _ _ e. absurd cc
        ] refl typed is

    pub reset_fits : (value : ℕ) → reset_number layout f.kind ≡ Some value → value < 2 ^ width_bits at.width
    reset_fits value is =
        subst (λ w. value < 2 ^ width_bits w) (sym (same_width base can.image layout can.layout_is.numbers place f at of.declared found))
        (fits_width value is)
