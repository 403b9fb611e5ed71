-- The cell of a fixed field is that of an entry which the head has, and lies in the head.
use Rattle.std.proofs.Common.{◌≡◌, ◌<◌, ◌≤◌, ◌+◌, ◌*◌, ◌∙◌, ℕ, zero, suc, true, false, ◌&&◌, nat_eq, List, [], ◌∷◌, length, take, Option, None, Some, is_none, option_map, option_and_then, slice_get, if◌then◌else◌, refl, sym, ap, subst, arith}
use Rattle.std.specs.Prelude.{MatchBool, IsSomeAnd}
use Rattle.std.specs.Option.{option_map_or}
use Rattle.dsr_layout_laws.specs.Entries.{IsEntry}
use Rattle.dsr_ir.specs.Layouts.{pool_numbers, field_place}
use Rattle.dsr_ir.specs.declared.declarations.Field.{Field}
use Rattle.dsr_ir.specs.declared.declarations.FieldRef.{FieldRef}
use Rattle.dsr_ir.specs.declared.declarations.Spec.{Spec}
use Rattle.dsr_ir.specs.declared.declarations.Structure.{Structure}
use Rattle.dsr_ir.specs.declared.declarations.Structures.{Structures}
use Rattle.dsr_ir.specs.declared.layouts.Cell.{Cell}
use Rattle.dsr_ir.specs.declared.layouts.FieldPlace.{FieldPlace}
use Rattle.dsr_ir.specs.declared.layouts.Layout.{Layout}
use Rattle.dsr_ir.specs.declared.tuples.Element.{Element}
use Rattle.dsr_layout.proofs.Enclosed.{field_within}
use Rattle.dsr_layout.proofs.Fitting.{has_size, head_fits_layout}
use Rattle.dsr_layout.proofs.FixedHeads.{head_is, no_head}
use Rattle.dsr_layout.proofs.HeldCells.{cell_form}
use Rattle.dsr_layout.proofs.LegalLayout.{built}
use Rattle.dsr_layout.proofs.Lineages.{ancestors, lineage_of}
use Rattle.dsr_layout.proofs.SameCounts.{some_before}
use Rattle.dsr_meaning.specs.Cells.{IsFieldCell, is_bytewise, placed_cell, record_start, width_bits}
use Rattle.dsr_meaning.specs.Extents.{Extent, bit_behind}
use Rattle.dsr_meaning.specs.FixedFields.{cell_at, fixed_cell, fixed_value, head_fields, is_fixed, no_values, own_bit}
use Rattle.dsr_meaning.specs.Instances.{declared_field}
use Rattle.dsr_meaning.specs.Layouts.{layout_of, places_of, pools_of}
use Rattle.dsr_meaning.specs.Legal.{HasBits, IsLegalLayout}
use Rattle.dsr_meaning.specs.Places.{bit_behind_fields, end_of, entries_of, extent_of, lineage, own_places, placed, placed_at, size_of}
use Rattle.dsr_meaning.specs.Refusals.{IsLayoutOf}
use Rattle.dsr_resolve.proofs.PlacesOfFields.{collected_has, mapped_before}
use Rattle.dsr_repair_laws.proofs.KnownLengths.{behind_keeps, end_keeps, then_keeps}
use Rattle.dsr_meaning.proofs.Options.{some_of}

-- ---- where a fixed field is declared

-- the field of the head at the place is fixed, and this is its cell, at the bit
pub record IsFixedAt (base : Structures) (k : ℕ) (cell : Cell) : Type 0 where
  pub structure : Structure
  pub structure_is : slice_get base.structures base.head ≡ Some structure
  pub field : Field
  pub field_is : slice_get structure.fields k ≡ Some field
  pub fixed : field.fixed ≡ true
  pub scalar : field.len ≡ None
  pub bit : ℕ
  pub bit_is : own_bit (lineage base.structures base.head) k ≡ Some bit
  pub cell_is : cell_at base.order field bit ≡ cell

-- the structure of the head
head_of : (base : Structures) (k : ℕ) (f : Field) → slice_get (head_fields base) k ≡ Some f → (s : Structure) × ((slice_get base.structures base.head ≡ Some s) × (slice_get s.fields k ≡ Some f))
head_of base k f is = elim (slice_get base.structures base.head) as (λ o. slice_get base.structures base.head ≡ o → (s : Structure) × ((slice_get base.structures base.head ≡ Some s) × (slice_get s.fields k ≡ Some f))) [
  | None ↦ λ e. let nothing : slice_get (head_fields base) k ≡ None = ap (λ fs. slice_get fs k) (no_head base e) in absurd (let both : None ≡ Some f = sym nothing ∙ is in cc)
  | Some s ↦ λ e. (s, (e, sym (ap (λ fs. slice_get fs k) (head_is base s e)) ∙ is))
] refl

none_there : {A : Type 0} (o : Option A) → is_none o ≡ true → o ≡ None
none_there None is = refl
none_there (Some x) is = absurd cc

fixed_scalar : (f : Field) → is_fixed f ≡ true → (f.fixed ≡ true) × (f.len ≡ None)
fixed_scalar f is = elim f.fixed as (λ b. f.fixed ≡ b → b && is_none f.len ≡ true → (f.fixed ≡ true) × (f.len ≡ None)) [
  | true ↦ λ e h. (e, none_there f.len h)
  | false ↦ λ _ h. absurd cc
] refl is

pub fixed_at : (base : Structures) (k : ℕ) (cell : Cell) → fixed_cell base k ≡ Some cell → IsFixedAt base k cell
fixed_at base k cell is =
    let bit = own_bit (lineage base.structures base.head) k in
    let own = some_before (λ f. if is_fixed f then option_map (cell_at base.order f) bit else None) (slice_get (head_fields base) k) cell is in
    let f = own.0 in
    let head = head_of base k f own.1.0 in
    elim (is_fixed f) as (λ b. is_fixed f ≡ b → (if b then option_map (cell_at base.order f) bit else None) ≡ Some cell → IsFixedAt base k cell) [
      | true ↦ λ fixed h.
          let at = mapped_before (cell_at base.order f) bit cell h in
          let scalar = fixed_scalar f fixed in
          record {
            structure = head.0;
            structure_is = head.1.0;
            field = f;
            field_is = head.1.1;
            fixed = scalar.0;
            scalar = scalar.1;
            bit = at.0;
            bit_is = at.1.0;
            cell_is = at.1.1;
          }
      | false ↦ λ _ h. absurd cc
    ] refl own.1.1

-- ---- its place in a layout

-- a scalar behind fields that end at a bit stands there
placed_there : (fixed : ℕ → Option ℕ) (fs : List Field) (start : ℕ) (places : List FieldPlace) (k : ℕ) (f : Field) (bit : ℕ) → placed fixed start fs ≡ Some places → slice_get fs k ≡ Some f → f.len ≡ None → bit_behind_fields fixed start (take k fs) ≡ Some bit → slice_get places k ≡ Some (record { bit = bit; width = f.width; length = None })
placed_there fixed [] start places k f bit made found scalar behind = absurd cc
placed_there fixed (g ∷ gs) start places zero f bit made found scalar behind =
    let first = some_before (λ x. option_map (λ ps. placed_at start g x ∷ ps) (placed fixed (bit_behind start x) gs)) (extent_of fixed g) places made in
    let rest = mapped_before (λ ps. placed_at start g first.0 ∷ ps) (placed fixed (bit_behind start first.0) gs) places first.1.1 in
    let own = mapped_before (λ entries. record { bits = width_bits g.width; entries = entries }) (entries_of fixed g.len) first.0 first.1.0 in
    let same : g ≡ f = cc in
    let none : Some None ≡ Some own.0 = ap (entries_of fixed) (sym (ap (λ (x : Field). x.len) same ∙ scalar)) ∙ own.1.0 in
    let bare : None ≡ own.0 = cc in
    let entries : first.0.entries ≡ None = sym (ap (λ (x : Extent). x.entries) own.1.1) ∙ sym bare in
    let at : start ≡ bit = cc in
    sym (ap (λ ps. slice_get ps 0) rest.1.1)
    ∙ (λ i. Some (record { bit = at i; width = (same i).width; length = entries i }))
placed_there fixed (g ∷ gs) start places (suc k) f bit made found scalar behind =
    let first = some_before (λ x. option_map (λ ps. placed_at start g x ∷ ps) (placed fixed (bit_behind start x) gs)) (extent_of fixed g) places made in
    let rest = mapped_before (λ ps. placed_at start g first.0 ∷ ps) (placed fixed (bit_behind start first.0) gs) places first.1.1 in
    let later : bit_behind_fields fixed (bit_behind start first.0) (take k gs) ≡ Some bit =
    sym (ap (option_and_then (λ e. bit_behind_fields fixed (bit_behind start e) (take k gs))) first.1.0) ∙ behind in
    sym (ap (λ ps. slice_get ps (suc k)) rest.1.1)
    ∙ placed_there fixed gs (bit_behind start first.0) rest.0 k f bit rest.1.0 found scalar later

abbrev pub fixed_field : Structures → ℕ → FieldRef
fixed_field base k = record { structure = base.head; field = k }

-- the place of the field
abbrev place_at : Field → ℕ → FieldPlace
place_at f bit = record { bit = bit; width = f.width; length = None }

place_is : (base : Structures) (bytes : List ℕ) (layout : Layout) → layout_of base bytes ≡ Some layout → (k : ℕ) (cell : Cell) (at : IsFixedAt base k cell) → field_place layout (fixed_field base k) ≡ Some (place_at at.field at.bit)
place_is base bytes layout is k cell at =
    let fixed = fixed_value base bytes in
    let s = at.structure in
    let own = collected_has (λ i _. own_places fixed (lineage base.structures i)) 0 base.structures layout.fields (built fixed base (length bytes) layout is).fields_are base.head base.head s (omega arith) at.structure_is in
    let line = lineage_of base.structures base.head s at.structure_is in
    let before = ancestors base.structures base.head s.parent in
    let bit : own_bit (s ∷ before) k ≡ Some at.bit = sym (ap (λ ss. own_bit ss k) line) ∙ at.bit_is in
    let known = then_keeps (λ start. bit_behind_fields no_values start (take k s.fields)) (λ start. bit_behind_fields fixed start (take k s.fields)) (end_of no_values before) (end_of fixed before) (end_keeps fixed before) (λ start. behind_keeps fixed (take k s.fields) start) at.bit bit in
    let start = some_before (λ start. bit_behind_fields fixed start (take k s.fields)) (end_of fixed before) at.bit known in
    let made : placed fixed start.0 s.fields ≡ Some own.value =
    sym (ap (option_and_then (λ b. placed fixed b s.fields)) start.1.0) ∙ sym (ap (own_places fixed) line) ∙ own.has in
    ap (option_and_then (λ places. slice_get places k)) own.value_is
    ∙ placed_there fixed s.fields start.0 own.value k at.field at.bit made at.field_is at.scalar start.1.1

-- ---- its entry

order_is : (base : Structures) (bytes : List ℕ) (layout : Layout) → layout_of base bytes ≡ Some layout → layout.order ≡ base.order
order_is base bytes layout is =
    let fixed = fixed_value base bytes in
    let all = pools_of fixed (size_of fixed base.structures) base.pools in
    let fields = some_before (λ fields. option_map (λ pools. record { length = length bytes; order = base.order; pools = pools; fields = fields }) all) (places_of fixed base.structures) layout is in
    let pools = mapped_before (λ pools. record { length = length bytes; order = base.order; pools = pools; fields = fields.0 }) all layout fields.1.1 in
    sym (ap (λ (l : Layout). l.order) pools.1.1)

-- bits of the image are those of the head
head_bits : (layout : Layout) (e : Element) (bits : ℕ) → e.pool ≡ 0 → bits ≤ 8 * layout.length → HasBits layout e bits
head_bits layout e bits head within = subst (λ p. MatchBool (nat_eq p 0) (bits ≤ 8 * layout.length) (IsSomeAnd (pool_numbers layout p) (λ n. (e.slot < n.count) × (bits ≤ 8 * n.slot)))) (sym head) within

-- the head has the entry, whose cell lies in the head
pub record IsFixedEntry (spec : Spec) (bytes : List ℕ) (layout : Layout) (e : Element) (k : ℕ) (cell : Cell) : Type 0 where
  pub field : Field
  pub declared : declared_field spec.base (fixed_field spec.base k) ≡ Some field
  pub fixed : field.fixed ≡ true
  pub entry : IsEntry layout e (fixed_field spec.base k) 0 cell
  pub form : IsFieldCell cell
  pub bits : ℕ
  pub sized : size_of (fixed_value spec.base bytes) spec.base.structures spec.base.head ≡ Some bits
  pub within : cell.bit + cell.width ≤ bits

pub fixed_entry : (spec : Spec) (bytes : List ℕ) (layout : Layout) → IsLayoutOf spec bytes layout → IsLegalLayout layout → (e : Element) → e.pool ≡ 0 → (k : ℕ) (cell : Cell) → fixed_cell spec.base k ≡ Some cell → IsFixedEntry spec bytes layout e k cell
fixed_entry spec bytes layout is legal e head k cell found =
    let base = spec.base in
    let at = fixed_at base k cell found in
    let place = place_at at.field at.bit in
    let width = width_bits place.width in
    let there = place_is base bytes layout is.numbers k cell at in
    let size = some_of (size_of (fixed_value base bytes) base.structures base.head) (has_size spec bytes is.accepted base.head at.structure at.structure_is) in
    let inside : place.bit + (0 + 1) * width ≤ size.0 = field_within base bytes layout is.numbers (fixed_field base k) place 0 size.0 there (omega arith) size.1 in
    let fits = head_fits_layout spec bytes is.accepted layout is.numbers size.0 size.1 in
    let start : record_start layout e ≡ 0 = ap (λ p. option_map_or (λ n. n.start + e.slot * n.slot) (pool_numbers layout p) 0) head in
    let bit : 8 * record_start layout e + place.bit + 0 * width ≡ at.bit = omega (arith, start) in
    let order = order_is base bytes layout is.numbers in
    let same : placed_cell layout.order (record_start layout e) 0 place ≡ cell =
    (λ i. record { bit = bit i; width = width; bytewise = is_bytewise place.width; order = order i }) ∙ at.cell_is in
    let first : at.bit ≡ cell.bit = ap (λ (c : Cell). c.bit) at.cell_is in
    let wide : width ≡ cell.width = ap (λ (c : Cell). c.width) at.cell_is in
    record {
      field = at.field;
      declared = ap (option_and_then (λ (s : Structure). slice_get s.fields k)) at.structure_is ∙ at.field_is;
      fixed = at.fixed;
      entry = record {
        entry = record {
          place = place;
          place_is = there;
          index_below = omega arith;
          within = head_bits layout e (place.bit + (0 + 1) * width) head (omega (arith, inside, fits));
        };
        cell_is = ap (option_map (placed_cell layout.order (record_start layout e) 0)) there ∙ ap Some same;
      };
      form = subst IsFieldCell same (cell_form layout (fixed_field base k) place (record_start layout e) 0 width (is_bytewise place.width) layout.order legal there refl refl);
      bits = size.0;
      sized = size.1;
      within = omega (arith, inside, first, wide);
    }
