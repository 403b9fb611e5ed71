-- A record has the entries of its fields, and their cells lie in the image.
use Rattle.std.proofs.Common.{◌≡◌, ◌<◌, ◌≤◌, ◌+◌, ◌-◌, ◌*◌, ◌^◌, ◌∙◌, ℕ, true, false, nat_eq, nat_lt, List, length, Option, None, Some, IsSome, IsSomeAnd, MatchBool, slice_get, inl, refl, sym, ap, subst, arith}
use Rattle.std.specs.Prelude.{if◌then◌else◌, option_map}
use Rattle.std.proofs.lemmas.Bool.{ne_eqb}
use Rattle.std.proofs.lemmas.Bool.Decides.{nat_tests}
use Rattle.std.proofs.lemmas.Option.{none-some, same_Some, slice_get_within}
use Rattle.dsr_affected_laws.proofs.Records as records
use Rattle.dsr_affected_laws.specs.Differing.{HasFieldsOf, IsCellAt}
use Rattle.dsr_edit.specs.Edits.{MayWrite, NamesCell, entry_of}
use Rattle.dsr_edit.specs.declared.groups.CellWrite.{CellWrite}
use Rattle.dsr_effect_laws.proofs.Writes.{entry_form}
use Rattle.dsr_ir.specs.Layouts.{field_place, pool_numbers}
use Rattle.dsr_ir.specs.declared.declarations.Field.{Field}
use Rattle.dsr_ir.specs.declared.declarations.FieldRef.{FieldRef}
use Rattle.dsr_ir.specs.declared.declarations.Pool.{Pool}
use Rattle.dsr_ir.specs.declared.declarations.Spec.{Spec}
use Rattle.dsr_ir.specs.declared.declarations.Structure.{Structure}
use Rattle.dsr_ir.specs.declared.declarations.Structures.{Structures}
use Rattle.dsr_ir.specs.declared.layouts.Cell.{Cell}
use Rattle.dsr_ir.specs.declared.layouts.FieldPlace.{FieldPlace}
use Rattle.dsr_ir.specs.declared.layouts.Layout.{Layout}
use Rattle.dsr_ir.specs.declared.layouts.PoolNumbers.{PoolNumbers}
use Rattle.dsr_ir.specs.declared.tuples.Element.{Element}
use Rattle.dsr_layout.proofs.Enclosed.{field_within, sized_end}
use Rattle.dsr_layout.proofs.Fitting.{field_found, has_size, head_fits_layout, pool_fits, set_fits}
use Rattle.dsr_layout.proofs.HeldCells.{entry_within}
use Rattle.dsr_layout.proofs.LegalLayout.{built}
use Rattle.dsr_layout.proofs.SameCounts.{records_of}
use Rattle.dsr_layout_laws.specs.Entries.{IsEntry}
use Rattle.dsr_meaning.proofs.Items.{item_there, of_all, place_of}
use Rattle.dsr_meaning.proofs.Options.{some_and, some_of}
use Rattle.dsr_meaning.specs.Cells.{IsCellOf, cell_of, placed_cell, record_start, width_bits}
use Rattle.dsr_meaning.specs.FixedFields.{fixed_value}
use Rattle.dsr_meaning.specs.Instances.{record_count}
use Rattle.dsr_meaning.specs.Legal.{HasBits, HasEntry, IsLegalLayout, entry_count}
use Rattle.dsr_meaning.specs.Places.{size_of}
use Rattle.dsr_meaning.specs.Refusals.{IsLayoutOf}
use Rattle.dsr_meaning.specs.Truth.{head}
use Rattle.dsr_meaning.specs.Typed.{IsPoolNumber, IsTyped, IsTypedSet, Descends}
use Rattle.dsr_report_read.specs.Forms.{IsPoolField, IsTop}
use Rattle.dsr_report_read.specs.Forms.IsTop.{of_head, of_pool, of_set}
use Rattle.dsr_resolve.proofs.Descent.{descended_end}
use Rattle.dsr_resolve.proofs.Entries.{numbers_of}

-- a pool that is found is numbered from 1, and stands among those that are declared
record IsFound (pools : List Pool) (p : ℕ) (d : Pool) : Type 0 where
  from : 1 ≤ p
  found : slice_get pools (p - 1) ≡ Some d

found_pool : (pools : List Pool) (p : ℕ) (d : Pool) → (if nat_eq p 0 then None else slice_get pools (p - 1)) ≡ Some d → IsFound pools p d
found_pool pools p d e = elim (nat_eq p 0) as (λ b. nat_eq p 0 ≡ b → (if b then None else slice_get pools (p - 1)) ≡ Some d → IsFound pools p d) [
  | true ↦ λ _ h. absurd (none-some d h)
  | false ↦ λ other h. record { from = grind (arith, nat_tests); found = h }
] refl e

module _ (spec : Spec) (bytes : List ℕ) (layout : Layout) (is : IsLayoutOf spec bytes layout) (typed : IsTyped spec) where
  abbrev base : Structures
  base = spec.base

  abbrev fixed : ℕ → Option ℕ
  fixed = fixed_value base bytes

  abbrev size : ℕ → Option ℕ
  size = size_of fixed base.structures

  -- so many bits of the record at a pool
  abbrev HasBitsAt : Element → ℕ → ℕ → Type 0
  HasBitsAt e small p = MatchBool (nat_eq p 0) (small ≤ 8 * layout.length) (IsSomeAnd (pool_numbers layout p) (λ n. (e.slot < n.count) × (small ≤ 8 * n.slot)))

  in_pool : (e : Element) (n : PoolNumbers) (small : ℕ) → 1 ≤ e.pool → pool_numbers layout e.pool ≡ Some n → e.slot < record_count layout e.pool → small ≤ 8 * n.slot → HasBits layout e small
  in_pool e n small some numbers below fits =
      let other : nat_eq e.pool 0 ≡ false = ne_eqb e.pool 0 (λ q. omega (arith, q, some)) in
      let slot : e.slot < n.count = subst (λ m. e.slot < m) (records_of layout e.pool n numbers) below in
      subst (λ b. MatchBool b (small ≤ 8 * layout.length) (IsSomeAnd (pool_numbers layout e.pool) (λ m. (e.slot < m.count) × (small ≤ 8 * m.slot)))) (sym other)
      (subst (λ o. IsSomeAnd o (λ m. (e.slot < m.count) × (small ≤ 8 * m.slot))) (sym numbers) (slot, fits))

  -- a record has the bits of a structure by which it is read
  has_bits : (e : Element) (small bits top : ℕ) → IsTop base e.pool top → e.slot < record_count layout e.pool → size top ≡ Some bits → small ≤ bits → HasBits layout e small
  has_bits e small bits top (of_head none) below sized less =
      let fits = head_fits_layout spec bytes is.accepted layout is.numbers bits sized in
      subst (HasBitsAt e small) (sym none) (omega (arith, fits, less))
  has_bits e small bits top (of_pool d found) below sized less =
      let at = found_pool base.pools e.pool d found in
      let there = slice_get_within base.pools (e.pool - 1) d at.found in
      let number : IsPoolNumber base e.pool = record { from = at.from; to = omega (arith, there, at.from) } in
      let n = numbers_of spec bytes layout is typed e.pool number in
      let fits = pool_fits spec bytes is.accepted layout is.numbers e.pool n.0 n.1 d bits at.found sized in
      in_pool e n.0 small at.from n.1 below (omega (arith, fits, less))
  has_bits e small bits top (of_set set among same) below sized less =
      let at = place_of base.sets set among in
      let number : IsPoolNumber base e.pool = subst (IsPoolNumber base) same (of_all (IsTypedSet base) base.sets set typed.base.sets among).pool in
      let n = numbers_of spec bytes layout is typed e.pool number in
      let fits = set_fits spec bytes is.accepted layout is.numbers e.pool n.0 n.1 at.0 set bits at.1 same sized in
      in_pool e n.0 small number.from n.1 below (omega (arith, fits, less))

  -- such a structure is declared
  top_known : (pool top : ℕ) → IsTop base pool top → (s : Structure) × (slice_get base.structures top ≡ Some s)
  top_known pool top (of_head none) = let s = some_and (slice_get base.structures base.head) _ typed.base.head in (s.0, s.1.0)
  top_known pool top (of_pool d found) =
      let at = found_pool base.pools pool d found in
      item_there base.structures d.structure (typed.base.pools (pool - 1) d at.found).structure.declared
  top_known pool top (of_set set among same) = item_there base.structures set.structure (of_all (IsTypedSet base) base.sets set typed.base.sets among).structure.declared

  size_known : (i : ℕ) (s : Structure) → slice_get base.structures i ≡ Some s → (bits : ℕ) × (size i ≡ Some bits)
  size_known i s found = some_of (size i) (has_size spec bytes is.accepted i s found)

  pub has_entry : (e : Element) (field : FieldRef) (f : Field) (index : ℕ) (place : FieldPlace) → IsPoolField base e.pool field f → e.slot < record_count layout e.pool → field_place layout field ≡ Some place → index < entry_count place → HasEntry layout e field index
  has_entry e field f index place of_field below place_is index_below =
      let top = of_field.of_pool in
      let own = field_found base field f of_field.declared in
      let known = top_known e.pool top.top top.is_top in
      let whole = size_known top.top known.0 known.1 in
      let part = size_known field.structure own.structure own.structure_is in
      let part_within = descended_end fixed base.structures (λ j s found. (typed.base.structures j s found).parent_before) top.top field.structure whole.0 part.0 top.descends (sized_end fixed base.structures top.top whole.0 whole.1) (sized_end fixed base.structures field.structure part.0 part.1) in
      let entry_in = field_within base bytes layout is.numbers field place index part.0 place_is index_below part.1 in
      record {
        place = place;
        place_is = place_is;
        index_below = index_below;
        within = has_bits e (place.bit + (index + 1) * width_bits place.width) whole.0 top.top top.is_top below whole.1 (omega (arith, part_within, entry_in));
      }

  -- a record has the fields of its pool's records
  only_head : (e : Element) → e.pool ≡ 0 → e.slot < record_count layout e.pool → e ≡ head
  only_head e none below =
      let low : e.slot < 1 = subst (λ p. e.slot < record_count layout p) none below in
      let slot : e.slot ≡ 0 = omega (arith, low) in
      λ k. record { pool = none k; slot = slot k }

  has_fields : (e : Element) (structure top : ℕ) → IsTop base e.pool top → e.slot < record_count layout e.pool → Descends base.structures top structure → HasFieldsOf base e structure
  has_fields e structure top (of_head none) below line = inl (only_head e none below, line)
  has_fields e structure top (of_pool d found) below line = records.of_pool base e d structure found line
  has_fields e structure top (of_set set among same) below line = records.of_set base e set structure typed.base among same line

  -- ---- writes

  entry_is : (write : CellWrite) (field : Field) (cell : Cell) → NamesCell spec layout write field cell → IsEntry layout write.elem write.field (entry_of write) cell
  entry_is write field cell names = record {
    entry = has_entry write.elem write.field field (entry_of write) names.place names.is_field names.slot_below names.entry.place_is names.entry.index_below;
    cell_is = names.cell_is;
  }

  pub cell_at : (write : CellWrite) (cell : Cell) → MayWrite spec layout write cell → IsCellAt spec layout write.elem write.field (entry_of write) cell
  cell_at write cell may =
      let of_field = may.names.is_field in
      record {
        declared = subst IsSome (sym of_field.declared) refl;
        of_record = has_fields write.elem write.field.structure of_field.of_pool.top of_field.of_pool.is_top may.names.slot_below of_field.of_pool.descends;
        entry = entry_is write may.field cell may.names;
      }

  pub cell_in : IsLegalLayout layout → (write : CellWrite) (cell : Cell) → MayWrite spec layout write cell → IsCellOf bytes cell
  cell_in legal write cell may =
      let names = may.names in
      let entry = entry_is write may.field cell names in
      let place = names.place in
      let start = record_start layout write.elem in
      let both : Some (placed_cell layout.order start (entry_of write) place) ≡ Some cell = ap (option_map (placed_cell layout.order start (entry_of write))) (sym names.entry.place_is) ∙ names.cell_is in
      let within = entry_within layout write.elem write.field (entry_of write) place (width_bits place.width) legal entry.entry names.entry.place_is refl in
      let long = (built fixed base (length bytes) layout is.numbers).bytes_are in
      record {
        form = entry_form layout write.elem write.field (entry_of write) cell legal entry;
        within = subst (λ (c : Cell). c.bit + c.width ≤ 8 * length bytes) (same_Some (placed_cell layout.order start (entry_of write) place) cell both) (omega (arith, within, long));
      }

  pub fits_cell : (e : Element) (field : FieldRef) (index : ℕ) (place : FieldPlace) (cell : Cell) (value : ℕ) → field_place layout field ≡ Some place → cell_of layout e field index ≡ Some cell → nat_lt value (2 ^ width_bits place.width) ≡ true → value < 2 ^ cell.width
  fits_cell e field index place cell value place_is cell_is fits =
      let at = placed_cell layout.order (record_start layout e) index in
      let same : at place ≡ cell = same_Some (at place) cell (ap (option_map at) (sym place_is) ∙ cell_is) in
      let less : value < 2 ^ width_bits place.width = grind (arith, nat_tests) in
      subst (λ (c : Cell). value < 2 ^ c.width) same less
