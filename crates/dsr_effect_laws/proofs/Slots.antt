-- Cells of different records share no bit.
use Rattle.std.proofs.Common.{◌≡◌, ◌≢◌, ◌≤◌, ◌<◌, ◌+◌, ◌*◌, ◌∙◌, ℕ, List, Some, ◌⊎◌, inl, inr, sym, ap, subst, arith}
use Rattle.std.specs.Prelude.{slice_get}
use Rattle.std.specs.Option.{option_map_or}
use Rattle.std.proofs.lemmas.Bool.{cases_lt}
use Rattle.std.proofs.lemmas.Option.{same_Some}
use Rattle.dsr_layout_laws.proofs.Ranges.{pools_apart, row_step, slots_apart}
use Rattle.dsr_layout_laws.proofs.Records.{entry_cell}
use Rattle.dsr_layout_laws.specs.Entries.{IsEntry}
use Rattle.dsr_ir.specs.Layouts.{pool_numbers}
use Rattle.dsr_ir.specs.declared.declarations.Field.{Field}
use Rattle.dsr_ir.specs.declared.declarations.FieldRef.{FieldRef}
use Rattle.dsr_ir.specs.declared.declarations.Spec.{Spec}
use Rattle.dsr_ir.specs.declared.layouts.Cell.{Cell}
use Rattle.dsr_ir.specs.declared.layouts.Layout.{Layout}
use Rattle.dsr_ir.specs.declared.layouts.PoolNumbers.{PoolNumbers}
use Rattle.dsr_ir.specs.declared.tuples.Element.{Element}
use Rattle.dsr_repair_laws.proofs.HeadApart.{LiesInSlot, entry_in_slot, slot_apart}
use Rattle.dsr_layout.proofs.Enclosed.{field_within, sized_end}
use Rattle.dsr_layout.proofs.Fitting.{field_found, has_size}
use Rattle.dsr_layout.proofs.Meanings.{legal_pool}
use Rattle.dsr_meaning.specs.Cells.{record_start, width_bits}
use Rattle.dsr_meaning.specs.FixedFields.{fixed_value}
use Rattle.dsr_meaning.specs.Instances.{declared_field}
use Rattle.dsr_meaning.specs.Legal.{IsLegalLayout}
use Rattle.dsr_meaning.specs.Places.{size_of}
use Rattle.dsr_meaning.specs.Refusals.{IsLayoutOf}
use Rattle.dsr_meaning.specs.Truth.{head}
use Rattle.dsr_meaning.specs.Typed.{Descends, IsTyped}
use Rattle.dsr_meaning.specs.Writes.{AreBitsApart, AreCellsApart}
use Rattle.dsr_resolve.proofs.Descent.{descended_end}
use Rattle.std.proofs.lemmas.Bool.{cases_eq}
use Rattle.dsr_meaning.proofs.Options.{some_and, some_of}

pub turned : (c d : Cell) → AreCellsApart c d → AreCellsApart d c
turned c d (inl before) = inr before
turned c d (inr behind) = inl behind

-- cells in ranges that are apart
inside : (a m b n : ℕ) (c d : Cell) → AreBitsApart a m b n → a ≤ c.bit → c.bit + c.width ≤ a + m → b ≤ d.bit → d.bit + d.width ≤ b + n → AreCellsApart c d
inside a m b n c d (inl before) from to low high = inl (omega (arith, before, to, low))
inside a m b n c d (inr behind) from to low high = inr (omega (arith, behind, from, high))

-- cells in two slots
pub lying_apart : (layout : Layout) → IsLegalLayout layout → (e f : Element) (c d : Cell) → (e ≡ f → ⊥) → LiesInSlot layout e c → LiesInSlot layout f d → AreCellsApart c d
lying_apart layout legal e f c d other one two =
    let m = one.numbers in
    let n = two.numbers in
    let pool = legal_pool layout e.pool m legal one.numbers_are in
    let its = legal_pool layout f.pool n legal two.numbers_are in
    elim (cases_eq e.pool f.pool) as (λ _. AreCellsApart c d) [
      | inl same ↦
          let alike : n ≡ m = same_Some n m (sym two.numbers_are ∙ (ap (pool_numbers layout) (sym same) ∙ one.numbers_are)) in
          let slots : e.slot ≢ f.slot = λ slot. other (λ k. record { pool = same k; slot = slot k }) in
          let low : 8 * (m.start + f.slot * m.slot) ≤ d.bit = subst (λ q. 8 * (q.start + f.slot * q.slot) ≤ d.bit) alike two.from in
          let high : d.bit + d.width ≤ 8 * (m.start + f.slot * m.slot + m.slot) = subst (λ q. d.bit + d.width ≤ 8 * (q.start + f.slot * q.slot + q.slot)) alike two.to in
          inside (8 * (m.start + e.slot * m.slot) + 0) (8 * m.slot) (8 * (m.start + f.slot * m.slot) + 0) (8 * m.slot) c d
          (slots_apart m e.slot f.slot 0 (8 * m.slot) 0 (8 * m.slot) slots (omega arith) (omega arith))
          (omega (arith, one.from)) (omega (arith, one.to)) (omega (arith, low)) (omega (arith, high))
      | inr differ ↦
          inside (8 * (m.start + e.slot * m.slot) + 0) (8 * m.slot) (8 * (n.start + f.slot * n.slot) + 0) (8 * n.slot) c d
          (pools_apart m n e.slot f.slot 0 (8 * m.slot) 0 (8 * n.slot) (λ at. legal.apart e.pool f.pool at m n differ one.numbers_are two.numbers_are) one.below two.below
          (omega (arith, pool.slot_some)) (omega (arith, its.slot_some)) (omega arith) (omega arith))
          (omega (arith, one.from)) (omega (arith, one.to)) (omega (arith, two.from)) (omega (arith, two.to))
    ]

module _ (spec : Spec) (bytes : List ℕ) (layout : Layout) (is : IsLayoutOf spec bytes layout) (typed : IsTyped spec) (legal : IsLegalLayout layout) where
  -- the cell is one of the head's structure
  pub record LiesInHead (cell : Cell) : Type 0 where
    pub bits : ℕ
    pub sized : size_of (fixed_value spec.base bytes) spec.base.structures spec.base.head ≡ Some bits
    pub within : cell.bit + cell.width ≤ bits

  -- or one of the record's slot
  abbrev pub LiesIn : Element → Cell → Type 0
  LiesIn e cell = ((e ≡ head) × LiesInHead cell) ⊎ LiesInSlot layout e cell

  in_head : (e : Element) (place : FieldRef) (f : Field) (index : ℕ) (cell : Cell) → e.pool ≡ 0 → declared_field spec.base place ≡ Some f → Descends spec.base.structures spec.base.head place.structure → IsEntry layout e place index cell → LiesInHead cell
  in_head e place f index cell none declared line entry =
      let fixed = fixed_value spec.base bytes in
      let has = entry.entry in
      let width = width_bits has.place.width in
      let own = field_found spec.base place f declared in
      let part = some_of (size_of fixed spec.base.structures place.structure) (has_size spec bytes is.accepted place.structure own.structure own.structure_is) in
      let top = some_and (slice_get spec.base.structures spec.base.head) _ typed.base.head in
      let whole = some_of (size_of fixed spec.base.structures spec.base.head) (has_size spec bytes is.accepted spec.base.head top.0 top.1.0) in
      let part_within : part.0 ≤ whole.0 = descended_end fixed spec.base.structures (λ j s found. (typed.base.structures j s found).parent_before) spec.base.head place.structure whole.0 part.0 line (sized_end fixed spec.base.structures spec.base.head whole.0 whole.1) (sized_end fixed spec.base.structures place.structure part.0 part.1) in
      let entry_in : has.place.bit + (index + 1) * width ≤ part.0 = field_within spec.base bytes layout is.numbers place has.place index part.0 has.place_is has.index_below part.1 in
      let at = entry_cell layout e place index has.place cell has.place_is entry.cell_is in
      let start : record_start layout e ≡ 0 = ap (λ p. option_map_or (λ (n : PoolNumbers). n.start + e.slot * n.slot) (pool_numbers layout p) 0) none in
      let ended : index * width + width ≡ (index + 1) * width = omega arith in
      record { bits = whole.0; sized = whole.1; within = omega (arith, at.0, at.1, start, ended, part_within, entry_in) }

  -- an entry of a record, of which the head has those of its structure alone
  pub entry_lies : (e : Element) (place : FieldRef) (f : Field) (index : ℕ) (cell : Cell) → (e.pool ≡ 0 → e ≡ head) → declared_field spec.base place ≡ Some f → (e.pool ≡ 0 → Descends spec.base.structures spec.base.head place.structure) → IsEntry layout e place index cell → LiesIn e cell
  entry_lies e place f index cell only declared line entry = elim (cases_eq e.pool 0) as (λ _. LiesIn e cell) [
    | inl none ↦ inl (only none, in_head e place f index cell none declared (line none) entry)
    | inr some ↦ inr (entry_in_slot layout e place index cell some entry)
  ]

  pub beside_slot : (e f : Element) (c d : Cell) → (e ≡ f → ⊥) → LiesIn e c → LiesInSlot layout f d → AreCellsApart c d
  beside_slot e f c d other (inl top) slot = slot_apart spec bytes layout is legal top.1.bits top.1.sized c d f top.1.within slot
  beside_slot e f c d other (inr one) slot = lying_apart layout legal e f c d other one slot

  pub records_apart : (e f : Element) (c d : Cell) → (e ≡ f → ⊥) → LiesIn e c → LiesIn f d → AreCellsApart c d
  records_apart e f c d other one (inr slot) = beside_slot e f c d other one slot
  records_apart e f c d other (inr slot) (inl top) = turned d c (beside_slot f e d c (λ same. other (sym same)) (inl top) slot)
  records_apart e f c d other (inl top) (inl its) = absurd (other (top.0 ∙ sym its.0))

-- entries of one field
pub entries_apart : (layout : Layout) (e : Element) (field : FieldRef) (i j : ℕ) (c d : Cell) → (i ≡ j → ⊥) → IsEntry layout e field i c → IsEntry layout e field j d → AreCellsApart c d
entries_apart layout e field i j c d other one two =
    let place = one.entry.place in
    let a = entry_cell layout e field i place c one.entry.place_is one.cell_is in
    let b = entry_cell layout e field j place d one.entry.place_is two.cell_is in
    let w = width_bits place.width in
    elim (less_or i j other) as (λ _. AreCellsApart c d) [
      | inl lt ↦ let row = row_step i j w lt in inl (omega (arith, a.0, a.1, b.0, row))
      | inr lt ↦ let row = row_step j i w lt in inr (omega (arith, a.0, b.0, b.1, row))
    ] where
      less_or : (m n : ℕ) → (m ≡ n → ⊥) → (m < n) ⊎ (n < m)
      less_or m n differ = elim (cases_lt m n) as (λ _. (m < n) ⊎ (n < m)) [ inl lt ↦ inl lt | inr le ↦ inr (let ne : m ≢ n = differ in omega (arith, le, ne)) ]
