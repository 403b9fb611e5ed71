-- After the reset of a record each entry of its pool's fields has the field's reset value.
use Rattle.std.proofs.Common.{◌≡◌, ◌+◌, ◌⊎◌, ◌∙◌, ℕ, List, [], ◌∷◌, Some, inl, inr, refl, sym, ap, subst, arith}
use Rattle.std.specs.List.{flat_map}
use Rattle.std.specs.Option.{option_map_or}
use Rattle.std.proofs.lemmas.Option.{same_Some}
use Rattle.dsr_layout_laws.proofs.Fields.{in_other_fields}
use Rattle.dsr_layout_laws.specs.Entries.{IsEntry}
use Rattle.dsr_ir.specs.Layouts.{field_place}
use Rattle.dsr_ir.specs.declared.declarations.Field.{Field}
use Rattle.dsr_ir.specs.declared.declarations.FieldRef.{FieldRef}
use Rattle.dsr_ir.specs.declared.declarations.Pool.{Pool}
use Rattle.dsr_ir.specs.declared.declarations.Spec.{Spec}
use Rattle.dsr_ir.specs.declared.layouts.Cell.{Cell}
use Rattle.dsr_ir.specs.declared.layouts.Layout.{Layout}
use Rattle.dsr_ir.specs.declared.tuples.Element.{Element}
use Rattle.dsr_layout.proofs.Fitting.{field_found}
use Rattle.dsr_meaning.specs.Cells.{IsFieldCell, cell_of, cell_value}
use Rattle.dsr_meaning.specs.Instances.{declared_field}
use Rattle.dsr_meaning.specs.Legal.{entry_count}
use Rattle.dsr_meaning.specs.Lists.{each_at}
use Rattle.dsr_meaning.specs.Typed.{Descends, ancestors, pool_at}
use Rattle.dsr_step_laws.proofs.Related.{in_line}
use Rattle.dsr_step_theory.specs.Puts.{ArePut}
use Rattle.dsr_step_theory.specs.Resets.{entry_puts, field_puts, record_puts, reset_number, reset_puts, slot_zeros, structure_puts}
use Rattle.dsr_update.proofs.RecordEntries.{has_entry}
use Rattle.dsr_update.specs.Claims.{CanReset, IsRecordField, IsRecordStructure}
use Rattle.std.proofs.lemmas.Bool.{cases_eq}
use Rattle.dsr_meaning.proofs.Options.{some_and}
use Rattle.dsr_effect_laws.proofs.Puts.{HasSome, IsInto, IsIntoOrBeside, at_has, entries_has, flat_has, gives, split}
use Rattle.dsr_repair_laws.proofs.EachPut.{AreEach, IsFieldPut, Put, record_each}
use Rattle.dsr_effect_laws.proofs.Slots.{entries_apart}

pub same_place : (a b : FieldRef) → (a ≡ b) ⊎ (a ≡ b → ⊥)
same_place a b = elim (cases_eq a.structure b.structure) as (λ _. (a ≡ b) ⊎ (a ≡ b → ⊥)) [
  | inr other ↦ inr (λ e. other (ap (λ (x : FieldRef). x.structure) e))
  | inl one ↦ elim (cases_eq a.field b.field) as (λ _. (a ≡ b) ⊎ (a ≡ b → ⊥)) [
    | inr other ↦ inr (λ e. other (ap (λ (x : FieldRef). x.field) e))
    | inl two ↦ inl (λ k. record { structure = one k; field = two k })
  ]
]

-- the entry of a field of the record's pool
module _ (spec : Spec) (layout : Layout) (e : Element) (bytes : ℕ) (can : CanReset spec layout e bytes)
    (place : FieldRef) (f : Field) (of : IsRecordField spec e place f) (index : ℕ) (cell : Cell) (entry : IsEntry layout e place index cell) (value : ℕ) (value_is : reset_number layout f.kind ≡ Some value) where
  abbrev Fits : Put → Type 0
  Fits = IsIntoOrBeside cell value

  -- of two fields of the record's structures one is the other's, or stands in its line
  lines : (a b : FieldRef) → IsRecordStructure spec e a.structure → IsRecordStructure spec e b.structure → Descends spec.base.structures a.structure b.structure ⊎ Descends spec.base.structures b.structure a.structure
  lines a b one two =
      let p = some_and (pool_at spec.base e.pool) (λ d. Descends spec.base.structures d.structure a.structure) one in
      let q = some_and (pool_at spec.base e.pool) (λ d. Descends spec.base.structures d.structure b.structure) two in
      let same : q.0 ≡ p.0 = same_Some q.0 p.0 (sym q.1.0 ∙ p.1.0) in
      in_line spec.base can.typed.base (p.0.structure + 1) p.0.structure (omega arith) a.structure b.structure p.1.1 (subst (λ (d : Pool). Descends spec.base.structures d.structure b.structure) same q.1.1)

  -- another entry is put beside it, and it itself gets the value
  entry_fits : (at : FieldRef) (g : Field) → IsRecordField spec e at g → (n : ℕ) → reset_number layout g.kind ≡ Some n → (i : ℕ) (d : Cell) → IsEntry layout e at i d → Fits (d, n)
  entry_fits at g its n is i d entry_is = elim (same_place at place) as (λ _. Fits (d, n)) [
    | inr other ↦ inr (in_other_fields spec.base can.image layout can.typed.base can.layout_is.numbers e place at index i cell d (λ same. other (sym same)) (lines place at of.structure its.structure) entry entry_is)
    | inl same ↦ elim (cases_eq i index) as (λ _. Fits (d, n)) [
      | inr beside ↦ inr (entries_apart layout e place index i cell d (λ q. beside (sym q)) entry (subst (λ p. IsEntry layout e p i d) same entry_is))
      | inl at_index ↦
          let cells : Some d ≡ Some cell = sym entry_is.cell_is ∙ (ap (λ p. cell_of layout e p i) same ∙ (ap (cell_of layout e place) at_index ∙ entry.cell_is)) in
          let fields : g ≡ f = same_Some g f (sym its.declared ∙ (ap (declared_field spec.base) same ∙ of.declared)) in
          let values : Some n ≡ Some value = sym is ∙ (ap (λ (x : Field). reset_number layout x.kind) fields ∙ value_is) in
          inl (same_Some d cell cells, same_Some n value values)
    ]
  ]

  put_fits : (d : Cell) (n : ℕ) → IsFieldPut spec layout e d n → Fits (d, n)
  put_fits d n is =
      entry_fits is.place is.field is.of_record n is.value_is is.index d
      (record { entry = has_entry spec layout e bytes can is.place is.field is.of_record is.at is.at_is is.index is.below; cell_is = is.cell_is })

  record_fits : AreEach Fits (record_puts spec.base layout e)
  record_fits = record_each Fits spec layout e put_fits

  -- and it is among them
  abbrev Into : Put → Type 0
  Into = IsInto cell value

  field_has : HasSome Into (field_puts layout e place f)
  field_has =
      let p = entry.entry.place in
      subst (λ o. HasSome Into (option_map_or (entry_puts layout e place (option_map_or entry_count (field_place layout place) 0)) o [])) (sym value_is)
      (subst (λ o. HasSome Into (entry_puts layout e place (option_map_or entry_count o 0) value)) (sym entry.entry.place_is)
      (entries_has Into layout e place value 0 (entry_count p) index cell (omega arith) (omega (arith, entry.entry.index_below)) entry.cell_is (refl, refl)))

  structure_has : HasSome Into (structure_puts spec.base layout e place.structure)
  structure_has =
      let own = field_found spec.base place f of.declared in
      subst (λ o. HasSome Into (option_map_or (λ s. each_at (λ k field. field_puts layout e (record { structure = place.structure; field = k }) field) 0 s.fields) o [])) (sym own.structure_is)
      (at_has Into (λ k field. field_puts layout e (record { structure = place.structure; field = k }) field) 0 own.structure.fields place.field place.field f (omega arith) own.field_is field_has)

  record_has : HasSome Into (record_puts spec.base layout e)
  record_has =
      let p = some_and (pool_at spec.base e.pool) (λ d. Descends spec.base.structures d.structure place.structure) of.structure in
      subst (λ o. HasSome Into (option_map_or (λ d. flat_map (structure_puts spec.base layout e) (d.structure ∷ ancestors spec.base.structures d.structure)) o [])) (sym p.1.0)
      (flat_has Into (structure_puts spec.base layout e) (p.0.structure ∷ ancestors spec.base.structures p.0.structure) place.structure p.1.1 structure_has)

  pub reset_to : IsFieldCell cell → (old new : List ℕ) → ArePut (reset_puts spec.base layout e) old new → cell_value new cell ≡ value
  reset_to form old new are =
      let rest = split (slot_zeros layout e) (record_puts spec.base layout e) old new are in
      gives cell form value (record_puts spec.base layout e) rest.0 new record_fits record_has rest.2
