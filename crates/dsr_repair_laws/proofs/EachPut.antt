-- What is so of each value that a list puts into a cell, and which values the reset of a record puts where.
use Rattle.std.proofs.Common.{◌≡◌, ◌≤◌, ◌<◌, ◌+◌, ◌∙◌, ℕ, zero, suc, List, [], ◌∷◌, ◌++◌, Option, None, Some, inl, inr, refl, sym, ap, subst, arith}
use Rattle.std.specs.Prelude.{IsSomeAnd, option_and_then, option_map, slice_get}
use Rattle.std.specs.List.{cons_option, filter_map, flat_map, range_with_len}
use Rattle.std.specs.Option.{option_map_or}
use Rattle.dsr_ir.specs.Layouts.{field_place, pool_numbers}
use Rattle.dsr_ir.specs.declared.declarations.Field.{Field}
use Rattle.dsr_ir.specs.declared.declarations.FieldRef.{FieldRef}
use Rattle.dsr_ir.specs.declared.declarations.Pool.{Pool}
use Rattle.dsr_ir.specs.declared.declarations.Spec.{Spec}
use Rattle.dsr_ir.specs.declared.declarations.Structure.{Structure}
use Rattle.dsr_ir.specs.declared.layouts.Cell.{Cell}
use Rattle.dsr_ir.specs.declared.layouts.FieldPlace.{FieldPlace}
use Rattle.dsr_ir.specs.declared.layouts.Layout.{Layout}
use Rattle.dsr_ir.specs.declared.layouts.PoolNumbers.{PoolNumbers}
use Rattle.dsr_ir.specs.declared.tuples.Element.{Element}
use Rattle.dsr_meaning.proofs.Options.{and_some}
use Rattle.dsr_meaning.specs.Cells.{cell_of, record_start}
use Rattle.dsr_meaning.specs.Counting.{IsIn}
use Rattle.dsr_meaning.specs.Legal.{entry_count}
use Rattle.dsr_meaning.specs.Lists.{each_at}
use Rattle.dsr_meaning.specs.Typed.{Descends, ancestors, pool_at}
use Rattle.dsr_step_theory.specs.Resets.{byte_cell, entry_puts, field_puts, record_puts, reset_number, reset_puts, slot_zeros, structure_puts, zeros}
use Rattle.dsr_update.specs.Claims.{IsRecordField, IsRecordStructure}

abbrev pub Put : Type 0
Put = Cell × ℕ

-- each is of the kind
abbrev pub AreEach : (Put → Type 0) → List Put → Type 0
AreEach P [] = Unit {0}
AreEach P (p ∷ puts) = P p × AreEach P puts

-- the value goes into an entry of a field of the record, and is the one to which the field is reset
pub record IsFieldPut (spec : Spec) (layout : Layout) (e : Element) (cell : Cell) (value : ℕ) : Type 0 where
  pub place : FieldRef
  pub field : Field
  pub of_record : IsRecordField spec e place field
  pub value_is : reset_number layout field.kind ≡ Some value
  pub at : FieldPlace
  pub at_is : field_place layout place ≡ Some at
  pub index : ℕ
  pub below : index < entry_count at
  pub cell_is : cell_of layout e place index ≡ Some cell

module _ (P : Put → Type 0) where
  both_each : (xs ys : List Put) → AreEach P xs → AreEach P ys → AreEach P (xs ++ ys)
  both_each [] ys one two = two
  both_each (x ∷ xs) ys one two = (one.0, both_each xs ys one.1 two)

  at_each : {S : Type 0} (f : ℕ → S → List Put) (n : ℕ) (xs : List S) → ((k m : ℕ) (x : S) → m ≡ n + k → slice_get xs k ≡ Some x → AreEach P (f m x)) → AreEach P (each_at f n xs)
  at_each f n [] each = tt
  at_each f n (x ∷ xs) each =
      both_each (f n x) (each_at f (suc n) xs) (each 0 n x (omega arith) refl)
      (at_each f (suc n) xs (λ k m y at found. each (suc k) m y (omega (arith, at)) found))

  flat_each : {S : Type 0} (f : S → List Put) (xs : List S) → ((x : S) → IsIn x xs → AreEach P (f x)) → AreEach P (flat_map f xs)
  flat_each f [] each = tt
  flat_each f (x ∷ xs) each = both_each (f x) (flat_map f xs) (each x (inl refl)) (flat_each f xs (λ y later. each y (inr later)))

  pub zeros_each : (at count : ℕ) → ((byte : ℕ) → at ≤ byte → byte < at + count → P (byte_cell byte, 0)) → AreEach P (zeros at count)
  zeros_each at zero each = tt
  zeros_each at (suc count) each = (each at (omega arith) (omega arith), zeros_each (at + 1) count (λ byte from before. each byte (omega (arith, from)) (omega (arith, before))))

  entries_each : (layout : Layout) (e : Element) (place : FieldRef) (value from count : ℕ) → ((i : ℕ) → i < from + count → (d : Cell) → cell_of layout e place i ≡ Some d → P (d, value)) → AreEach P (filter_map (λ i. option_map (λ d. (d, value)) (cell_of layout e place i)) (range_with_len from count))
  entries_each layout e place value from zero each = tt
  entries_each layout e place value from (suc count) each =
      let rest = entries_each layout e place value (from + 1) count (λ i below. each i (omega (arith, below))) in
      elim (cell_of layout e place from) as (λ o. cell_of layout e place from ≡ o → AreEach P (cons_option (option_map (λ d. (d, value)) o) (filter_map (λ i. option_map (λ d. (d, value)) (cell_of layout e place i)) (range_with_len (from + 1) count)))) [
        | None ↦ λ _. rest
        | Some d ↦ λ is. (each from (omega arith) d is, rest)
      ] refl

  -- ---- what the reset of a record puts

  module _ (spec : Spec) (layout : Layout) (e : Element) (each : (cell : Cell) (value : ℕ) → IsFieldPut spec layout e cell value → P (cell, value)) where
    field_each : (place : FieldRef) (f : Field) → IsRecordField spec e place f → AreEach P (field_puts layout e place f)
    field_each place f of = elim (reset_number layout f.kind) as (λ o. reset_number layout f.kind ≡ o → AreEach P (option_map_or (entry_puts layout e place (option_map_or entry_count (field_place layout place) 0)) o [])) [
      | None ↦ λ _. tt
      | Some value ↦ λ value_is. elim (field_place layout place) as (λ o. field_place layout place ≡ o → AreEach P (entry_puts layout e place (option_map_or entry_count o 0) value)) [
        | None ↦ λ _. tt
        | Some at ↦ λ found. entries_each layout e place value 0 (entry_count at) (λ i below d is.
            each d value (record { place = place; field = f; of_record = of; value_is = value_is; at = at; at_is = found; index = i; below = omega (arith, below); cell_is = is }))
      ] refl
    ] refl

    structure_each : (structure : ℕ) → IsRecordStructure spec e structure → AreEach P (structure_puts spec.base layout e structure)
    structure_each structure of = elim (slice_get spec.base.structures structure) as (λ o. slice_get spec.base.structures structure ≡ o → AreEach P (option_map_or (λ s. each_at (λ k field. field_puts layout e (record { structure = structure; field = k }) field) 0 s.fields) o [])) [
      | None ↦ λ _. tt
      | Some s ↦ λ is. at_each (λ k field. field_puts layout e (record { structure = structure; field = k }) field) 0 s.fields (λ k m f at found.
          let same : k ≡ m = omega (arith, at) in
          field_each (record { structure = structure; field = m }) f (record {
            structure = of;
            declared = ap (option_and_then (λ (t : Structure). slice_get t.fields m)) is ∙ subst (λ j. slice_get s.fields j ≡ Some f) same found;
          }))
    ] refl

    pub record_each : AreEach P (record_puts spec.base layout e)
    record_each = elim (pool_at spec.base e.pool) as (λ o. pool_at spec.base e.pool ≡ o → AreEach P (option_map_or (λ d. flat_map (structure_puts spec.base layout e) (d.structure ∷ ancestors spec.base.structures d.structure)) o [])) [
      | None ↦ λ _. tt
      | Some d ↦ λ is. flat_each (structure_puts spec.base layout e) (d.structure ∷ ancestors spec.base.structures d.structure) (λ structure line.
          structure_each structure (and_some (pool_at spec.base e.pool) (λ (p : Pool). Descends spec.base.structures p.structure structure) d is line))
    ] refl

    -- in the slot's bytes it puts 0 before
    module _ (zero_each : (n : PoolNumbers) → pool_numbers layout e.pool ≡ Some n → (byte : ℕ) → record_start layout e ≤ byte → byte < record_start layout e + n.slot → P (byte_cell byte, 0)) where
      pub slot_each : AreEach P (slot_zeros layout e)
      slot_each = elim (pool_numbers layout e.pool) as (λ o. pool_numbers layout e.pool ≡ o → AreEach P (option_map_or (λ n. zeros (record_start layout e) n.slot) o [])) [
        | None ↦ λ _. tt
        | Some n ↦ λ is. zeros_each (record_start layout e) n.slot (zero_each n is)
      ] refl

      pub reset_each : AreEach P (reset_puts spec.base layout e)
      reset_each = both_each (slot_zeros layout e) (record_puts spec.base layout e) slot_each record_each
