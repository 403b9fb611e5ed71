-- What is left to be put in each loop of a reset, one step on and at the end.
use Rattle.std.proofs.Common.{◌≡◌, ◌<◌, ◌≤◌, ◌+◌, ◌-◌, ◌∙◌, ℕ, suc, List, [], ◌∷◌, ◌++◌, length, drop, get_or, Option, None, Some, refl, sym, ap, arith}
use Rattle.std.specs.List.{cons_option, filter_map, flat_map, range_with_len}
use Rattle.std.specs.Option.{option_map, option_map_or}
use Rattle.std.specs.Prelude.{slice_get}
use Rattle.std.proofs.Math.Seq.{drop-cons}
use Rattle.std.proofs.lemmas.List.{drop_all}
use Rattle.dsr_schema.proofs.Descending.{line}
use Rattle.dsr_ir.specs.Layouts.{field_place}
use Rattle.dsr_ir.specs.declared.declarations.Field.{Field}
use Rattle.dsr_ir.specs.declared.declarations.FieldRef.{FieldRef}
use Rattle.dsr_ir.specs.declared.declarations.Pool.{Pool}
use Rattle.dsr_ir.specs.declared.declarations.Structure.{Structure}
use Rattle.dsr_ir.specs.declared.declarations.Structures.{Structures}
use Rattle.dsr_ir.specs.declared.layouts.Cell.{Cell}
use Rattle.dsr_ir.specs.declared.layouts.FieldPlace.{FieldPlace}
use Rattle.dsr_ir.specs.declared.layouts.Layout.{Layout}
use Rattle.dsr_ir.specs.declared.tuples.Element.{Element}
use Rattle.dsr_meaning.specs.Cells.{cell_of}
use Rattle.dsr_meaning.specs.Legal.{entry_count}
use Rattle.dsr_meaning.specs.Lists.{each_at}
use Rattle.dsr_meaning.specs.Typed.{ancestors, pool_at}
use Rattle.dsr_step_theory.specs.Resets.{byte_cell, entry_puts, field_puts, reset_number, reset_puts, slot_zeros, structure_puts, zeros}

-- ---- bytes

pub zeros_begin : (at count : ℕ) → zeros at (at + count - at) ≡ zeros at count
zeros_begin at count = ap (zeros at) (omega arith)

pub zeros_next : (at end : ℕ) → at < end → zeros at (end - at) ≡ (byte_cell at, 0) ∷ zeros (at + 1) (end - (at + 1))
zeros_next at end below = let more : end - at ≡ suc (end - (at + 1)) = omega (arith, below) in ap (zeros at) more

pub zeros_end : (at end : ℕ) → end ≤ at → zeros at (end - at) ≡ []
zeros_end at end past = let none : end - at ≡ 0 = omega (arith, past) in ap (zeros at) none

-- ---- entries

-- so many entries from one on get the value
abbrev pub entries_from : Layout → Element → FieldRef → ℕ → ℕ → ℕ → List (Cell × ℕ)
entries_from layout e place value from count =
    filter_map (λ i. option_map (λ cell. (cell, value)) (cell_of layout e place i)) (range_with_len from count)

pub entries_begin : (layout : Layout) (e : Element) (place : FieldRef) (value count : ℕ) → entries_from layout e place value 0 (count - 0) ≡ entries_from layout e place value 0 count
entries_begin layout e place value count = ap (entries_from layout e place value 0) (omega arith)

pub entries_next : (layout : Layout) (e : Element) (place : FieldRef) (value from count : ℕ) (cell : Cell) → from < count → cell_of layout e place from ≡ Some cell → entries_from layout e place value from (count - from) ≡ (cell, value) ∷ entries_from layout e place value (from + 1) (count - (from + 1))
entries_next layout e place value from count cell below is =
    let more : count - from ≡ suc (count - (from + 1)) = omega (arith, below) in
    ap (entries_from layout e place value from) more
    ∙ ap (λ o. cons_option (option_map (λ c. (c, value)) o) (entries_from layout e place value (from + 1) (count - (from + 1)))) is

pub entries_end : (layout : Layout) (e : Element) (place : FieldRef) (value from count : ℕ) → count ≤ from → entries_from layout e place value from (count - from) ≡ []
entries_end layout e place value from count past = let none : count - from ≡ 0 = omega (arith, past) in ap (entries_from layout e place value from) none

-- ---- a field

module _ (layout : Layout) (e : Element) (place : FieldRef) (field : Field) where
  pub none_without_number : reset_number layout field.kind ≡ None → [] ≡ field_puts layout e place field
  none_without_number none = sym (ap (λ o. option_map_or (entry_puts layout e place (option_map_or entry_count (field_place layout place) 0)) o []) none)

  pub none_without_place : (value : ℕ) → reset_number layout field.kind ≡ Some value → field_place layout place ≡ None → [] ≡ field_puts layout e place field
  none_without_place value is none = sym (
      ap (λ o. option_map_or (entry_puts layout e place (option_map_or entry_count (field_place layout place) 0)) o []) is
      ∙ ap (λ o. entry_puts layout e place (option_map_or entry_count o 0) value) none)

  pub puts_of_field : (value count : ℕ) (at : FieldPlace) → reset_number layout field.kind ≡ Some value → field_place layout place ≡ Some at → count ≡ entry_count at → entry_puts layout e place count value ≡ field_puts layout e place field
  puts_of_field value count at is found counted =
      ap (λ n. entry_puts layout e place n value) counted
      ∙ sym (
      ap (λ o. option_map_or (entry_puts layout e place (option_map_or entry_count (field_place layout place) 0)) o []) is
      ∙ ap (λ o. entry_puts layout e place (option_map_or entry_count o 0) value) found)

-- ---- a structure, and the line of a record's structures

module _ (base : Structures) (layout : Layout) (e : Element) where
  pub none_without_structure : (number : ℕ) → slice_get base.structures number ≡ None → [] ≡ structure_puts base layout e number
  none_without_structure number none = sym (ap (λ o. option_map_or (λ s. each_at (λ k field. field_puts layout e (record { structure = number; field = k }) field) 0 s.fields) o []) none)

  pub puts_of_structure : (number : ℕ) (s : Structure) (fields : List Field) → slice_get base.structures number ≡ Some s → fields ≡ s.fields → each_at (λ k field. field_puts layout e (record { structure = number; field = k }) field) 0 fields ≡ structure_puts base layout e number
  puts_of_structure number s fields is same =
      ap (each_at (λ k field. field_puts layout e (record { structure = number; field = k }) field) 0) same
      ∙ sym (ap (λ o. option_map_or (λ s. each_at (λ k field. field_puts layout e (record { structure = number; field = k }) field) 0 s.fields) o []) is)

  -- what is left of the line
  abbrev pub line_puts : Option ℕ → List (Cell × ℕ)
  line_puts next = flat_map (structure_puts base layout e) (line base.structures next)

  pub line_begins : (next : Option ℕ) → next ≡ option_map (λ d. d.structure) (pool_at base e.pool) → reset_puts base layout e ≡ slot_zeros layout e ++ line_puts next
  line_begins next is = ap (λ r. slot_zeros layout e ++ r) (sym (ap line_puts is ∙ of_pool (pool_at base e.pool)))
    where
      of_pool : (o : Option Pool) → line_puts (option_map (λ d. d.structure) o) ≡ option_map_or (λ d. flat_map (structure_puts base layout e) (d.structure ∷ ancestors base.structures d.structure)) o []
      of_pool None = refl
      of_pool (Some d) = refl

  pub line_next : (now next : Option ℕ) (i : ℕ) → now ≡ Some i → ancestors base.structures i ≡ line base.structures next → line_puts now ≡ structure_puts base layout e i ++ line_puts next
  line_next now next i is on = ap line_puts is ∙ ap (λ ns. structure_puts base layout e i ++ flat_map (structure_puts base layout e) ns) on

  pub line_end : (now : Option ℕ) → now ≡ None → line_puts now ≡ []
  line_end now none = ap line_puts none

-- ---- items of a list

module _ {S T : Type 0} (f : ℕ → S → List T) where
  pub items_next : (xs : List S) (i : ℕ) (x : S) → i < length xs → x ≡ get_or xs i x → each_at f i (drop i xs) ≡ f i x ++ each_at f (i + 1) (drop (i + 1) xs)
  items_next xs i x below is =
      ap (each_at f i) (drop-cons xs i x below)
      ∙ ap (λ y. f i y ++ each_at f (suc i) (drop (suc i) xs)) (sym is)
      ∙ (let next : suc i ≡ i + 1 = omega arith in ap (λ k. f i x ++ each_at f k (drop k xs)) next)

  pub items_end : (xs : List S) (i : ℕ) → length xs ≤ i → each_at f i (drop i xs) ≡ []
  items_end xs i past = ap (each_at f i) (drop_all i xs past)
