-- What the writes of a due step set, and the bytes that it changes, are such as a report may tell.
use Rattle.std.proofs.Common.{◌≡◌, ◌<◌, ◌≤◌, ◌+◌, ◌*◌, ◌^◌, ◌%◌, ◌∙◌, ℕ, suc, nat_eq, true, false, List, [], ◌∷◌, All, Option, None, Some, IfSome, IsSomeAnd, MatchBool, length, inl, inr, refl, sym, ap, subst, slice_get, arith}
use Rattle.std.specs.Option.{option_map_or}
use Rattle.std.specs.Prelude.{if◌then◌else◌}
use Rattle.std.proofs.Math.Pow.{pow_mono}
use Rattle.std.proofs.lemmas.List.Elements.{All-cons, All-nil}
use Rattle.std.proofs.lemmas.Nat.{mul-le}
use Rattle.std.proofs.lemmas.Option.{same_Some}
use Rattle.dsr_effect_laws.proofs.Bounds.{value_fits}
use Rattle.dsr_ir.specs.Layouts.{field_place}
use Rattle.dsr_ir.specs.declared.declarations.SetDecl.{SetDecl}
use Rattle.dsr_ir.specs.declared.declarations.Spec.{Spec}
use Rattle.dsr_ir.specs.declared.layouts.Cell.{Cell}
use Rattle.dsr_ir.specs.declared.layouts.Layout.{Layout}
use Rattle.dsr_ir.specs.declared.rules.Path.{Path}
use Rattle.dsr_ir.specs.declared.updates.Write.{Write}
use Rattle.dsr_repair_laws.proofs.EntryOnce.{is_formed}
use Rattle.dsr_layout.proofs.HeldCells.{entry_within}
use Rattle.dsr_meaning.proofs.Items.{item_at}
use Rattle.dsr_meaning.proofs.Options.{some_and}
use Rattle.dsr_meaning.specs.Cells.{IsByteWidth, IsFieldCell, cell_value, placed_cell, record_start, width_bits}
use Rattle.dsr_meaning.specs.Counting.{IsIn}
use Rattle.dsr_meaning.specs.Instances.{pool_of_premise}
use Rattle.dsr_meaning.specs.Legal.{IsLegalLayout}
use Rattle.dsr_meaning.specs.Typed.{Descends, premise_structure}
use Rattle.dsr_meaning.specs.Writes.{AreBytes}
use Rattle.dsr_repair_theory.specs.Entries.{AreSet, changes, changes_from, set_by}
use Rattle.dsr_repair_theory.specs.Entries.AreSet.{done as set_none, made as set_one, skipped as left_out}
use Rattle.dsr_repair_theory.specs.declared.entries.CellSet.{CellSet}
use Rattle.dsr_report_read.specs.Forms.{IsChange, IsOfPool, IsPoolField, IsRecord, IsSet}
use Rattle.dsr_report_read.specs.Forms.IsTop.{of_head, of_set}
use Rattle.dsr_resolve.proofs.PlacesOfFields.{mapped_before}
use Rattle.dsr_step_theory.specs.Puts.{ArePut}
use Rattle.dsr_step_theory.specs.Puts.ArePut.{done, put}
use Rattle.dsr_step_theory.specs.Steps.{CanWrite, written_cell, written_index, written_number}
use Rattle.dsr_step_theory.specs.declared.steps.Step.{Step}
use Rattle.dsr_report_laws.proofs.WrittenPaths.{IsOfRule, IsRulePath}
use Rattle.dsr_repair_laws.proofs.MakingSpans.{indexed_some}

-- ---- what is put are bytes

pub puts_bytes : (puts : List (Cell × ℕ)) (old new : List ℕ) → ArePut puts old new → AreBytes old → AreBytes new
puts_bytes [] old new done are = are
puts_bytes (p ∷ puts) old new (put {middle = m} cell value one rest) are = puts_bytes puts m new rest one.bytes

-- ---- widths

record IsNarrow (width : ℕ) : Type 0 where
  from : 1 ≤ width
  to : width ≤ 64

whole : (width : ℕ) → IsByteWidth width → IsNarrow width
whole width (inl e) = record { from = omega (arith, e); to = omega (arith, e) }
whole width (inr (inl e)) = record { from = omega (arith, e); to = omega (arith, e) }
whole width (inr (inr (inl e))) = record { from = omega (arith, e); to = omega (arith, e) }
whole width (inr (inr (inr e))) = record { from = omega (arith, e); to = omega (arith, e) }

narrow : (cell : Cell) → IsFieldCell cell → IsNarrow cell.width
narrow cell form =
    elim cell.bytewise as (λ b. MatchBool b (IsByteWidth cell.width × (cell.bit % 8 ≡ 0)) ((1 ≤ cell.width) × (cell.width ≤ 32)) → IsNarrow cell.width) [
      | true ↦ λ f. whole cell.width f.0
      | false ↦ λ f. let to = f.1 in record { from = f.0; to = omega (arith, to) }
    ] form

-- a number that fits such a width has at most 64 bits
fits_64 : (width n : ℕ) → IsNarrow width → n < 2 ^ width → n < 2 ^ 64
fits_64 width n small less = let wide : 2 ^ width ≤ 2 ^ 64 = pow_mono small.to in omega (arith, less, wide)

-- ---- fields of rules are those of the pool's records

rule_of_pool :
    (spec : Spec) (pool : ℕ) (premise : Option ℕ) (structure : ℕ) → IfSome premise (λ n. IsSomeAnd (slice_get spec.base.sets n) (λ s. s.except ≡ None)) → pool ≡ pool_of_premise spec.base premise
    → Descends spec.base.structures (premise_structure spec.base premise) structure → IsOfPool spec.base pool structure
rule_of_pool spec pool None structure known same line = record { top = spec.base.head; is_top = of_head same; descends = line }
rule_of_pool spec pool (Some n) structure known same line =
    let set = some_and (slice_get spec.base.sets n) (λ s. s.except ≡ None) known in
    let set_pool : set.0.pool ≡ pool = sym (same ∙ ap (λ o. option_map_or (λ (d : SetDecl). d.pool) o 0) set.1.0) in
    record {
      top = set.0.structure;
      is_top = of_set set.0 (item_at spec.base.sets n set.0 set.1.0) set_pool;
      descends = subst (λ o. Descends spec.base.structures (option_map_or (λ (s : SetDecl). s.structure) o spec.base.head) structure) set.1.0 line;
    }

path_of_pool : (spec : Spec) (pool : ℕ) (path : Path) (of : IsRulePath spec pool path) → IsPoolField spec.base pool path.field of.its.field
path_of_pool spec pool path of = record {
  declared = of.its.is_field.declared;
  named = of.its.is_field.named;
  of_pool = rule_of_pool spec pool of.rule.premise path.field.structure of.typed.premise of.pool_is of.its.is_field.of_record;
}

-- ---- sets

module _ (spec : Spec) (layout : Layout) (legal : IsLegalLayout layout) (step : Step) (elem : IsRecord spec step.elem) where
  index_small : (write : Write) (cell : Cell) → written_cell layout step write ≡ Some cell → CanWrite spec layout step write → IsNarrow cell.width → written_index step write < 2 ^ 64
  index_small write cell at can width =
      let from = mapped_before (placed_cell layout.order (record_start layout step.elem) (written_index step write)) (field_place layout write.path.field) cell at in
      let wide : cell.width ≡ width_bits from.0.width = sym (ap (λ (c : Cell). c.width) from.1.1) in
      let within = entry_within layout step.elem write.path.field (written_index step write) from.0 cell.width legal can.entry from.1.0 wide in
      let each : written_index step write * 1 ≤ written_index step write * cell.width = mul-le (written_index step write) 1 (written_index step write) cell.width (omega arith) width.from in
      let small = legal.small in
      omega (arith, within, each, small)

  -- one write sets what may be told
  set_told :
      (write : Write) (cell : Cell) (number : ℕ) (old : List ℕ) → written_cell layout step write ≡ Some cell
      → written_number spec layout step write ≡ Some number → AreBytes old → CanWrite spec layout step write → IsOfRule spec step write
      → IsSet spec (set_by step write cell number old)
  set_told write cell number old at picked are can of =
      let form = is_formed layout step.elem write.path.field (written_index step write) cell legal at in
      let width = narrow cell form in
      let fits : can.number < 2 ^ cell.width = subst (λ o. IsSomeAnd o (λ c. can.number < 2 ^ c.width)) at can.fits in
      let same : can.number ≡ number = same_Some can.number number (sym can.number_is ∙ picked) in
      record {
        elem = elem;
        field = of.its.field;
        is_field = path_of_pool spec step.elem.pool write.path of;
        indexed = indexed_some spec.base of.rule.span write.path.indexed of.its.field.len of.its.index;
        index = index_small write cell at can width;
        no_index = λ none. ap (λ b. if b then step.index else 0) none;
        old = fits_64 cell.width (cell_value old cell) width (value_fits old are cell form);
        new = fits_64 cell.width number width (subst (λ n. n < 2 ^ cell.width) same fits);
      }

  pub sets_told :
      (writes : List Write) (old new : List ℕ) (sets : List CellSet) → AreSet spec layout step writes old new sets → AreBytes old
      → ((write : Write) → IsIn write writes → CanWrite spec layout step write × IsOfRule spec step write) → All (IsSet spec) sets
  sets_told [] old new _ set_none are each = All-nil (IsSet spec)
  sets_told (w ∷ writes) old new sets (left_out write cell number at picked wanted rest) are each =
      sets_told writes old new sets rest are (λ other later. each other (inr later))
  sets_told (w ∷ writes) old new _ (set_one {middle = middle} {sets = sets} write cell number at picked unwanted one rest) are each =
      let its = each write (inl refl) in
      All-cons (IsSet spec) (set_by step write cell number old) sets (set_told write cell number old at picked are its.0 its.1)
      (sets_told writes middle new sets rest one.bytes (λ other later. each other (inr later)))

-- ---- bytes

changes_told :
    (place : ℕ) (old new : List ℕ) → AreBytes old → AreBytes new → place + length old < 2 ^ 64 → All IsChange (changes_from place old new)
changes_told place [] new are now few = All-nil IsChange
changes_told place (a ∷ old) [] are now few = All-nil IsChange
changes_told place (a ∷ old) (b ∷ new) are now few =
    let rest = changes_told (suc place) old new (λ at. are (suc at)) (λ at. now (suc at)) (omega (arith, few)) in
    elim (nat_eq a b) as (λ same. All IsChange (if same then changes_from (suc place) old new else record { place = place; old = a; new = b } ∷ changes_from (suc place) old new)) [
      | true ↦ rest
      | false ↦ All-cons IsChange _ (changes_from (suc place) old new) (record { place = omega (arith, few); old = are 0; new = now 0 }) rest
    ]

pub bytes_told : (old new : List ℕ) → AreBytes old → AreBytes new → length old ≤ 67108864 → All IsChange (changes old new)
bytes_told old new are now small = changes_told 0 old new are now (omega (arith, small))
