-- A slot of a pool is an index of a span that counts the pool's slots.
use Rattle.std.proofs.Common.{Bool, IsSome, List, None, Option, Some, ap, arith, false, if◌then◌else◌, length, nat_eq, slice_get, subst, sym, true, unwrap_or, ℕ, ◌-◌, ◌<◌, ◌∙◌, ◌≡◌}
use Rattle.std.specs.Prelude.{MatchBool, option_map}
use Rattle.std.specs.Option.{option_and_then, option_map_or}
use Rattle.std.proofs.lemmas.Bool.{ne_eqb}
use Rattle.dsr_ir.specs.Layouts.{pool_numbers}
use Rattle.dsr_ir.specs.declared.declarations.Field.{Field}
use Rattle.dsr_ir.specs.declared.declarations.Pool.{Pool}
use Rattle.dsr_ir.specs.declared.declarations.Structures.{Structures}
use Rattle.dsr_ir.specs.declared.layouts.FieldPlace.{FieldPlace}
use Rattle.dsr_ir.specs.declared.layouts.Layout.{Layout}
use Rattle.dsr_ir.specs.declared.layouts.PoolNumbers.{PoolNumbers}
use Rattle.dsr_ir.specs.declared.rules.Span.{Span}
use Rattle.dsr_ir.specs.declared.rules.Span.TheVariants.{Single, Array, Slots}
use Rattle.dsr_layout.proofs.Collecting.{collected_item}
use Rattle.dsr_layout.proofs.Fitting.{pool_found}
use Rattle.dsr_layout.proofs.LegalLayout.{as_many, built}
use Rattle.dsr_layout.proofs.LegalPools.{counted}
use Rattle.dsr_layout.proofs.SameCounts.{as_long, counts_slots, numbers_count, records_of}
use Rattle.dsr_meaning.specs.Expressions.{value_of}
use Rattle.dsr_meaning.specs.FixedFields.{fixed_value}
use Rattle.dsr_meaning.specs.Instances.{declared_field, index_count, record_count}
use Rattle.dsr_meaning.specs.Layouts.{layout_of, pool_of, slot_bytes}
use Rattle.dsr_meaning.specs.Places.{size_of}
use Rattle.dsr_meaning.specs.Typed.{CountsSlots, IsPoolNumber, IsTypedSpan, RunsOver, pool_at}
use Rattle.dsr_meaning.proofs.Items.{item_there}
use Rattle.dsr_resolve.proofs.PlacesOfFields.{place_of}
use Rattle.dsr_meaning.proofs.Options.{chained_from}
use Rattle.dsr_ir.specs.Exprs.{ExprShape}

-- an index runs over arrays alone
pub indexed_some : (base : Structures) (span : Span) (indexed : Bool) (len : Option ExprShape) → MatchBool indexed (RunsOver base span len) (len ≡ None) → MatchBool indexed (IsSome len) (len ≡ None)
indexed_some base span false len of = of
indexed_some base (Array place) true len of = of.0
indexed_some base Single true len of = absurd of
indexed_some base (Slots pool) true len of = absurd of

module _ (base : Structures) (bytes : List ℕ) (layout : Layout) (is : layout_of base bytes ≡ Some layout) where
  abbrev fixed : ℕ → Option ℕ
  fixed = fixed_value base bytes

  abbrev size : ℕ → Option ℕ
  size = size_of fixed base.structures

  count_is : (pool : ℕ) (d : Pool) (n : PoolNumbers) → pool_at base pool ≡ Some d → pool_numbers layout pool ≡ Some n → value_of fixed d.count ≡ Some n.count
  count_is pool d n declared numbers =
      let at = counted layout pool n numbers in
      let of = collected_item (λ _ q. pool_of fixed size q) 1 base.pools layout.pools (built fixed base (length bytes) layout is).pools_are (pool - 1) pool n at.0 at.1 in
      let both : Some of.item ≡ Some d = sym of.item_is ∙ pool_found base pool d declared in
      let same : of.item ≡ d = cc in
      let q = of.item in
      let known = numbers_count (value_of fixed q.count) (slot_bytes fixed size q.structure q.slot) (value_of fixed q.start) (value_of fixed q.code) (value_of fixed q.step) (value_of fixed q.none) n of.has in
      subst (λ x. value_of fixed x.count ≡ Some n.count) same known

  -- a declared pool, with its numbers
  record IsDeclared (pool : ℕ) : Type 0 where
    decl : Pool
    decl_is : pool_at base pool ≡ Some decl
    numbers : PoolNumbers
    numbers_are : pool_numbers layout pool ≡ Some numbers

  declared_pool : (pool : ℕ) → IsPoolNumber base pool → IsDeclared pool
  declared_pool pool number =
      let other : nat_eq pool 0 ≡ false = ne_eqb pool 0 (λ e. omega (arith, e, number.from)) in
      let many = as_many fixed size base.pools layout.pools (built fixed base (length bytes) layout is).pools_are in
      let decl = item_there base.pools (pool - 1) (omega (arith, number.from, number.to)) in
      let numbers = item_there layout.pools (pool - 1) (omega (arith, many, number.from, number.to)) in
      record {
        decl = decl.0;
        decl_is = ap (λ b. if b then None else slice_get base.pools (pool - 1)) other ∙ decl.1;
        numbers = numbers.0;
        numbers_are = ap (λ b. if b then None else slice_get layout.pools (pool - 1)) other ∙ numbers.1;
      }

  pub counts_index : (premise : Option ℕ) (span : Span) (pool index : ℕ) → IsTypedSpan base premise span → CountsSlots base span pool → index < record_count layout pool → index < index_count layout span
  counts_index premise Single pool index span_typed counts below =
      let of = declared_pool pool counts.declared in
      let no : None ≡ Some of.decl.count = counts.same_length ∙ ap (option_map (λ (d : Pool). d.count)) of.decl_is in
      absurd cc
  counts_index premise (Slots other) pool index span_typed counts below =
      counts_slots base bytes layout is (Slots pool) other index (record { declared = span_typed.1; same_length = sym counts.same_length }) below
  counts_index premise (Array place) pool index span_typed counts below =
      let of = declared_pool pool counts.declared in
      let length : option_and_then (λ (f : Field). f.len) (declared_field base place) ≡ Some of.decl.count = counts.same_length ∙ ap (option_map (λ (d : Pool). d.count)) of.decl_is in
      let field = chained_from (λ (f : Field). f.len) (declared_field base place) of.decl.count length in
      let at = place_of base bytes layout is place field.0 field.1.0 in
      let many = as_long fixed field.0.len of.decl.count of.numbers.count at.place.length field.1.1 (count_is pool of.decl of.numbers of.decl_is of.numbers_are) at.entries in
      let inside : index < unwrap_or at.place.length 0 = subst (λ m. index < m) (records_of layout pool of.numbers of.numbers_are ∙ sym many) below in
      subst (λ o. index < option_map_or (λ (p : FieldPlace). unwrap_or p.length 0) o 0) (sym at.place_is) inside
