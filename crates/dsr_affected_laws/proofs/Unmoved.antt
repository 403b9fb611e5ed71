-- A rule that reads none of the fields, nor what may share bytes with them, reads the same.
use Rattle.std.proofs.Common.{◌≡◌, ◌≤◌, ◌<◌, ◌+◌, ◌-◌, ◌∙◌, ℕ, Bool, true, false, not, nat_eq, List, [], ◌∷◌, Option, None, Some, IsSome, IsSomeAnd, IfSome, slice_get, inl, inr, refl, sym, ap, subst, arith}
use Rattle.std.specs.Option.{option_map_or}
use Rattle.std.proofs.lemmas.Option.{none-some}
use Rattle.std.specs.Prelude.{IsTrue, option_map, ◌&&◌, ◌||◌, if◌then◌else◌}
use Rattle.std.proofs.lemmas.Bool.{eq-eqb, false≢true}
use Rattle.dsr_affected_laws.specs.Affected.{reads_any}
use Rattle.dsr_affected_laws.specs.Differing.{AreAlikeBut, HasFieldsOf, IsBitAt, IsCellAt}
use Rattle.dsr_layout_laws.proofs.Fields.{in_other_fields}
use Rattle.dsr_layout_laws.specs.Entries.{IsEntry}
use Rattle.dsr_ir.specs.declared.declarations.FieldRef.{FieldRef}
use Rattle.dsr_ir.specs.declared.declarations.Pool.{Pool}
use Rattle.dsr_ir.specs.declared.declarations.SetDecl.{SetDecl}
use Rattle.dsr_ir.specs.declared.declarations.Spec.{Spec}
use Rattle.dsr_ir.specs.declared.layouts.Cell.{Cell}
use Rattle.dsr_ir.specs.declared.layouts.Layout.{Layout}
use Rattle.dsr_ir.specs.declared.rules.Path.{Path}
use Rattle.dsr_ir.specs.declared.rules.Rule.{Rule}
use Rattle.dsr_ir.specs.declared.tuples.Element.{Element}
use Rattle.dsr_ir.specs.declared.tuples.Instance.{Instance}
use Rattle.dsr_effect_laws.proofs.Slots.{LiesIn, entry_lies, records_apart}
use Rattle.dsr_effect_laws.proofs.Writes.{entry_form}
use Rattle.dsr_meaning.proofs.Values.{cell_stays}
use Rattle.dsr_meaning.specs.Cells.{IsFieldCell, bit_of, cell_value, placed_cell, record_start, value_at}
use Rattle.dsr_meaning.specs.Counting.{IsIn}
use Rattle.dsr_meaning.specs.Instances.{IsInstance, declared_field, pool_of_premise, premise_pool, record_count}
use Rattle.dsr_meaning.specs.Legal.{IsLegalLayout}
use Rattle.dsr_meaning.specs.Lists.{any_of}
use Rattle.dsr_meaning.specs.Refusals.{IsLayoutOf}
use Rattle.dsr_meaning.specs.Truth.{head}
use Rattle.dsr_meaning.specs.Typed.{Descends, IsTyped, IsTypedPath, IsTypedRule, pool_at, premise_structure}
use Rattle.dsr_meaning.specs.Writes.{AreCellsApart, HasSameBits}
use Rattle.dsr_effect_laws.proofs.RulePaths.{path_typed}
use Rattle.dsr_affected_laws.proofs.Records.{of_set}
use Rattle.dsr_leaf_laws.specs.Leaves.{are_of_one_pool, may_change}
use Rattle.dsr_resolve.proofs.AcceptedLayouts.{legal_of}
use Rattle.dsr_resolve.proofs.Entries.{path_has_entry}
use Rattle.dsr_meaning.proofs.Items.{item_at, none_of, of_all}
use Rattle.dsr_meaning.proofs.Options.{some_and}
use Rattle.dsr_model_laws.proofs.Instances.{elements}
use Rattle.dsr_model_laws.proofs.Listed.{numbers}
use Rattle.dsr_effect_laws.specs.Leaving.{IsSameAt}
use Rattle.dsr_step_laws.proofs.Related.{in_line, lines_related, related_lines}
use Rattle.dsr_update_theory.specs.Changes.{are_related, paths_of}
use Rattle.dsr_update_theory.specs.Templates.{is_same_field}

-- ---- tests

neither : (a b : Bool) → (a || b) ≡ false → (a ≡ false) × (b ≡ false)
neither true b e = absurd (false≢true (sym e))
neither false b e = (refl, e)

itself : (f : FieldRef) → is_same_field f f ≡ true
itself f = subst (λ t. (t && nat_eq f.field f.field) ≡ true) (sym (eq-eqb f.structure f.structure refl)) (eq-eqb f.field f.field refl)

some_there : {X : Type 0} (o : Option X) → IsSome o → (x : X) × (o ≡ Some x)
some_there None h = absurd cc
some_there (Some x) h = (x, refl)

-- a field that may not change is another one; where its structure is unrelated, it is of no pool of the written one's
other_field : (a b : FieldRef) (rest : Bool) → (is_same_field a b || rest) ≡ false → b ≡ a → ⊥
other_field a b rest e same = false≢true (sym (neither (is_same_field a b) rest e).0 ∙ subst (λ f. is_same_field a f ≡ true) (sym same) (itself a))

not_both : (related of_one : Bool) → (not related && of_one) ≡ false → related ≡ false → of_one ≡ true → ⊥
not_both true of_one e apart one = absurd (false≢true (sym apart))
not_both false of_one e apart one = false≢true (sym e ∙ one)

-- ---- records

-- no pool has the number 0
no_pool : (spec : Spec) (e : Element) (P : Pool → Type 0) → e.pool ≡ 0 → IsSomeAnd (pool_at spec.base e.pool) P → ⊥
no_pool spec e P none h = subst (λ p. IsSomeAnd (pool_at spec.base p) P) none h

-- an item that passes makes the test of all pass
passes : {A : Type 0} (test : A → Bool) (xs : List A) (x : A) → IsIn x xs → test x ≡ true → any_of test xs ≡ true
passes test [] x among e = absurd among
passes test (y ∷ ys) x (inl same) e = ap (λ b. b || any_of test ys) (ap test (sym same) ∙ e)
passes test (y ∷ ys) x (inr later) e = with_rest (test y) (passes test ys x later e) where
  with_rest : (b : Bool) → any_of test ys ≡ true → (b || any_of test ys) ≡ true
  with_rest true h = refl
  with_rest false h = h

-- a pool stands among those that are declared
among_pools : (pools : List Pool) (p : ℕ) (d : Pool) → (if nat_eq p 0 then None else slice_get pools (p - 1)) ≡ Some d → IsIn d pools
among_pools pools p d e = elim (nat_eq p 0) as (λ b. (if b then None else slice_get pools (p - 1)) ≡ Some d → IsIn d pools) [
  | true ↦ λ h. absurd (none-some d h)
  | false ↦ λ h. item_at pools (p - 1) d h
] e

-- two structures whose fields a record has are related, or of its pool
share : (spec : Spec) → IsTyped spec → (e : Element) (a b : FieldRef) → HasFieldsOf spec.base e a.structure → HasFieldsOf spec.base e b.structure → are_related spec.base a.structure b.structure ≡ false → are_of_one_pool spec.base a b ≡ true
share spec typed e a b (inl one) (inl two) apart =
    let head = spec.base.head in
    absurd (false≢true (sym apart ∙ lines_related spec.base a.structure b.structure (in_line spec.base typed.base (head + 1) head (omega arith) a.structure b.structure one.1 two.1)))
share spec typed e a b (inl one) (inr two) apart = absurd (no_pool spec e (λ d. IsTrue (are_related spec.base d.structure b.structure)) (ap (λ (x : Element). x.pool) one.0) two)
share spec typed e a b (inr one) (inl two) apart = absurd (no_pool spec e (λ d. IsTrue (are_related spec.base d.structure a.structure)) (ap (λ (x : Element). x.pool) two.0) one)
share spec typed e a b (inr one) (inr two) apart =
    let d = some_and (pool_at spec.base e.pool) (λ d. IsTrue (are_related spec.base d.structure a.structure)) one in
    let other : are_related spec.base d.0.structure b.structure ≡ true = subst (λ o. IsSomeAnd o (λ (x : Pool). IsTrue (are_related spec.base x.structure b.structure))) d.1.0 two in
    passes (λ (x : Pool). are_related spec.base x.structure a.structure && are_related spec.base x.structure b.structure) spec.base.pools d.0
    (among_pools spec.base.pools e.pool d.0 d.1.0)
    (together (are_related spec.base d.0.structure a.structure) (are_related spec.base d.0.structure b.structure) d.1.1 other) where
      together : (p q : Bool) → p ≡ true → q ≡ true → (p && q) ≡ true
      together true q e f = f
      together false q e f = absurd cc

module _ (spec : Spec) (layout : Layout) (fields : List FieldRef) (old new : List ℕ) (alike : AreAlikeBut spec layout fields old new) where
  abbrev typed : IsTyped spec
  typed = alike.image.typed

  abbrev laid_out : IsLayoutOf spec old layout
  laid_out = alike.image.layout_is

  pub legal : IsLegalLayout layout
  legal = legal_of spec old layout laid_out typed alike.image.small

  abbrev Lies : Element → Cell → Type 0
  Lies e cell = LiesIn spec old layout laid_out typed legal e cell

  -- ---- cells of fields

  pub only_head : (e : Element) (structure : ℕ) → HasFieldsOf spec.base e structure → e.pool ≡ 0 → e ≡ head
  only_head e structure (inl top) none = top.0
  only_head e structure (inr of) none = absurd (no_pool spec e (λ d. IsTrue (are_related spec.base d.structure structure)) none of)

  pub in_line_of_head : (e : Element) (structure : ℕ) → HasFieldsOf spec.base e structure → e.pool ≡ 0 → Descends spec.base.structures spec.base.head structure
  in_line_of_head e structure (inl top) none = top.1
  in_line_of_head e structure (inr of) none = absurd (no_pool spec e (λ d. IsTrue (are_related spec.base d.structure structure)) none of)

  cell_lies : (e : Element) (field : FieldRef) (index : ℕ) (cell : Cell) → IsCellAt spec layout e field index cell → Lies e cell
  cell_lies e field index cell at =
      let f = some_there (declared_field spec.base field) at.declared in
      entry_lies spec old layout laid_out typed legal e field f.0 index cell (only_head e field.structure at.of_record) f.1 (in_line_of_head e field.structure at.of_record) at.entry

  -- ---- what an instance reads

  module _ (i : Instance) (rule : Rule) (instance : IsInstance spec layout i rule) (path : Path) (among : IsIn path (paths_of rule)) where
    of_rule : IsTypedRule spec.base rule
    of_rule = of_all (IsTypedRule spec.base) spec.rules rule typed.rules (item_at spec.rules i.rule rule instance.rule_is)

    its_path : IsTypedPath spec.base rule path
    its_path = path_typed spec rule of_rule path among

    abbrev index : ℕ
    index = if path.indexed then i.index else 0

    -- the cell that is read
    record IsCell : Type 0 where
      cell : Cell
      entry : IsEntry layout i.elem path.field index cell

    its_cell : IsCell
    its_cell =
        let has = path_has_entry spec old layout laid_out typed i rule instance of_rule path its_path in
        record { cell = placed_cell layout.order (record_start layout i.elem) index has.place; entry = record { entry = has; cell_is = ap (option_map (placed_cell layout.order (record_start layout i.elem) index)) has.place_is } }

    abbrev cell : Cell
    cell = its_cell.cell

    form : IsFieldCell cell
    form = entry_form layout i.elem path.field index cell legal its_cell.entry

    its_head : i.elem.pool ≡ 0 → i.elem ≡ head
    its_head none =
        let pool : premise_pool spec rule ≡ 0 = sym instance.pool_is ∙ none in
        let below : i.elem.slot < 1 = subst (λ p. i.elem.slot < record_count layout p) pool instance.slot_below in
        let slot : i.elem.slot ≡ 0 = omega (arith, below) in
        λ k. record { pool = none k; slot = slot k }

    fields_by : (premise : Option ℕ) → rule.premise ≡ premise → HasFieldsOf spec.base i.elem path.field.structure
    fields_by None is = inl (
      its_head (instance.pool_is ∙ ap (pool_of_premise spec.base) is),
      subst (λ p. Descends spec.base.structures (premise_structure spec.base p) path.field.structure) is its_path.is_field.of_record,
    )
    fields_by (Some n) is =
        let known = subst (λ p. IfSome p (λ m. IsSomeAnd (slice_get spec.base.sets m) (λ s. s.except ≡ None))) is of_rule.premise in
        let set = some_and (slice_get spec.base.sets n) (λ s. s.except ≡ None) known in
        let pool : i.elem.pool ≡ set.0.pool = instance.pool_is ∙ (ap (pool_of_premise spec.base) is ∙ ap (λ o. option_map_or (λ (d : SetDecl). d.pool) o 0) set.1.0) in
        let top : premise_structure spec.base rule.premise ≡ set.0.structure = ap (premise_structure spec.base) is ∙ ap (λ o. option_map_or (λ (s : SetDecl). s.structure) o spec.base.head) set.1.0 in
        of_set spec.base i.elem set.0 path.field.structure typed.base (item_at spec.base.sets n set.0 set.1.0) (sym pool)
        (subst (λ (t : ℕ). Descends spec.base.structures t path.field.structure) top its_path.is_field.of_record)

    own_fields : HasFieldsOf spec.base i.elem path.field.structure
    own_fields = fields_by rule.premise refl

    of_head : i.elem.pool ≡ 0 → Descends spec.base.structures spec.base.head path.field.structure
    of_head none = in_line_of_head i.elem path.field.structure own_fields none

    lies : Lies i.elem cell
    lies = entry_lies spec old layout laid_out typed legal i.elem path.field its_path.field index cell its_head its_path.is_field.declared of_head its_cell.entry

    value_is : (bytes : List ℕ) → value_at layout bytes i.elem i.index path ≡ Some (cell_value bytes cell)
    value_is bytes = ap (option_map (cell_value bytes)) its_cell.entry.cell_is

    -- ---- it shares no bit with a cell of a field by which it may not change

    module _ (e : Element) (field : FieldRef) (j : ℕ) (d : Cell) (at : IsCellAt spec layout e field j d) (still : may_change spec.base field path.field ≡ false) where
      related : i.elem ≡ e → IsTrue (are_related spec.base path.field.structure field.structure)
      related same = elim (are_related spec.base path.field.structure field.structure) as (λ b. are_related spec.base path.field.structure field.structure ≡ b → b ≡ true) [
        | true ↦ λ _. refl
        | false ↦ λ apart.
            let theirs = subst (λ (x : Element). HasFieldsOf spec.base x field.structure) (sym same) at.of_record in
            absurd (not_both (are_related spec.base path.field.structure field.structure) (are_of_one_pool spec.base path.field field)
            (neither (is_same_field field path.field) (not (are_related spec.base path.field.structure field.structure) && are_of_one_pool spec.base path.field field) still).1
            apart (share spec typed i.elem path.field field own_fields theirs apart))
      ] refl

      beside : AreCellsApart cell d
      beside = elim (elements i.elem e) as (λ _. AreCellsApart cell d) [
        | inr other ↦ records_apart spec old layout laid_out typed legal i.elem e cell d other lies (cell_lies e field j d at)
        | inl same ↦
            in_other_fields spec.base old layout typed.base laid_out.numbers e path.field field index j cell d
            (other_field field path.field (not (are_related spec.base path.field.structure field.structure) && are_of_one_pool spec.base path.field field) still)
            (related_lines spec.base path.field.structure field.structure (related same))
            (subst (λ x. IsEntry layout x path.field index cell) same its_cell.entry) at.entry
      ]

    module _ (none : reads_any spec.base fields rule ≡ false) where
      still_by : (field : FieldRef) → IsIn field fields → may_change spec.base field path.field ≡ false
      still_by field is_in =
          none_of (λ (f : FieldRef). may_change spec.base f path.field) fields
          (none_of (λ (p : Path). any_of (λ (f : FieldRef). may_change spec.base f p.field) fields) (paths_of rule) none path among) field is_in

      clash : (j : ℕ) → cell.bit ≤ j → j < cell.bit + cell.width → IsBitAt spec layout fields j → ⊥
      clash j from before h = elim (beside h.elem h.field h.index h.cell h.at (still_by h.field h.among)) as (λ _. ⊥) [
        | inl ends ↦ omega (arith, ends, before, h.bit.from)
        | inr ends ↦ omega (arith, ends, from, h.bit.before)
      ]

      same_bits : HasSameBits cell old new
      same_bits j from before = elim (numbers (bit_of new j) (bit_of old j)) as (λ _. bit_of new j ≡ bit_of old j) [
        | inl same ↦ same
        | inr differ ↦ absurd (clash j from before (alike.differ j differ))
      ]

      pub unmoved : IsSameAt layout old new i path
      unmoved = value_is new ∙ (ap Some (cell_stays old new alike.image.bytes alike.new_bytes cell form same_bits) ∙ sym (value_is old))
