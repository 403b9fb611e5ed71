-- A step leaves what instances read as its update is judged to leave it.
use Rattle.std.proofs.Common.{◌≡◌, ◌≢◌, ◌<◌, ◌+◌, ◌*◌, ◌⊎◌, ◌∙◌, ℕ, Bool, true, false, not, List, [], ◌∷◌, length, Option, None, Some, IsSome, IsSomeAnd, MatchBool, MatchOption, inl, inr, refl, sym, ap, subst, arith}
use Rattle.std.specs.Prelude.{IsTrue, option_map, ◌&&◌, if◌then◌else◌}
use Rattle.std.specs.Option.{option_and_then, option_map_or}
use Rattle.std.proofs.lemmas.Bool.{and_parts, false≢true, not-false, not-true, or_parts}
use Rattle.std.proofs.lemmas.Option.{same_Some}
use Rattle.dsr_layout_laws.proofs.Fields.{in_other_fields}
use Rattle.dsr_layout_laws.specs.Entries.{IsEntry}
use Rattle.dsr_ir.specs.Layouts.{pool_numbers}
use Rattle.dsr_ir.specs.declared.declarations.Field.{Field}
use Rattle.dsr_ir.specs.declared.declarations.FieldRef.{FieldRef}
use Rattle.dsr_ir.specs.declared.declarations.Kind.{Kind}
use Rattle.dsr_ir.specs.declared.declarations.Kind.TheVariants as kinds
use Rattle.dsr_ir.specs.declared.declarations.Pool.{Pool}
use Rattle.dsr_ir.specs.declared.layouts.Cell.{Cell}
use Rattle.dsr_ir.specs.declared.layouts.Layout.{Layout}
use Rattle.dsr_ir.specs.declared.rules.Path.{Path}
use Rattle.dsr_ir.specs.declared.rules.Rule.{Rule}
use Rattle.dsr_ir.specs.declared.tuples.Element.{Element}
use Rattle.dsr_ir.specs.declared.tuples.Instance.{Instance}
use Rattle.dsr_ir.specs.declared.updates.Pick.{Pick}
use Rattle.dsr_ir.specs.declared.updates.Pick.TheVariants as picks
use Rattle.dsr_ir.specs.declared.updates.Write.{Write}
use Rattle.dsr_repair_laws.proofs.Clear.{writes_leave}
use Rattle.dsr_layout.proofs.Codes.{one_slot}
use Rattle.dsr_layout.proofs.Fitting.{field_found}
use Rattle.dsr_layout.proofs.Meanings.{legal_pool}
use Rattle.dsr_meaning.specs.Cells.{IsFieldCell, cell_of, cell_value, placed_cell, record_start, value_at}
use Rattle.dsr_meaning.specs.Counting.{IsIn}
use Rattle.dsr_meaning.specs.Instances.{LeadsTo, Meets, declared_field, kind_pool, record_count, referred_pool}
use Rattle.dsr_meaning.specs.Lists.{any_of}
use Rattle.dsr_meaning.specs.References.{IsCodeOf}
use Rattle.dsr_meaning.specs.Typed.{Descends, IsTyped, IsTypedKind, IsTypedPath, IsTypedRule, ancestors, pool_at, premise_structure}
use Rattle.dsr_meaning.specs.Writes.{AreCellsApart}
use Rattle.dsr_resolve.proofs.Entries.{numbers_of, path_has_entry}
use Rattle.dsr_step_laws.proofs.Related.{in_line, lines_related, related_lines, some_is}
use Rattle.dsr_step_theory.specs.Puts.{ArePut}
use Rattle.dsr_step_theory.specs.Resets.{reset_number, reset_puts}
use Rattle.dsr_step_theory.specs.Steps.{IsSlot, code_of, picked_number, written_cell, written_index}
use Rattle.dsr_step_theory.specs.declared.steps.Step.{Step}
use Rattle.dsr_update.specs.Claims.{CanReset, IsRecordField}
use Rattle.dsr_update_theory.specs.Changes.{Change, are_related, descends, is_at_entry, is_foreign, is_touched, is_written, paths_of, write_to}
use Rattle.dsr_update_theory.specs.Effects.{gets_fresh, is_fresh_pick}
use Rattle.dsr_update_theory.specs.Templates.{is_same_field}
use Rattle.dsr_update_theory.specs.Touching.{Leaves, reset_value}
use Rattle.dsr_update_theory.specs.Values.{CellValue, Number, NoneReference, reset_of}
use Rattle.dsr_effect_laws.specs.Leaving.{HasValueOf, IsLeftAs, IsRead, IsSameAt, StandsFor}
use Rattle.dsr_effect_laws.proofs.RulePaths.{alike, path_typed, same_index}
use Rattle.dsr_effect_laws.proofs.WrittenFields.{field_same, found_in, no_some, not_found, same_field, some_of, some_there}
use Rattle.dsr_step_laws.proofs.HeadRules.{no_set, only_head}
use Rattle.dsr_effect_laws.specs.Fitting.{IsFitStep, IsFitWrite, IsPickFor}
use Rattle.dsr_effect_laws.proofs.Resetting.{reset_to, same_place}
use Rattle.dsr_effect_laws.proofs.Slots.{LiesIn, beside_slot, entries_apart, entry_lies, records_apart}
use Rattle.dsr_effect_laws.proofs.Writes.{IsLeftFrom, beside_fresh, entry_form, left_as, left_from, legal, refers, step_leaves, write_entry, write_lies}
use Rattle.dsr_meaning.proofs.Items.{item_at, none_of, of_all}
use Rattle.dsr_meaning.proofs.Options.{and_some, some_and}

-- ---- the cells of instances

module _ (c : Change) (layout : Layout) (step : Step) (old new : List ℕ) (fit : IsFitStep c layout step old new) where
  abbrev typed : IsTyped c.spec
  typed = fit.image.typed

  abbrev Lies : Element → Cell → Type 0
  Lies e cell = LiesIn c.spec old layout fit.image.layout_is fit.image.typed (legal c layout step old new fit) e cell

  module _ (i : Instance) (rule : Rule) (path : Path) (read : IsRead c layout i rule path) where
    of_rule : IsTypedRule c.spec.base rule
    of_rule = of_all (IsTypedRule c.spec.base) c.spec.rules rule typed.rules (item_at c.spec.rules i.rule rule read.instance.rule_is)

    its_path : IsTypedPath c.spec.base rule path
    its_path = path_typed c.spec rule of_rule path read.among

    abbrev index : ℕ
    index = if path.indexed then i.index else 0

    -- the cell that is read
    record IsCell : Type 0 where
      cell : Cell
      entry : IsEntry layout i.elem path.field index cell

    its_cell : IsCell
    its_cell =
        let has = path_has_entry c.spec old layout fit.image.layout_is typed i rule read.instance of_rule path its_path in
        record { cell = placed_cell layout.order (record_start layout i.elem) index has.place; entry = record { entry = has; cell_is = ap (option_map (placed_cell layout.order (record_start layout i.elem) index)) has.place_is } }

    abbrev cell : Cell
    cell = its_cell.cell

    form : IsFieldCell cell
    form = entry_form layout i.elem path.field index cell (legal c layout step old new fit) its_cell.entry

    of_head : i.elem.pool ≡ 0 → Descends c.spec.base.structures c.spec.base.head path.field.structure
    of_head none =
        let premise = no_set c.spec typed rule.premise of_rule.premise (sym read.instance.pool_is ∙ none) in
        subst (λ o. Descends c.spec.base.structures (premise_structure c.spec.base o) path.field.structure) premise its_path.is_field.of_record

    lies : Lies i.elem cell
    lies = entry_lies c.spec old layout fit.image.layout_is typed (legal c layout step old new fit) i.elem path.field its_path.field index cell (λ none. only_head layout i.elem (record { pool_is = none; slot_below = subst (λ p. i.elem.slot < record_count layout p) (sym read.instance.pool_is ∙ none) read.instance.slot_below })) its_path.is_field.declared of_head its_cell.entry

    value_is : (bytes : List ℕ) → value_at layout bytes i.elem i.index path ≡ Some (cell_value bytes cell)
    value_is bytes = ap (option_map (cell_value bytes)) its_cell.entry.cell_is

    same_at : cell_value new cell ≡ cell_value old cell → IsSameAt layout old new i path
    same_at same = value_is new ∙ (ap Some same ∙ sym (value_is old))

    -- ---- of other records

    elsewhere : i.elem ≢ step.elem → step.fresh ≢ Some i.elem → IsSameAt layout old new i path
    elsewhere away unfresh =
        same_at (step_leaves c layout step old new fit cell form
        (λ e is d slot. beside_slot c.spec old layout fit.image.layout_is typed (legal c layout step old new fit) i.elem e cell d (λ same. unfresh (is ∙ ap Some (sym same))) lies slot)
        (λ v is_in d is. records_apart c.spec old layout fit.image.layout_is typed (legal c layout step old new fit) i.elem step.elem cell d away lies (write_lies c layout step old new fit v is_in d is)))

    -- ---- of the written record

    module _ (at : i.elem ≡ step.elem) where
      entry_at : IsEntry layout step.elem path.field index cell
      entry_at = subst (λ e. IsEntry layout e path.field index cell) at its_cell.entry

      lies_at : Lies step.elem cell
      lies_at = subst (λ e. Lies e cell) at lies

      beside_writes : ((v : Write) → IsIn v c.update.writes → (d : Cell) → written_cell layout step v ≡ Some d → AreCellsApart cell d) → IsSameAt layout old new i path
      beside_writes apart = same_at (step_leaves c layout step old new fit cell form (beside_fresh c layout step old new fit cell lies_at) apart)

      -- a write of another field, of a related structure
      other_field : (v : Write) → IsIn v c.update.writes → (d : Cell) → written_cell layout step v ≡ Some d → path.field ≢ v.path.field → IsTrue (are_related c.spec.base path.field.structure v.path.field.structure) → AreCellsApart cell d
      other_field v is_in d is other related =
          in_other_fields c.spec.base old layout typed.base fit.image.layout_is.numbers step.elem path.field v.path.field index (written_index step v) cell d other
          (related_lines c.spec.base path.field.structure v.path.field.structure related) entry_at (write_entry c layout step old new fit v is_in d is)

      untouched : is_touched c path.field ≡ false → IsSameAt layout old new i path
      untouched still =
          let parts = or_parts (is_written c path.field) (is_foreign c path.field) still in
          let unwritten = no_some (write_to c.update.writes path.field) parts.0 in
          beside_writes (λ v is_in d is.
          let fails = not_found (λ w. is_same_field w.path.field path.field) c.update.writes unwritten v is_in in
          let related = not-false (are_related c.spec.base path.field.structure v.path.field.structure) (none_of (λ w. not (are_related c.spec.base path.field.structure w.path.field.structure)) c.update.writes parts.1 v is_in) in
          other_field v is_in d is (λ same. false≢true (sym fails ∙ same_field v.path.field path.field (sym same))) related)

      -- ---- the write of the field

      module _ (write : Write) (found : write_to c.update.writes path.field ≡ Some write) where
        is_in : IsIn write c.update.writes
        is_in = (found_in (λ w. is_same_field w.path.field path.field) c.update.writes write found).0

        field_is : write.path.field ≡ path.field
        field_is = field_same write.path.field path.field (found_in (λ w. is_same_field w.path.field path.field) c.update.writes write found).1

        abbrev its : IsFitWrite c layout step write
        its = fit.writes write is_in

        fields_are : its.field ≡ its_path.field
        fields_are = same_Some its.field its_path.field (sym its.declared ∙ (ap (declared_field c.spec.base) field_is ∙ its_path.is_field.declared))

        indexed_alike : path.indexed ≡ write.path.indexed
        indexed_alike = alike c.spec.base rule.span path.indexed write.path.indexed its_path.field.len its_path.index (subst (λ (f : Field). MatchBool write.path.indexed (IsSome f.len) (f.len ≡ None)) fields_are its.indexed)

        abbrev left : IsLeftFrom c layout step fit.stepped.between new write
        left = left_from c layout step old new fit write is_in

        cells_are : (path.indexed ≡ true → i.index ≡ step.index) → left.cell ≡ cell
        cells_are same =
            let indices = same_index path.indexed write.path.indexed i.index step.index indexed_alike same in
            let one : cell_of layout step.elem write.path.field (written_index step write) ≡ Some left.cell = left.cell_is in
            let two : cell_of layout step.elem path.field index ≡ Some cell = entry_at.cell_is in
            same_Some left.cell cell (sym one ∙ (ap (λ f. cell_of layout step.elem f (written_index step write)) field_is ∙ (ap (cell_of layout step.elem path.field) (sym indices) ∙ two)))

        written : (path.indexed ≡ true → i.index ≡ step.index) → HasValueOf c layout new i path (Leaves c write)
        written same =
            let w = left_as c layout step old new fit write is_in in
            let pool : kind_pool its.field.kind ≡ referred_pool c.spec path.field = sym (refers c layout step old new fit write is_in) ∙ ap (referred_pool c.spec) field_is in
            record {
              number = cell_value new left.cell;
              read = value_is new ∙ ap (λ d. Some (cell_value new d)) (sym (cells_are same));
              value = w.0;
              stands = subst (λ o. StandsFor layout o (cell_value new left.cell) w.0) pool w.1;
              of_kind = w.2;
            }

      -- ---- other entries than the written one

      -- what the rule reads and what is written are fields of structures in one line
      related_to : is_at_entry c rule ≡ true → (v : Write) → IsIn v c.update.writes → IsTrue (are_related c.spec.base path.field.structure v.path.field.structure)
      related_to entry v v_in =
          let first = (and_parts (any_of (λ p. p.indexed && is_written c p.field) (paths_of rule)) (not (any_of (λ p. not p.indexed && is_touched c p.field) (paths_of rule))) entry).0 in
          let p = some_of (λ (p : Path). p.indexed && is_written c p.field) (paths_of rule) first in
          let both = and_parts p.0.indexed (is_written c p.0.field) p.2 in
          let w = some_there (write_to c.update.writes p.0.field) both.1 in
          let found = found_in (λ x. is_same_field x.path.field p.0.field) c.update.writes w.0 w.1 in
          let field : w.0.path.field ≡ p.0.field = field_same w.0.path.field p.0.field found.1 in
          let other = path_typed c.spec rule of_rule p.0 p.1 in
          let fits = fit.writes w.0 found.0 in
          let declared : fits.field ≡ other.field = same_Some fits.field other.field (sym fits.declared ∙ (ap (declared_field c.spec.base) field ∙ other.is_field.declared)) in
          let indexed : p.0.indexed ≡ w.0.path.indexed = alike c.spec.base rule.span p.0.indexed w.0.path.indexed other.field.len other.index (subst (λ (f : Field). MatchBool w.0.path.indexed (IsSome f.len) (f.len ≡ None)) declared fits.indexed) in
          let top = premise_structure c.spec.base rule.premise in
          lines_related c.spec.base path.field.structure v.path.field.structure
          (elim (fit.entries w.0 found.0 (sym indexed ∙ both.0)) as (λ _. Descends c.spec.base.structures path.field.structure v.path.field.structure ⊎ Descends c.spec.base.structures v.path.field.structure path.field.structure) [
            | inl alone ↦
                let same : v ≡ w.0 = one_item v w.0 (subst (IsIn v) alone v_in) in
                subst (λ (s : ℕ). Descends c.spec.base.structures path.field.structure s ⊎ Descends c.spec.base.structures s path.field.structure) (sym (ap (λ (x : Write). x.path.field.structure) same ∙ ap (λ (f : FieldRef). f.structure) field))
                (in_line c.spec.base typed.base (top + 1) top (omega arith) path.field.structure p.0.field.structure its_path.is_field.of_record other.is_field.of_record)
            | inr none ↦
                let head_structure = c.spec.base.head in
                in_line c.spec.base typed.base (head_structure + 1) head_structure (omega arith) path.field.structure v.path.field.structure
                (of_head (ap (λ (e : Element). e.pool) at ∙ none)) ((fit.writes v v_in).of_head none)
          ]) where
            one_item : (x y : Write) → IsIn x (y ∷ []) → x ≡ y
            one_item x y (inl e) = e
            one_item x y (inr none) = absurd none

      beside_entry : is_at_entry c rule ≡ true → i.index ≢ step.index → path.indexed ≡ true → IsSameAt layout old new i path
      beside_entry entry other indexed =
          beside_writes (λ v v_in d is. elim (same_place v.path.field path.field) as (λ _. AreCellsApart cell d) [
            | inr differ ↦ other_field v v_in d is (λ same. differ (sym same)) (related_to entry v v_in)
            | inl same ↦
                let fits = fit.writes v v_in in
                let declared : fits.field ≡ its_path.field = same_Some fits.field its_path.field (sym fits.declared ∙ (ap (declared_field c.spec.base) same ∙ its_path.is_field.declared)) in
                let alike_to : path.indexed ≡ v.path.indexed = alike c.spec.base rule.span path.indexed v.path.indexed its_path.field.len its_path.index (subst (λ (f : Field). MatchBool v.path.indexed (IsSome f.len) (f.len ≡ None)) declared fits.indexed) in
                let own : index ≡ i.index = ap (λ b. if b then i.index else 0) indexed in
                let its_index : written_index step v ≡ step.index = ap (λ b. if b then step.index else 0) (sym alike_to ∙ indexed) in
                entries_apart layout step.elem path.field index (written_index step v) cell d (λ q. other (sym own ∙ (q ∙ its_index))) entry_at
                (subst (λ f. IsEntry layout step.elem f (written_index step v) d) same (write_entry c layout step old new fit v v_in d is))
          ])

      other_entries : is_at_entry c rule ≡ true → i.index ≢ step.index → IsSameAt layout old new i path
      other_entries entry other = elim (is_touched c path.field) as (λ b. is_touched c path.field ≡ b → IsSameAt layout old new i path) [
        | false ↦ λ still. untouched still
        | true ↦ λ touched.
            let none = not-true (any_of (λ p. not p.indexed && is_touched c p.field) (paths_of rule)) (and_parts (any_of (λ p. p.indexed && is_written c p.field) (paths_of rule)) (not (any_of (λ p. not p.indexed && is_touched c p.field) (paths_of rule))) entry).1 in
            let fails = none_of (λ (p : Path). not p.indexed && is_touched c p.field) (paths_of rule) none path read.among in
            beside_entry entry other (indexed_by path.indexed (is_touched c path.field) fails touched)
      ] refl where
        indexed_by : (a b : Bool) → (not a && b) ≡ false → b ≡ true → a ≡ true
        indexed_by true b e t = refl
        indexed_by false b e t = absurd (false≢true (sym e ∙ t))

      -- ---- the code of the fresh record

      module _ (e : Element) (gets : gets_fresh c path.field ≡ true) (leads : LeadsTo c.spec layout new i path e) where
        fresh_write : (w : Write) × (write_to c.update.writes path.field ≡ Some w) × (w.pick ≡ picks.Fresh)
        fresh_write = by_write (write_to c.update.writes path.field) refl gets where
          is_fresh : (pick : Pick) → is_fresh_pick pick ≡ true → pick ≡ picks.Fresh
          is_fresh (picks.Num n) q = absurd (false≢true q)
          is_fresh picks.NoneCode q = absurd (false≢true q)
          is_fresh (picks.CodeOf v) q = absurd (false≢true q)
          is_fresh picks.Fresh q = refl
          is_fresh (picks.SizeOf m) q = absurd (false≢true q)

          by_write : (o : Option Write) → write_to c.update.writes path.field ≡ o → option_map_or (λ w. is_fresh_pick w.pick) o false ≡ true → (w : Write) × (write_to c.update.writes path.field ≡ Some w) × (w.pick ≡ picks.Fresh)
          by_write None is q = absurd (false≢true q)
          by_write (Some w) is q = (w, is, is_fresh w.pick q)

        given_fresh : step.fresh ≡ Some e
        given_fresh =
            let w = fresh_write in
            let fits = its w.0 w.1 in
            let open_one = fits.fresh w.2 in
            let l = left w.0 w.1 in
            let scalar : path.indexed ≡ true → i.index ≡ step.index = λ indexed. absurd (false≢true (sym open_one.1 ∙ (sym (indexed_alike w.0 w.1) ∙ indexed))) in
            let number : cell_value new l.cell ≡ l.number = elim l.holds as (λ _. cell_value new l.cell ≡ l.number) [
              | inl is ↦ is
              | inr stays ↦ stays.0 ∙ subst (λ wants. MatchOption wants (cell_value fit.stepped.between l.cell ≡ l.number) (λ want. MatchBool want.1 (Meets layout (referred_pool c.spec w.0.path.field) want.0 (cell_value fit.stepped.between l.cell)) (Meets layout (referred_pool c.spec w.0.path.field) want.0 (cell_value fit.stepped.between l.cell) → ⊥))) open_one.0 stays.1
            ] in
            let f = some_and step.fresh (λ x. (kind_pool fits.field.kind ≡ Some x.pool) × IsSlot layout x) (subst (IsPickFor layout step fits.field) w.2 fits.picks) in
            let code : code_of layout f.0 ≡ Some l.number = sym (ap (option_and_then (code_of layout)) f.1.0) ∙ (sym (ap (picked_number c.spec layout step w.0.path.field) w.2) ∙ l.number_is) in
            let value : leads.value ≡ l.number = same_Some leads.value l.number (sym leads.read ∙ (value_is new ∙ (ap (λ d. Some (cell_value new d)) (sym (cells_are w.0 w.1 scalar)) ∙ ap Some number))) in
            let pools : Some e.pool ≡ Some f.0.pool = sym leads.refers ∙ (sym (ap (referred_pool c.spec) (field_is w.0 w.1)) ∙ (refers c layout step old new fit w.0 (is_in w.0 w.1) ∙ f.1.1.0)) in
            f.1.0 ∙ ap Some (coded_once f.0 e l.number (same_Some e.pool f.0.pool pools) code (subst (IsCodeOf layout e.pool e.slot) value leads.code)) where
              coded_once : (x y : Element) (n : ℕ) → y.pool ≡ x.pool → code_of layout x ≡ Some n → IsCodeOf layout y.pool y.slot n → x ≡ y
              coded_once x y n pool code is =
                  let m = is.numbers in
                  let pool_is : pool_numbers layout x.pool ≡ Some m = ap (pool_numbers layout) (sym pool) ∙ is.declared in
                  let own : m.code + x.slot * m.step ≡ n = same_Some (m.code + x.slot * m.step) n (sym (ap (option_map (λ q. q.code + x.slot * q.step)) pool_is) ∙ code) in
                  let slot : x.slot ≡ y.slot = one_slot m n x.slot y.slot (legal_pool layout y.pool m (legal c layout step old new fit) is.declared).step_some (sym own) is.code in
                  λ k. record { pool = sym pool k; slot = slot k }

    -- ---- of the fresh record

    -- a reset value and what it stands for
    abbrev IsReset : Kind → CellValue → Type 0
    IsReset kind value = (n : ℕ) × (reset_number layout kind ≡ Some n) × StandsFor layout (kind_pool kind) n value

    kind_reset : (f : Field) (kind : Kind) (value : CellValue) → IsTypedKind c.spec.base f kind → reset_of kind ≡ Some value → IsReset kind value
    kind_reset f (kinds.Number init) value of e = (init, refl, subst (StandsFor layout None init) (same_Some (Number init) value e) refl)
    kind_reset f (kinds.Refers pool) value of e =
        let n = numbers_of c.spec old layout fit.image.layout_is typed pool of in (
          n.0.none,
          ap (option_map (λ m. m.none)) n.1,
          subst (StandsFor layout (Some pool) n.0.none) (same_Some NoneReference value e) (subst (λ o. IsSomeAnd o (λ m. n.0.none ≡ m.none)) (sym n.1) refl),
        )
    kind_reset f kinds.Gap value of e = absurd cc

    module _ (fresh : step.fresh ≡ Some i.elem) (value : CellValue) (reset_is : reset_value c path.field ≡ Some value) where
      abbrev taken : (c.update.fresh ≡ Some i.elem.pool) × IsSlot layout i.elem × (i.elem ≢ step.elem)
      taken = fit.fresh i.elem fresh

      abbrev by_pool : Pool → Option CellValue
      by_pool d = if descends c.spec.base.structures d.structure path.field.structure then option_and_then (λ f. reset_of f.kind) (declared_field c.spec.base path.field) else None

      -- the pool's structure has the field, whose kind has the value
      of_pool : (d : Pool) × (pool_at c.spec.base i.elem.pool ≡ Some d) × (descends c.spec.base.structures d.structure path.field.structure ≡ true) × (reset_of its_path.field.kind ≡ Some value)
      of_pool = by_found (pool_at c.spec.base i.elem.pool) refl (sym (ap (λ o. option_and_then by_pool (option_and_then (pool_at c.spec.base) o)) taken.0) ∙ reset_is) where
        by_line : (d : Pool) → pool_at c.spec.base i.elem.pool ≡ Some d → (b : Bool) → descends c.spec.base.structures d.structure path.field.structure ≡ b → (if b then option_and_then (λ f. reset_of f.kind) (declared_field c.spec.base path.field) else None) ≡ Some value → (x : Pool) × (pool_at c.spec.base i.elem.pool ≡ Some x) × (descends c.spec.base.structures x.structure path.field.structure ≡ true) × (reset_of its_path.field.kind ≡ Some value)
        by_line d is true line e = (d, is, line, sym (ap (option_and_then (λ (f : Field). reset_of f.kind)) its_path.is_field.declared) ∙ e)
        by_line d is false line e = absurd cc

        by_found : (o : Option Pool) → pool_at c.spec.base i.elem.pool ≡ o → option_and_then by_pool o ≡ Some value → (x : Pool) × (pool_at c.spec.base i.elem.pool ≡ Some x) × (descends c.spec.base.structures x.structure path.field.structure ≡ true) × (reset_of its_path.field.kind ≡ Some value)
        by_found None is e = absurd cc
        by_found (Some d) is e = by_line d is (descends c.spec.base.structures d.structure path.field.structure) refl e

      reset_there : HasValueOf c layout new i path (λ v. v ≡ value)
      reset_there =
          let d = of_pool in
          let own = field_found c.spec.base path.field its_path.field its_path.is_field.declared in
          let kind = ((typed.base.structures path.field.structure own.structure own.structure_is).fields path.field.field its_path.field own.field_is).kind in
          let r = kind_reset its_path.field its_path.field.kind value kind d.3 in
          let can : CanReset c.spec layout i.elem (length old) = record { typed = typed; image = old; layout_is = fit.image.layout_is; as_long = refl; small = fit.image.small; slot = taken.1 } in
          let field : IsRecordField c.spec i.elem path.field its_path.field = record {
            structure = and_some (pool_at c.spec.base i.elem.pool) (λ x. Descends c.spec.base.structures x.structure path.field.structure) d.0 d.1 (some_is path.field.structure (d.0.structure ∷ ancestors c.spec.base.structures d.0.structure) d.2);
            declared = its_path.is_field.declared;
          } in
          let puts : ArePut (reset_puts c.spec.base layout i.elem) old fit.stepped.between = subst (λ o. MatchOption o (fit.stepped.between ≡ old) (λ e. ArePut (reset_puts c.spec.base layout e) old fit.stepped.between)) fresh fit.stepped.reset in
          let between_is = reset_to c.spec layout i.elem (length old) can path.field its_path.field field index cell its_cell.entry r.0 r.1 form old fit.stepped.between puts in
          let after : cell_value new cell ≡ cell_value fit.stepped.between cell =
          writes_leave cell form c.update.writes fit.stepped.between new (λ v v_in x is. records_apart c.spec old layout fit.image.layout_is typed (legal c layout step old new fit) i.elem step.elem cell x taken.2 lies (write_lies c layout step old new fit v v_in x is)) fit.stepped.written in
          record {
            number = cell_value new cell;
            read = value_is new;
            value = value;
            stands = subst (λ n. StandsFor layout (referred_pool c.spec path.field) n value) (sym (after ∙ between_is)) (subst (λ o. StandsFor layout o r.0 value) (sym (ap (option_and_then (λ (f : Field). kind_pool f.kind)) its_path.is_field.declared)) r.2);
            of_kind = refl;
          }

  pub left_as_judged : IsLeftAs c layout step old new
  left_as_judged = record {
    elsewhere = elsewhere;
    untouched = untouched;
    other_entries = other_entries;
    written = λ i rule path write read at found same. written i rule path read at write found same;
    given_fresh = λ i rule path e read at gets leads. given_fresh i rule path read at e gets leads;
    reset = λ i rule path value read fresh is. reset_there i rule path read fresh value is;
  }
