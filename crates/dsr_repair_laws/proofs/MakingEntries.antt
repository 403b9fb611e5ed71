-- A write to a typed path of an instance's record can be made where its number fits the path's field.
use Rattle.std.proofs.Common.{◌≡◌, ◌<◌, ◌^◌, ◌∙◌, ◌+◌, ◌*◌, ℕ, zero, suc, length, List, [], ◌∷◌, Option, None, Some, IsSomeAnd, refl, sym, ap, subst, slice_get, if◌then◌else◌, arith}
use Rattle.std.specs.Prelude.{option_map}
use Rattle.std.specs.Option.{option_and_then}
use Rattle.std.proofs.lemmas.Option.{same_Some}
use Rattle.dsr_ir.specs.Layouts.{field_place, pool_numbers}
use Rattle.dsr_ir.specs.declared.declarations.Field.{Field}
use Rattle.dsr_ir.specs.declared.declarations.FieldRef.{FieldRef}
use Rattle.dsr_ir.specs.declared.declarations.Kind.{Kind}
use Rattle.dsr_ir.specs.declared.declarations.Kind.TheVariants.{Number, Refers, Gap}
use Rattle.dsr_ir.specs.declared.declarations.Spec.{Spec}
use Rattle.dsr_ir.specs.declared.declarations.Structures.{Structures}
use Rattle.dsr_ir.specs.declared.layouts.FieldPlace.{FieldPlace}
use Rattle.dsr_ir.specs.declared.layouts.Layout.{Layout}
use Rattle.dsr_ir.specs.declared.rules.Path.{Path}
use Rattle.dsr_ir.specs.declared.rules.Rule.{Rule}
use Rattle.dsr_ir.specs.declared.tuples.Element.{Element}
use Rattle.dsr_ir.specs.declared.tuples.Instance.{Instance}
use Rattle.dsr_ir.specs.declared.updates.Pick.{Pick}
use Rattle.dsr_ir.specs.declared.updates.Pick.TheVariants as picks
use Rattle.dsr_ir.specs.declared.updates.Write.{Write}
use Rattle.dsr_layout.proofs.Fitting.{code_fits, field_found, none_fits}
use Rattle.dsr_layout.proofs.LegalLayout.{built}
use Rattle.dsr_layout.proofs.Lineages.{ancestors, lineage_of}
use Rattle.dsr_layout.proofs.SameCounts.{records_of, some_before}
use Rattle.dsr_layout.specs.InRange.{IsRecordOf}
use Rattle.dsr_meaning.specs.Cells.{placed_cell, record_start, width_bits}
use Rattle.dsr_meaning.specs.Extents.{bit_behind}
use Rattle.dsr_meaning.specs.FixedFields.{fixed_value}
use Rattle.dsr_meaning.specs.Instances.{IsInstance, declared_field, kind_pool, record_count, referred_pool}
use Rattle.dsr_meaning.specs.Layouts.{layout_of}
use Rattle.dsr_meaning.specs.Legal.{HasEntry}
use Rattle.dsr_meaning.specs.Places.{end_of, extent_of, lineage, own_places, placed, placed_at}
use Rattle.dsr_meaning.specs.Refusals.{IsLayoutOf}
use Rattle.dsr_meaning.specs.Typed.{IsPoolNumber, IsTyped, IsTypedKind, IsTypedPath, IsTypedRule}
use Rattle.dsr_resolve.proofs.Entries.{numbers_of, path_has_entry}
use Rattle.dsr_resolve.proofs.PlacesOfFields.{collected_has, mapped_before}
use Rattle.dsr_step_theory.specs.Steps.{CanWrite, IsSlot, code_of, picked_number}
use Rattle.dsr_step_theory.specs.declared.steps.Step.{Step}

-- ---- the place of a declared field is as wide as the field

module _ (fixed : ℕ → Option ℕ) where
  placed_width : (fs : List Field) (bit : ℕ) (places : List FieldPlace) → placed fixed bit fs ≡ Some places → (k : ℕ) (f : Field) (place : FieldPlace) → slice_get fs k ≡ Some f → slice_get places k ≡ Some place → place.width ≡ f.width
  placed_width [] bit places e k f place found at = absurd cc
  placed_width (g ∷ gs) bit places e zero f place found at =
      let first = some_before (λ x. option_map (λ ps. placed_at bit g x ∷ ps) (placed fixed (bit_behind bit x) gs)) (extent_of fixed g) places e in
      let rest = mapped_before (λ ps. placed_at bit g first.0 ∷ ps) (placed fixed (bit_behind bit first.0) gs) places first.1.1 in
      let there : slice_get (placed_at bit g first.0 ∷ rest.0) 0 ≡ Some place = ap (λ ps. slice_get ps 0) rest.1.1 ∙ at in
      let here : place ≡ placed_at bit g first.0 = cc in
      let same : g ≡ f = cc in
      ap (λ (p : FieldPlace). p.width) here ∙ ap (λ (x : Field). x.width) same
  placed_width (g ∷ gs) bit places e (suc k) f place found at =
      let first = some_before (λ x. option_map (λ ps. placed_at bit g x ∷ ps) (placed fixed (bit_behind bit x) gs)) (extent_of fixed g) places e in
      let rest = mapped_before (λ ps. placed_at bit g first.0 ∷ ps) (placed fixed (bit_behind bit first.0) gs) places first.1.1 in
      placed_width gs (bit_behind bit first.0) rest.0 rest.1.0 k f place found (ap (λ ps. slice_get ps (suc k)) rest.1.1 ∙ at)

pub same_width : (base : Structures) (bytes : List ℕ) (layout : Layout) → layout_of base bytes ≡ Some layout → (field : FieldRef) (f : Field) (place : FieldPlace) → declared_field base field ≡ Some f → field_place layout field ≡ Some place → place.width ≡ f.width
same_width base bytes layout is field f place declared found =
    let fixed = fixed_value base bytes in
    let at = field_found base field f declared in
    let own = collected_has (λ i _. own_places fixed (lineage base.structures i)) 0 base.structures layout.fields (built fixed base (length bytes) layout is).fields_are field.structure field.structure at.structure (omega arith) at.structure_is in
    let line = lineage_of base.structures field.structure at.structure at.structure_is in
    let start = some_before (λ b. placed fixed b at.structure.fields) (end_of fixed (ancestors base.structures field.structure at.structure.parent)) own.value (sym (ap (own_places fixed) line) ∙ own.has) in
    let there : slice_get own.value field.field ≡ Some place = sym (ap (option_and_then (λ places. slice_get places field.field)) own.value_is) ∙ found in
    placed_width fixed at.structure.fields start.0 own.value start.1.1 field.field f place at.field_is there

-- ---- numbers that fit

-- the pick has a number for the field, which fits
pub record FitsField (spec : Spec) (layout : Layout) (step : Step) (field : FieldRef) (f : Field) (pick : Pick) : Type 0 where
  pub number : ℕ
  pub number_is : picked_number spec layout step field pick ≡ Some number
  pub fits : number < 2 ^ width_bits f.width

pub referred_number : (base : Structures) (f : Field) (kind : Kind) (pool : ℕ) → IsTypedKind base f kind → kind_pool kind ≡ Some pool → IsPoolNumber base pool
referred_number base f (Number init) pool typed e = absurd cc
referred_number base f (Refers p) pool typed e = subst (IsPoolNumber base) (same_Some p pool e) typed
referred_number base f Gap pool typed e = absurd cc

module _ (spec : Spec) (bytes : List ℕ) (layout : Layout) (is : IsLayoutOf spec bytes layout) (typed : IsTyped spec) (step : Step) where
  -- a field refers to a declared pool
  refers_to : (field : FieldRef) (f : Field) (pool : ℕ) → declared_field spec.base field ≡ Some f → kind_pool f.kind ≡ Some pool → IsPoolNumber spec.base pool
  refers_to field f pool declared refers =
      let at = field_found spec.base field f declared in
      referred_number spec.base f f.kind pool ((typed.base.structures field.structure at.structure at.structure_is).fields field.field f at.field_is).kind refers

  pub none_fits_field : (field : FieldRef) (f : Field) (pool : ℕ) → declared_field spec.base field ≡ Some f → kind_pool f.kind ≡ Some pool → FitsField spec layout step field f picks.NoneCode
  none_fits_field field f pool declared refers =
      let at = field_found spec.base field f declared in
      let numbers = numbers_of spec bytes layout is typed pool (refers_to field f pool declared refers) in
      let referred : referred_pool spec field ≡ Some pool = ap (option_and_then (λ g. kind_pool g.kind)) declared ∙ refers in
      record {
        number = numbers.0.none;
        number_is = ap (option_and_then (λ p. option_map (λ n. n.none) (pool_numbers layout p))) referred ∙ ap (option_map (λ n. n.none)) numbers.1;
        fits = none_fits spec bytes is.accepted layout is.numbers field.structure field.field pool at.structure f numbers.0 at.structure_is at.field_is refers numbers.1;
      }

  -- the code of a record of the pool to which the field refers
  pub code_fits_field : (field : FieldRef) (f : Field) (pool : ℕ) (e : Element) → declared_field spec.base field ≡ Some f → kind_pool f.kind ≡ Some pool → IsRecordOf layout pool e → (number : ℕ) × ((code_of layout e ≡ Some number) × (number < 2 ^ width_bits f.width))
  code_fits_field field f pool e declared refers at_pool =
      let at = field_found spec.base field f declared in
      let numbers = numbers_of spec bytes layout is typed pool (refers_to field f pool declared refers) in
      let n = numbers.0 in
      let below : e.slot < n.count = subst (λ m. e.slot < m) (records_of layout pool n numbers.1) at_pool.slot_below in (
        n.code + e.slot * n.step,
        (
          ap (λ p. option_map (λ m. m.code + e.slot * m.step) (pool_numbers layout p)) at_pool.pool_is ∙ ap (option_map (λ m. m.code + e.slot * m.step)) numbers.1,
          code_fits spec bytes is.accepted layout is.numbers field.structure field.field pool at.structure f n at.structure_is at.field_is refers numbers.1 e.slot below,
        ),
      )

  -- a slot of a pool is one of its records
  pub slot_record : (e : Element) (pool : ℕ) → e.pool ≡ pool → IsSlot layout e → IsRecordOf layout pool e
  slot_record e pool same slot = record {
    pool_is = same;
    slot_below = subst (λ p. e.slot < record_count layout p) same
        (elim (pool_numbers layout e.pool) as (λ o. pool_numbers layout e.pool ≡ o → IsSomeAnd o (λ n. e.slot < n.count) → e.slot < record_count layout e.pool) [
          | None ↦ λ _ no. absurd no
          | Some n ↦ λ found below. subst (λ m. e.slot < m) (sym (records_of layout e.pool n found)) below
        ] refl slot);
  }

-- ---- a write to a path of the instance's record

-- the path has one index in both
abbrev pub SameEntry : Step → Instance → Path → Type 0
SameEntry step i path = (if path.indexed then i.index else 0) ≡ (if path.indexed then step.index else 0)

module _ (spec : Spec) (bytes : List ℕ) (layout : Layout) (is : IsLayoutOf spec bytes layout) (typed : IsTyped spec) (step : Step) (i : Instance) (rule : Rule) (instance : IsInstance spec layout i rule) (of : IsTypedRule spec.base rule) (elem : i.elem ≡ step.elem) where
  pub can_write : (path : Path) (its : IsTypedPath spec.base rule path) (write : Write) → SameEntry step i path → write.path ≡ path → FitsField spec layout step path.field its.field write.pick → CanWrite spec layout step write
  can_write path its write same is_path fits =
      let there = path_has_entry spec bytes layout is typed i rule instance of path its in
      let here : HasEntry layout step.elem path.field (if path.indexed then step.index else 0) =
      subst (λ k. HasEntry layout step.elem path.field k) same (subst (λ e. HasEntry layout e path.field (if path.indexed then i.index else 0)) elem there) in
      let width = same_width spec.base bytes layout is.numbers path.field its.field here.place its.is_field.declared here.place_is in
      let fit : fits.number < 2 ^ width_bits here.place.width = subst (λ w. fits.number < 2 ^ width_bits w) (sym width) fits.fits in
      let P : Path → Type 0 = λ p. IsSomeAnd (option_map (placed_cell layout.order (record_start layout step.elem) (if p.indexed then step.index else 0)) (field_place layout p.field)) (λ cell. fits.number < 2 ^ cell.width) in
      record {
        entry = subst (λ p. HasEntry layout step.elem p.field (if p.indexed then step.index else 0)) (sym is_path) here;
        number = fits.number;
        number_is = subst (λ p. picked_number spec layout step p.field write.pick ≡ Some fits.number) (sym is_path) fits.number_is;
        fits = subst P (sym is_path)
            (subst (λ o. IsSomeAnd (option_map (placed_cell layout.order (record_start layout step.elem) (if path.indexed then step.index else 0)) o) (λ cell. fits.number < 2 ^ cell.width)) (sym here.place_is) fit);
      }
