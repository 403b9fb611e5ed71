-- What numbers that are picked and written stand for.
use Rattle.std.proofs.Common.{◌≡◌, ◌<◌, ◌+◌, ◌*◌, ◌^◌, ◌∙◌, ℕ, Bool, true, false, Option, None, Some, IfSome, IsSome, IsSomeAnd, MatchBool, MatchOption, inl, inr, refl, sym, subst}
use Rattle.std.specs.Prelude.{option_map}
use Rattle.std.specs.Option.{option_and_then}
use Rattle.std.proofs.lemmas.Option.{same_Some, none-some}
use Rattle.dsr_ir.specs.Layouts.{pool_numbers}
use Rattle.dsr_ir.specs.declared.declarations.Field.{Field}
use Rattle.dsr_ir.specs.declared.declarations.FieldRef.{FieldRef}
use Rattle.dsr_ir.specs.declared.declarations.Spec.{Spec}
use Rattle.dsr_ir.specs.declared.layouts.Layout.{Layout}
use Rattle.dsr_ir.specs.declared.layouts.PoolNumbers.{PoolNumbers}
use Rattle.dsr_ir.specs.declared.rules.Test.{Test}
use Rattle.dsr_ir.specs.declared.tuples.Element.{Element}
use Rattle.dsr_ir.specs.declared.updates.Pick.{Pick}
use Rattle.dsr_ir.specs.declared.updates.Pick.TheVariants as picks
use Rattle.dsr_layout.proofs.Codes.{below_code}
use Rattle.dsr_layout.proofs.Meanings.{neither}
use Rattle.dsr_meaning.specs.Cells.{width_bits}
use Rattle.dsr_meaning.specs.Instances.{Meets, kind_pool, referred_pool}
use Rattle.dsr_meaning.specs.References.{IsLegal, IsNoneOf}
use Rattle.dsr_meaning.specs.Refusals.{is_code_below}
use Rattle.dsr_meaning.specs.Truth.{element_of}
use Rattle.dsr_step_theory.specs.Steps.{IsSlot, code_of, picked_number}
use Rattle.dsr_step_theory.specs.declared.steps.Step.{Step}
use Rattle.dsr_update_theory.specs.Values.{CellValue, Number, LegalReference, IllegalReference, NoneReference, IsPicked, MayHold, MayLeaveWanted}
use Rattle.dsr_effect_laws.specs.Leaving.{IsTestOf, StandsFor}
use Rattle.std.proofs.lemmas.Bool.{cases_eq}
use Rattle.dsr_effect_laws.proofs.TestedValues.{AreTold, meets_passes, passes_meets}
use Rattle.dsr_effect_laws.specs.Fitting.{IsPickFor}

module _ (layout : Layout) where
  -- every number stands for something
  abbrev Stands : Option ℕ → ℕ → Type 0
  Stands pool n = (v : CellValue) × StandsFor layout pool n v

  of_numbers : (pool n : ℕ) (p : PoolNumbers) → pool_numbers layout pool ≡ Some p → Stands (Some pool) n
  of_numbers pool n p is = elim (cases_eq n p.none) as (λ _. Stands (Some pool) n) [
    | inl none ↦ (NoneReference, subst (λ o. IsSomeAnd o (λ m. n ≡ m.none)) (sym is) none)
    | inr other ↦ elim (is_code_below p n p.count) as (λ b. is_code_below p n p.count ≡ b → Stands (Some pool) n) [
      | true ↦ λ found. let slot = below_code p n p.count found in (LegalReference, (slot.0, record { numbers = p; declared = is; below = slot.1.0; code = slot.1.1 }))
      | false ↦ λ never. (IllegalReference, neither layout pool n p is other never)
    ] refl
  ]

  of_pool : (pool n : ℕ) (o : Option PoolNumbers) → pool_numbers layout pool ≡ o → Stands (Some pool) n
  of_pool pool n (Some p) is = of_numbers pool n p is
  of_pool pool n None is = (
    IllegalReference,
    record {
      not_none = λ none. subst (λ o. IsSomeAnd o (λ m. n ≡ m.none)) is none;
      not_legal = λ legal. none-some legal.1.numbers (sym is ∙ legal.1.declared);
    },
  )

  pub stands_some : (pool : Option ℕ) (n : ℕ) → Stands pool n
  stands_some None n = (Number n, refl)
  stands_some (Some pool) n = of_pool pool n (pool_numbers layout pool) refl

  -- what a number of the field's width stands for the field may hold
  hold_by : (f : Field) (n : ℕ) (o : Option ℕ) (v : CellValue) → kind_pool f.kind ≡ o → n < 2 ^ width_bits f.width → StandsFor layout o n v → MayHold f v
  hold_by f n None (Number m) is small s = (is, subst (λ k. k < 2 ^ width_bits f.width) s small)
  hold_by f n None LegalReference is small s = absurd s
  hold_by f n None IllegalReference is small s = absurd s
  hold_by f n None NoneReference is small s = absurd s
  hold_by f n (Some pool) (Number m) is small s = absurd s
  hold_by f n (Some pool) LegalReference is small s = subst IsSome (sym is) refl
  hold_by f n (Some pool) IllegalReference is small s = subst IsSome (sym is) refl
  hold_by f n (Some pool) NoneReference is small s = subst IsSome (sym is) refl

  -- ---- what is picked

  -- the code of a slot is one
  slot_code : (e : Element) (n : ℕ) → IsSlot layout e → code_of layout e ≡ Some n → IsLegal layout e.pool n
  slot_code e n slot code =
      elim (pool_numbers layout e.pool) as (λ o. pool_numbers layout e.pool ≡ o → option_map (λ m. m.code + e.slot * m.step) o ≡ Some n → IsSomeAnd o (λ m. e.slot < m.count) → IsLegal layout e.pool n) [
        | None ↦ λ _ q _. absurd cc
        | Some m ↦ λ is q below. (e.slot, record { numbers = m; declared = is; below = below; code = sym (same_Some (m.code + e.slot * m.step) n q) })
      ] refl code slot

  coded : (o : Option Element) (pool : Option ℕ) (n : ℕ) → IsSomeAnd o (λ e. (pool ≡ Some e.pool) × IsSlot layout e) → option_and_then (code_of layout) o ≡ Some n → StandsFor layout pool n LegalReference
  coded None pool n of is = absurd of
  coded (Some e) pool n of is = subst (λ p. StandsFor layout p n LegalReference) (sym of.0) (slot_code e n of.1 is)

  no_code : (o pool : Option ℕ) (n : ℕ) → o ≡ pool → IsSome pool → option_and_then (λ p. option_map (λ m. m.none) (pool_numbers layout p)) o ≡ Some n → StandsFor layout pool n NoneReference
  no_code None None n e some is = absurd cc
  no_code None (Some p) n e some is = absurd cc
  no_code (Some p) None n e some is = absurd cc
  no_code (Some p) (Some q) n e some is =
      let same : p ≡ q = same_Some p q e in
      subst (λ r. IsNoneOf layout r n) same (elim (pool_numbers layout p) as (λ o. option_map (λ m. m.none) o ≡ Some n → IsSomeAnd o (λ m. n ≡ m.none)) [
        | None ↦ λ r. absurd cc
        | Some m ↦ λ r. sym (same_Some m.none n r)
      ] is)

module _ (spec : Spec) (layout : Layout) (step : Step) (field : FieldRef) (f : Field) (refers : referred_pool spec field ≡ kind_pool f.kind) where
  abbrev pub Picked : Pick → ℕ → Type 0
  Picked pick n = (v : CellValue) × StandsFor layout (kind_pool f.kind) n v × IsPicked f pick v

  -- the picked number stands for what is picked
  pub picked : (pick : Pick) (n : ℕ) → IsPickFor layout step f pick → picked_number spec layout step field pick ≡ Some n → n < 2 ^ width_bits f.width → Picked pick n
  picked (picks.Num k) n for is small = (Number k, subst (λ o. StandsFor layout o n (Number k)) (sym for) (sym (same_Some k n is)), refl)
  picked picks.NoneCode n for is small = (NoneReference, no_code layout (referred_pool spec field) (kind_pool f.kind) n refers for is, refl)
  picked (picks.CodeOf v) n for is small = (LegalReference, coded layout (element_of step.binding v) (kind_pool f.kind) n for is, refl)
  picked picks.Fresh n for is small = (LegalReference, coded layout step.fresh (kind_pool f.kind) n for is, refl)
  picked (picks.SizeOf m) n for is small = (Number n, subst (λ o. StandsFor layout o n (Number n)) (sym for) refl, (for, small))

  -- where what a write wants holds of a number, it stands for what the write may leave
  pub wanted_left : AreTold layout → (pick : Pick) (wants : Option (Test × Bool)) (n x : ℕ) → IfSome wants (λ want. IsTestOf (kind_pool f.kind) want.0) → Picked pick n → x < 2 ^ width_bits f.width
      → MatchOption wants (x ≡ n) (λ want. MatchBool want.1 (Meets layout (kind_pool f.kind) want.0 x) (Meets layout (kind_pool f.kind) want.0 x → ⊥))
      → (v : CellValue) × StandsFor layout (kind_pool f.kind) x v × MayLeaveWanted f pick wants v
  wanted_left told pick None n x tests p small same = (p.0, subst (λ k. StandsFor layout (kind_pool f.kind) k p.0) (sym same) p.1, p.2)
  wanted_left told pick (Some (test, true)) n x tests p small holds =
      let s = stands_some layout (kind_pool f.kind) x in
      (s.0, s.1, (hold_by layout f x (kind_pool f.kind) s.0 refl small s.1, meets_passes layout told (kind_pool f.kind) test x s.0 tests s.1 holds))
  wanted_left told pick (Some (test, false)) n x tests p small fails =
      let s = stands_some layout (kind_pool f.kind) x in
      (s.0, s.1, (hold_by layout f x (kind_pool f.kind) s.0 refl small s.1, λ passes. fails (passes_meets layout told (kind_pool f.kind) test x s.0 s.1 passes)))
