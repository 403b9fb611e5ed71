-- Records of an image are such as a report may tell.
use Rattle.std.proofs.Common.{◌≡◌, ◌<◌, ◌≤◌, ◌+◌, ◌-◌, ℕ, zero, suc, List, Option, None, Some, length, refl, ap, arith, ◌∙◌}
use Rattle.std.specs.Option.{option_map_or}
use Rattle.std.proofs.lemmas.Option.{slice_get_within}
use Rattle.dsr_repair_laws.proofs.MakingRecords.{var_record}
use Rattle.dsr_repair_laws.proofs.WrittenRecords.{var_pool}
use Rattle.dsr_ir.specs.Layouts.{pool_numbers}
use Rattle.dsr_ir.specs.declared.constraints.Quant.{Quant}
use Rattle.dsr_ir.specs.declared.constraints.Quant.TheVariants as quants
use Rattle.dsr_ir.specs.declared.constraints.Var.{Var}
use Rattle.dsr_ir.specs.declared.constraints.Var.TheVariants.{First, Second}
use Rattle.dsr_ir.specs.declared.declarations.Spec.{Spec}
use Rattle.dsr_ir.specs.declared.layouts.Layout.{Layout}
use Rattle.dsr_ir.specs.declared.layouts.PoolNumbers.{PoolNumbers}
use Rattle.dsr_ir.specs.declared.tuples.Binding.{Binding}
use Rattle.dsr_ir.specs.declared.tuples.Binding.TheVariants as bindings
use Rattle.dsr_ir.specs.declared.tuples.Element.{Element}
use Rattle.dsr_layout.proofs.LegalLayout.{as_many, built}
use Rattle.dsr_layout.proofs.LegalPools.{counted}
use Rattle.dsr_layout.proofs.Meanings.{few_slots}
use Rattle.dsr_layout.specs.InRange.{IsRecordOf as IsRecordIn}
use Rattle.dsr_meaning.proofs.Options.{some_and}
use Rattle.dsr_meaning.specs.Consistency.{IsBinding}
use Rattle.dsr_meaning.specs.FixedFields.{fixed_value}
use Rattle.dsr_meaning.specs.Legal.{IsLegalLayout}
use Rattle.dsr_meaning.specs.Models.{IsFact}
use Rattle.dsr_meaning.specs.Places.{size_of}
use Rattle.dsr_meaning.specs.Refusals.{IsLayoutOf}
use Rattle.dsr_meaning.specs.Truth.{element_of}
use Rattle.dsr_meaning.specs.Typed.{IsTyped, pool_of_var}
use Rattle.dsr_report_read.specs.Forms.{IsRecord, IsRecordOf}
use Rattle.dsr_step_theory.specs.Steps.{IsSlot}

module _ (spec : Spec) (bytes : List ℕ) (layout : Layout) (is : IsLayoutOf spec bytes layout) (legal : IsLegalLayout layout) where
  numbered : (e : Element) (n : PoolNumbers) → pool_numbers layout e.pool ≡ Some n → e.slot < n.count → IsRecord spec e × (0 < e.pool)
  numbered e n found less =
      let at = counted layout e.pool n found in
      let from : e.pool ≡ 1 + (e.pool - 1) = at.0 in
      let below : e.pool - 1 < length layout.pools = slice_get_within layout.pools (e.pool - 1) n at.1 in
      let fixed : ℕ → Option ℕ = fixed_value spec.base bytes in
      let many : length layout.pools ≡ length spec.base.pools =
      as_many fixed (size_of fixed spec.base.structures) spec.base.pools layout.pools (built fixed spec.base (length bytes) layout is.numbers).pools_are in
      let few : n.count ≤ 67108864 = few_slots layout e.pool n legal found in (
        record {
          declared = omega (arith, from, below, many);
          small = omega (arith, few, less);
          head = λ none. absurd (omega (arith, from, none));
        },
        omega (arith, from),
      )

  -- a slot of a pool
  pub slot_told : (e : Element) → IsSlot layout e → IsRecord spec e × (0 < e.pool)
  slot_told e slot =
      let n = some_and (pool_numbers layout e.pool) (λ n. e.slot < n.count) slot in
      numbered e n.0 n.1.0 n.1.1

  -- a record of a pool, or the head
  pub record_told : (pool : ℕ) (e : Element) → IsRecordIn layout pool e → IsRecord spec e
  record_told zero e of =
      let pool = of.pool_is in
      let below = of.slot_below in
      record {
        declared = omega (arith, pool);
        small = omega (arith, below);
        head = λ _. omega (arith, below);
      }
  record_told (suc p) e of =
      elim (pool_numbers layout (suc p)) as (λ o. pool_numbers layout (suc p) ≡ o → e.slot < option_map_or (λ n. n.count) o 0 → IsRecord spec e) [
        | None ↦ λ _ less. absurd (omega (arith, less))
        | Some n ↦ λ found less. (numbered e n (ap (pool_numbers layout) of.pool_is ∙ found) less).0
      ] refl of.slot_below

  -- ---- what is bound

  module _ (typed : IsTyped spec) where
    var_told :
        (quant : Quant) (b : Binding) → IsBinding (IsFact spec layout bytes) quant b → (v : Var) (e : Element) → element_of b v ≡ Some e
        → IsRecord spec e × (pool_of_var spec.base quant v ≡ Some e.pool)
    var_told quant b bound v e at =
        let pool = var_pool spec bytes layout is.numbers typed b quant b bound v e at in
        (record_told e.pool e (var_record spec bytes layout is.numbers typed quant b bound v e.pool e pool at), pool)

    pub binding_told : (quant : Quant) (b : Binding) → IsBinding (IsFact spec layout bytes) quant b → IsRecordOf spec quant b
    binding_told quants.Once bindings.Once bound = tt
    binding_told quants.Once (bindings.Each e) bound = absurd bound
    binding_told quants.Once (bindings.Pair e f) bound = absurd bound
    binding_told (quants.Each set) bindings.Once bound = absurd bound
    binding_told (quants.Each set) (bindings.Each e) bound = var_told (quants.Each set) (bindings.Each e) bound First e refl
    binding_told (quants.Each set) (bindings.Pair e f) bound = absurd bound
    binding_told (quants.Pairs rel) bindings.Once bound = absurd bound
    binding_told (quants.Pairs rel) (bindings.Each e) bound = absurd bound
    binding_told (quants.Pairs rel) (bindings.Pair e f) bound =
        let source = var_told (quants.Pairs rel) (bindings.Pair e f) bound First e refl in
        let target = var_told (quants.Pairs rel) (bindings.Pair e f) bound Second f refl in
        (source.0, target.0, source.1, target.1)
