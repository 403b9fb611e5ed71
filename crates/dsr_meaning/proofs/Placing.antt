-- The fields of a typed specification can be placed.
use Rattle.std.proofs.Common.{◌≡◌, ◌≤◌, ℕ, List, true, false, cond, nat_eq, Some, All, length, get_or, arith}
use Rattle.std.proofs.lemmas.Option.{slice_get-get_or}
use Rattle.std.specs.Prelude.{slice_get}
use Rattle.dsr_ir.specs.declared.declarations.Spec.{Spec}
use Rattle.dsr_ir.specs.declared.declarations.Structure.{Structure}
use Rattle.dsr_ir.specs.declared.declarations.Structures.{Structures}
use Rattle.dsr_meaning.specs.Placeable.{ArePlaceable, HasLegalWidth, IsPlaceable, IsPlaceableStructure}
use Rattle.dsr_meaning.specs.Typed.{AreTyped, IsTyped, IsTypedStructure, constraint_limit}

-- what is shown of each item that is found holds of all
all_found : {A : Type 0} (P : A → Type 0) (xs : List A) → ((k : ℕ) (x : A) → slice_get xs k ≡ Some x → P x) → All P xs
all_found P xs h k d lt = h k (get_or xs k d) (slice_get-get_or xs k d lt)

pub structure_placeable : (base : Structures) (i : ℕ) (s : Structure) → IsTypedStructure base i s → IsPlaceableStructure s
structure_placeable base i s typed = record {
  few_fields = typed.few_fields;
  widths = all_found HasLegalWidth s.fields (λ k f e. (typed.fields k f e).width);
  aligned = typed.aligned;
}

pub tables_placeable : (base : Structures) → AreTyped base → ArePlaceable base
tables_placeable base typed = record {
  structures = all_found IsPlaceableStructure base.structures (λ i s e. structure_placeable base i s (typed.structures i s e));
  few_structures = typed.few_structures;
  few_pools = typed.few_pools;
  few_symbols = typed.few_symbols;
}

few : (version n : ℕ) → n ≤ constraint_limit version → n ≤ 128
few version n le = elim (nat_eq version 2) as (λ b. n ≤ cond b 128 64 → n ≤ 128) [ true ↦ λ h. h | false ↦ λ h. omega arith ] le

pub spec_placeable : (spec : Spec) → IsTyped spec → IsPlaceable spec
spec_placeable spec typed = record {
  base = tables_placeable spec.base typed.base;
  few_rules = typed.few_rules;
  few_constraints = few spec.base.version (length spec.constraints) typed.few_constraints;
}
