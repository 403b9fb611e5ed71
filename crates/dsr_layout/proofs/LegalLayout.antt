-- A layout that isn't refused is a legal one.
use Rattle.std.proofs.Common.{◌≡◌, ◌≤◌, ℕ, suc, List, [], ◌∷◌, ◌++◌, length, All, Option, None, Some, IfSome, option_map, option_and_then, refl, sym, ap, ◌∙◌, subst}
use Rattle.dsr_ir.specs.declared.declarations.Structure.{Structure}
use Rattle.dsr_ir.specs.declared.declarations.Pool.{Pool}
use Rattle.dsr_ir.specs.declared.declarations.Structures.{Structures}
use Rattle.dsr_ir.specs.declared.declarations.Spec.{Spec}
use Rattle.dsr_ir.specs.declared.layouts.FieldPlace.{FieldPlace}
use Rattle.dsr_ir.specs.declared.layouts.Layout.{Layout}
use Rattle.dsr_ir.specs.declared.layouts.PoolNumbers.{PoolNumbers}
use Rattle.dsr_meaning.proofs.Empty.{both_empty}
use Rattle.dsr_meaning.specs.Layouts.{collect_at, pool_of, pools_of, places_of, layout_with}
use Rattle.dsr_meaning.specs.Legal.{IsLegalLayout, IsLegalPlace}
use Rattle.dsr_meaning.specs.Places.{size_of}
use Rattle.dsr_meaning.specs.Refusals.{outside_refusals, overlap_refusals, subtype_refusals, zero_refusals, none_refusals, code_refusals, count_refusals, instance_refusals, layout_refusals, head_range}
use Rattle.dsr_meaning.specs.Placeable.{IsPlaceableStructure}
use Rattle.dsr_layout.specs.Pools.{IsComputable}
use Rattle.dsr_layout.proofs.LegalPlaces.{legal_places}
use Rattle.dsr_layout.proofs.LegalPools.{legal_pools, pools_apart}

-- what each part of the refusals says where none is left
pub legal_layout : (size : ℕ → Option ℕ) (spec : Spec) (base : Structures) (layout : Layout) → layout.length ≤ 67108864 → All IsComputable layout.pools → All (All IsLegalPlace) layout.fields → layout_refusals size spec base layout ≡ [] → IsLegalLayout layout
legal_layout size spec base layout small computable places e =
    let after_codes = count_refusals spec layout ++ instance_refusals spec layout in
    let after_none = code_refusals base.structures layout ++ after_codes in
    let after_zero = none_refusals layout ++ after_none in
    let after_subtype = zero_refusals layout ++ after_zero in
    let after_overlap = subtype_refusals size base.sets base.pools layout ++ after_subtype in
    let after_outside = overlap_refusals size base.head layout ++ after_overlap in
    let outside = both_empty (outside_refusals layout) after_outside e in
    let overlap = both_empty (overlap_refusals size base.head layout) after_overlap outside.1 in
    let subtype = both_empty (subtype_refusals size base.sets base.pools layout) after_subtype overlap.1 in
    let zero = both_empty (zero_refusals layout) after_zero subtype.1 in
    let none = both_empty (none_refusals layout) after_none zero.1 in
    record {
      small = small;
      pools = legal_pools layout computable outside.0 zero.0 none.0;
      apart = pools_apart (head_range size base.head) layout overlap.0;
      fields = places;
    }

-- pools and places that are there make the layout
pub layout_is : (fixed size : ℕ → Option ℕ) (base : Structures) (bytes : ℕ) (pools : List PoolNumbers) (fields : List (List FieldPlace)) → size ≡ size_of fixed base.structures → pools_of fixed size base.pools ≡ Some pools → places_of fixed base.structures ≡ Some fields → layout_with fixed base bytes ≡ Some (record { length = bytes; order = base.order; pools = pools; fields = fields })
layout_is fixed size base bytes pools fields same is_pools is_fields =
    ap (λ o. option_and_then (λ fields. option_map (λ pools. record { length = bytes; order = base.order; pools = pools; fields = fields }) (pools_of fixed (size_of fixed base.structures) base.pools)) o) is_fields
    ∙ ap (λ s. option_map (λ pools. record { length = bytes; order = base.order; pools = pools; fields = fields }) (pools_of fixed s base.pools)) (sym same)
    ∙ ap (option_map (λ pools. record { length = bytes; order = base.order; pools = pools; fields = fields })) is_pools

-- and the other way round, a layout has them
pub record IsBuilt (fixed : ℕ → Option ℕ) (base : Structures) (bytes : ℕ) (layout : Layout) : Type 0 where
  pub fields_are : places_of fixed base.structures ≡ Some layout.fields
  pub pools_are : pools_of fixed (size_of fixed base.structures) base.pools ≡ Some layout.pools
  pub bytes_are : bytes ≡ layout.length

pub built : (fixed : ℕ → Option ℕ) (base : Structures) (bytes : ℕ) (layout : Layout) → layout_with fixed base bytes ≡ Some layout → IsBuilt fixed base bytes layout
built fixed base bytes layout is = elim (places_of fixed base.structures) as (λ o. places_of fixed base.structures ≡ o → option_and_then (λ fields. option_map (λ pools. record { length = bytes; order = base.order; pools = pools; fields = fields }) (pools_of fixed (size_of fixed base.structures) base.pools)) o ≡ Some layout → IsBuilt fixed base bytes layout) [
  | None ↦ λ _ h. absurd cc
  | Some fields ↦ λ placed h. elim (pools_of fixed (size_of fixed base.structures) base.pools) as (λ o. pools_of fixed (size_of fixed base.structures) base.pools ≡ o → option_map (λ pools. record { length = bytes; order = base.order; pools = pools; fields = fields }) o ≡ Some layout → IsBuilt fixed base bytes layout) [
    | None ↦ λ _ e. absurd cc
    | Some pools ↦ λ numbered e.
        let made : ◌≡◌ {A = Layout} (record { length = bytes; order = base.order; pools = pools; fields = fields }) layout = cc in
        record { fields_are = placed ∙ ap (λ l. Some l.fields) made; pools_are = numbered ∙ ap (λ l. Some l.pools) made; bytes_are = ap (λ l. l.length) made }
  ] refl h
] refl is

-- there are as many numbers as pools
collect_length : {S T : Type 0} (f : ℕ → S → Option T) (n : ℕ) (xs : List S) → IfSome (collect_at f n xs) (λ ys. length ys ≡ length xs)
collect_length f n [] = refl
collect_length f n (x ∷ xs) = elim (f n x) as (λ o. IfSome (option_and_then (λ y. option_map (λ ys. y ∷ ys) (collect_at f (suc n) xs)) o) (λ ys. length ys ≡ length (x ∷ xs))) [
  | None ↦ tt
  | Some y ↦ elim (collect_at f (suc n) xs) as (λ o. IfSome o (λ ys. length ys ≡ length xs) → IfSome (option_map (λ ys. y ∷ ys) o) (λ ys. length ys ≡ length (x ∷ xs))) [
    | None ↦ λ _. tt
    | Some ys ↦ λ same. ap suc same
  ] (collect_length f (suc n) xs)
]

pub as_many : (fixed size : ℕ → Option ℕ) (ps : List Pool) (pools : List PoolNumbers) → pools_of fixed size ps ≡ Some pools → length pools ≡ length ps
as_many fixed size ps pools is = subst (λ o. IfSome o (λ ys. length ys ≡ length ps)) is (collect_length (λ _ p. pool_of fixed size p) 1 ps)

-- the places of placeable structures are legal
pub all_legal : (fixed : ℕ → Option ℕ) (ss : List Structure) (fields : List (List FieldPlace)) → All IsPlaceableStructure ss → places_of fixed ss ≡ Some fields → All (All IsLegalPlace) fields
all_legal fixed ss fields placeable is = subst (λ o. IfSome o (All (All IsLegalPlace))) is (legal_places fixed ss placeable)
