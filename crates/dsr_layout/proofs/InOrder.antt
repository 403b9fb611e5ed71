-- All refusals stand in the order of their kinds.
use Rattle.std.proofs.Common.{◌≡◌, ◌≤◌, ℕ, suc, Bool, true, false, not, ◌||◌, nat_eq, nat_lt, List, [], ◌∷◌, ◌++◌, map, length, Option, None, Some, is_none, if◌then◌else◌, inl, inr, refl, sym, subst, arith}
use Rattle.std.specs.Option.{option_map_or}
use Rattle.dsr_ir.specs.Layouts.{pool_numbers}
use Rattle.dsr_ir.specs.declared.declarations.Field.{Field}
use Rattle.dsr_ir.specs.declared.declarations.Structure.{Structure}
use Rattle.dsr_ir.specs.declared.declarations.Pool.{Pool}
use Rattle.dsr_ir.specs.declared.declarations.Structures.{Structures}
use Rattle.dsr_ir.specs.declared.declarations.SetDecl.{SetDecl}
use Rattle.dsr_ir.specs.declared.declarations.Spec.{Spec}
use Rattle.dsr_ir.specs.declared.layouts.Cell.{Cell}
use Rattle.dsr_ir.specs.declared.layouts.Layout.{Layout}
use Rattle.dsr_layout.specs.Kinds.{kind_of}
use Rattle.dsr_meaning.specs.Cells.{width_bits}
use Rattle.dsr_meaning.specs.Counting.{IsIn}
use Rattle.dsr_meaning.specs.Lists.{each_at}
use Rattle.dsr_meaning.specs.FixedFields.{head_fields, fixed_cell, fixed_value}
use Rattle.dsr_meaning.specs.Instances.{kind_pool}
use Rattle.dsr_meaning.specs.Layouts.{layout_with, pool_end, pool_of}
use Rattle.dsr_meaning.specs.Places.{size_of}
use Rattle.dsr_meaning.specs.Refusals.{Refusal, Short, Arith, Outside, Overlap, Subtype, Zero, NoneIsCode, CodeTooWide, CountTooWide, Instances, refused_when, ends_behind, cut_refusals, head_refusals, size_refusals, is_computable, value_refusals, outside_refusals, ByteRange, share_byte, overlaps, head_range, pool_range, overlap_refusals, is_larger, view_refusals, set_refusals, subtype_refusals, zero_refusals, is_code_below, none_refusals, codes_fit, reference_refusals, code_refusals, constraint_outgrows, count_refusals, instance_limit, instances, instance_refusals, layout_refusals, refusals_with, refusals, first_of}

-- all refusals of a list have one kind
abbrev AreOf : ℕ → List Refusal → Type 0
AreOf k [] = Unit {0}
AreOf k (r ∷ rs) = (kind_of r ≡ k) × AreOf k rs

-- kinds never fall, from one on
abbrev AreInOrder : ℕ → List Refusal → Type 0
AreInOrder k [] = Unit {0}
AreInOrder k (r ∷ rs) = (k ≤ kind_of r) × AreInOrder (kind_of r) rs

when_of : (k : ℕ) (b : Bool) (r : Refusal) → kind_of r ≡ k → AreOf k (refused_when b r)
when_of k true r is = (is, tt)
when_of k false r is = tt

both_of : (k : ℕ) (xs ys : List Refusal) → AreOf k xs → AreOf k ys → AreOf k (xs ++ ys)
both_of k [] ys a b = b
both_of k (x ∷ xs) ys a b = (a.0, both_of k xs ys a.1 b)

each_of : {S : Type 0} (k : ℕ) (f : ℕ → S → List Refusal) → ((n : ℕ) (x : S) → AreOf k (f n x)) → (n : ℕ) (xs : List S) → AreOf k (each_at f n xs)
each_of k f h n [] = tt
each_of k f h n (x ∷ xs) = both_of k (f n x) (each_at f (suc n) xs) (h n x) (each_of k f h (suc n) xs)

lower : (j k : ℕ) (rs : List Refusal) → j ≤ k → AreInOrder k rs → AreInOrder j rs
lower j k [] le rest = tt
lower j k (r ∷ rs) le rest = (omega (arith, le, rest.0), rest.1)

-- refusals of one kind before those of greater ones
in_front : (j k l : ℕ) (xs ys : List Refusal) → j ≤ k → k ≤ l → AreOf k xs → AreInOrder l ys → AreInOrder j (xs ++ ys)
in_front j k l [] ys le le' a b = lower j l ys (omega (arith, le, le')) b
in_front j k l (x ∷ xs) ys le le' a b =
    let here : j ≤ kind_of x = subst (λ n. j ≤ n) (sym a.0) le in
    (here, subst (λ n. AreInOrder n (xs ++ ys)) (sym a.0) (in_front k k l xs ys (omega arith) le' a.1 b))

-- ---- each kind

cut_of : (cell : ℕ → Option Cell) (fields : List Field) (bytes : ℕ) → AreOf 1 (cut_refusals cell fields bytes)
cut_of cell fields bytes = each_of 1 (λ k _. refused_when (option_map_or (λ c. ends_behind bytes c.bit c.width) (cell k) false) Short) (λ k _. when_of 1 (option_map_or (λ c. ends_behind bytes c.bit c.width) (cell k) false) Short refl) 0 fields

size_kind : (size : ℕ → Option ℕ) (structures : List Structure) → AreOf 2 (size_refusals size structures)
size_kind size structures = each_of 2 (λ i _. refused_when (is_none (size i)) Arith) (λ i _. when_of 2 (is_none (size i)) Arith refl) 0 structures

value_kind : (fixed size : ℕ → Option ℕ) (pools : List Pool) → AreOf 2 (value_refusals fixed size pools)
value_kind fixed size pools = each_of 2 (λ _ p. refused_when (not (option_map_or is_computable (pool_of fixed size p) false)) Arith) (λ _ p. when_of 2 (not (option_map_or is_computable (pool_of fixed size p) false)) Arith refl) 1 pools

overlap_kind : (p : ℕ) (rs : List ByteRange) → AreOf 4 (overlaps p rs)
overlap_kind p [] = tt
overlap_kind p (r ∷ rs) =
    both_of 4 (each_at (λ q s. refused_when (share_byte r s) (Overlap p q)) (suc p) rs) (overlaps (suc p) rs)
    (each_of 4 (λ q s. refused_when (share_byte r s) (Overlap p q)) (λ q s. when_of 4 (share_byte r s) (Overlap p q) refl) (suc p) rs)
    (overlap_kind (suc p) rs)

set_kind : (size : ℕ → Option ℕ) (layout : Layout) (pool : ℕ) (n : ℕ) (s : SetDecl) → AreOf 5 (if nat_eq s.pool pool then view_refusals size layout pool s.structure else [])
set_kind size layout pool n s = elim (nat_eq s.pool pool) as (λ b. AreOf 5 (if b then view_refusals size layout pool s.structure else [])) [
  | true ↦ when_of 5 (is_larger size layout pool s.structure) (Subtype pool s.structure) refl
  | false ↦ tt
]

subtype_kind : (size : ℕ → Option ℕ) (sets : List SetDecl) (pools : List Pool) (layout : Layout) → AreOf 5 (subtype_refusals size sets pools layout)
subtype_kind size sets pools layout =
    each_of 5 (λ p d. view_refusals size layout p d.structure ++ set_refusals size layout p sets) (λ p d.
    both_of 5 (view_refusals size layout p d.structure) (set_refusals size layout p sets)
    (when_of 5 (is_larger size layout p d.structure) (Subtype p d.structure) refl)
    (each_of 5 (λ _ s. if nat_eq s.pool p then view_refusals size layout p s.structure else []) (set_kind size layout p) 0 sets)) 1 pools

reference_kind : (layout : Layout) (i k : ℕ) (f : Field) → AreOf 8 (reference_refusals layout i k f)
reference_kind layout i k f = elim (kind_pool f.kind) as (λ o. AreOf 8 (option_map_or (λ p. option_map_or (λ n. refused_when (not (codes_fit (width_bits f.width) n)) (CodeTooWide p i k)) (pool_numbers layout p) []) o [])) [
  | None ↦ tt
  | Some p ↦ elim (pool_numbers layout p) as (λ o. AreOf 8 (option_map_or (λ n. refused_when (not (codes_fit (width_bits f.width) n)) (CodeTooWide p i k)) o [])) [
    | None ↦ tt
    | Some n ↦ when_of 8 (not (codes_fit (width_bits f.width) n)) (CodeTooWide p i k) refl
  ]
]

code_kind : (structures : List Structure) (layout : Layout) → AreOf 8 (code_refusals structures layout)
code_kind structures layout = each_of 8 (λ i s. each_at (reference_refusals layout i) 0 s.fields) (λ i s. each_of 8 (reference_refusals layout i) (reference_kind layout i) 0 s.fields) 0 structures

-- ---- all of them

instances_in_order : (spec : Spec) (layout : Layout) → AreInOrder 10 (instance_refusals spec layout)
instances_in_order spec layout = elim (nat_lt (instance_limit spec.base.version) (instances spec layout)) as (λ b. AreInOrder 10 (refused_when b Instances)) [
  | true ↦ (omega arith, tt)
  | false ↦ tt
]

layout_in_order : (size : ℕ → Option ℕ) (spec : Spec) (base : Structures) (layout : Layout) → AreInOrder 3 (layout_refusals size spec base layout)
layout_in_order size spec base layout =
    let counts = in_front 8 9 10 (count_refusals spec layout) (instance_refusals spec layout) (omega arith) (omega arith) (each_of 9 (λ k c. refused_when (constraint_outgrows spec layout c) (CountTooWide k)) (λ k c. when_of 9 (constraint_outgrows spec layout c) (CountTooWide k) refl) 0 spec.constraints) (instances_in_order spec layout) in
    let after_codes = count_refusals spec layout ++ instance_refusals spec layout in
    let codes = in_front 7 8 8 (code_refusals base.structures layout) after_codes (omega arith) (omega arith) (code_kind base.structures layout) counts in
    let after_none = code_refusals base.structures layout ++ after_codes in
    let none = in_front 6 7 7 (none_refusals layout) after_none (omega arith) (omega arith) (each_of 7 (λ p n. refused_when (is_code_below n n.none n.count) (NoneIsCode p)) (λ p n. when_of 7 (is_code_below n n.none n.count) (NoneIsCode p) refl) 1 layout.pools) codes in
    let after_zero = none_refusals layout ++ after_none in
    let zero = in_front 5 6 6 (zero_refusals layout) after_zero (omega arith) (omega arith) (each_of 6 (λ p n. refused_when (nat_eq n.step 0 || nat_eq n.slot 0) (Zero p)) (λ p n. when_of 6 (nat_eq n.step 0 || nat_eq n.slot 0) (Zero p) refl) 1 layout.pools) none in
    let after_subtype = zero_refusals layout ++ after_zero in
    let subtype = in_front 4 5 5 (subtype_refusals size base.sets base.pools layout) after_subtype (omega arith) (omega arith) (subtype_kind size base.sets base.pools layout) zero in
    let after_overlap = subtype_refusals size base.sets base.pools layout ++ after_subtype in
    let overlap = in_front 3 4 4 (overlap_refusals size base.head layout) after_overlap (omega arith) (omega arith) (overlap_kind 0 (head_range size base.head ∷ map pool_range layout.pools)) subtype in
    let after_outside = overlap_refusals size base.head layout ++ after_overlap in
    in_front 3 3 3 (outside_refusals layout) after_outside (omega arith) (omega arith) (each_of 3 (λ p n. refused_when (nat_lt layout.length (pool_end n)) (Outside p)) (λ p n. when_of 3 (nat_lt layout.length (pool_end n)) (Outside p) refl) 1 layout.pools) overlap

known_in_order : (size : ℕ → Option ℕ) (spec : Spec) (base : Structures) (o : Option Layout) → AreInOrder 3 (option_map_or (layout_refusals size spec base) o [])
known_in_order size spec base None = tt
known_in_order size spec base (Some layout) = layout_in_order size spec base layout

all_in_order : (fixed size : ℕ → Option ℕ) (spec : Spec) (base : Structures) (bytes : ℕ) → AreInOrder 1 (refusals_with fixed size spec base bytes)
all_in_order fixed size spec base bytes =
    let last = option_map_or (layout_refusals size spec base) (layout_with fixed base bytes) [] in
    let values = in_front 2 2 3 (value_refusals fixed size base.pools) last (omega arith) (omega arith) (value_kind fixed size base.pools) (known_in_order size spec base (layout_with fixed base bytes)) in
    let after_sizes = value_refusals fixed size base.pools ++ last in
    let sizes = in_front 1 2 2 (size_refusals size base.structures) after_sizes (omega arith) (omega arith) (size_kind size base.structures) values in
    let after_head = size_refusals size base.structures ++ after_sizes in
    let head = in_front 1 1 1 (head_refusals size base.head bytes) after_head (omega arith) (omega arith) (when_of 1 (option_map_or (ends_behind bytes 0) (size base.head) false) Short refl) sizes in
    in_front 1 1 1 (cut_refusals (fixed_cell base) (head_fields base) bytes) (head_refusals size base.head bytes ++ after_head) (omega arith) (omega arith) (cut_of (fixed_cell base) (head_fields base) bytes) head

-- every one of a list in order has the kind from which it goes on, or a greater one
at_least : (k : ℕ) (rs : List Refusal) → AreInOrder k rs → (s : Refusal) → IsIn s rs → k ≤ kind_of s
at_least k [] order s is = absurd is
at_least k (r ∷ rs) order s (inl same) = subst (λ x. k ≤ kind_of x) (sym same) order.0
at_least k (r ∷ rs) order s (inr later) =
    let behind = at_least (kind_of r) rs order.1 s later in
    omega (arith, order.0, behind)

first_least : (k : ℕ) (rs : List Refusal) → AreInOrder k rs → (r s : Refusal) → first_of rs ≡ Some r → IsIn s rs → kind_of r ≤ kind_of s
first_least k [] order r s is within = absurd cc
first_least k (x ∷ rs) order r s is within =
    let same : x ≡ r = cc in
    subst (λ y. kind_of y ≤ kind_of s) same (at_least (kind_of x) (x ∷ rs) (omega arith, order.1) s within)

-- the refusal that is told has the least kind of all
pub least_kind : (spec : Spec) (bytes : List ℕ) (r s : Refusal) → first_of (refusals spec bytes) ≡ Some r → IsIn s (refusals spec bytes) → kind_of r ≤ kind_of s
least_kind spec bytes r s = first_least 1 (refusals spec bytes) (all_in_order (fixed_value spec.base bytes) (size_of (fixed_value spec.base bytes) spec.base.structures) spec spec.base (length bytes)) r s
