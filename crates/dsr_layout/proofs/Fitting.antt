-- What fits where nothing is refused: the head its image, and structures the slots that they describe.
use Rattle.std.proofs.Common.{◌≡◌, ◌<◌, ◌≤◌, ◌+◌, ◌-◌, ◌*◌, ◌/◌, ◌%◌, ◌^◌, ℕ, Bool, true, false, not, ◌||◌, nat_eq, nat_lt, List, [], ◌++◌, length, Option, None, Some, IfSome, IsSome, IsSomeAnd, is_none, option_map, option_and_then, unwrap_or, slice_get, if◌then◌else◌, refl, sym, ap, ◌∙◌, subst, arith}
use Rattle.std.specs.Option.{option_map_or}
use Rattle.std.proofs.lemmas.Bool.{and_parts, eq-eqb}
use Rattle.std.proofs.lemmas.Bool.Decides.{nat_tests}
use Rattle.dsr_ir.specs.Layouts.{pool_numbers}
use Rattle.dsr_ir.specs.declared.declarations.Field.{Field}
use Rattle.dsr_ir.specs.declared.declarations.FieldRef.{FieldRef}
use Rattle.dsr_ir.specs.declared.declarations.Pool.{Pool}
use Rattle.dsr_ir.specs.declared.declarations.Structure.{Structure}
use Rattle.dsr_ir.specs.declared.declarations.Structures.{Structures}
use Rattle.dsr_ir.specs.declared.declarations.SetDecl.{SetDecl}
use Rattle.dsr_ir.specs.declared.declarations.Spec.{Spec}
use Rattle.dsr_ir.specs.declared.layouts.Layout.{Layout}
use Rattle.dsr_ir.specs.declared.layouts.PoolNumbers.{PoolNumbers}
use Rattle.dsr_meaning.proofs.Empty.{both_empty, second_empty, third_empty, fourth_empty}
use Rattle.dsr_meaning.specs.Cells.{width_bits}
use Rattle.dsr_meaning.specs.Lists.{each_at}
use Rattle.dsr_meaning.specs.Instances.{kind_pool, declared_field}
use Rattle.dsr_meaning.specs.FixedFields.{head_fields, fixed_cell, fixed_value}
use Rattle.dsr_meaning.specs.Layouts.{bytes_of, last_code, pool_of, layout_with, layout_of}
use Rattle.dsr_meaning.specs.Legal.{IsByteOf}
use Rattle.dsr_meaning.specs.Places.{lineage, size_of}
use Rattle.dsr_meaning.specs.References.{IsNoneOf}
use Rattle.dsr_meaning.specs.Typed.{pool_at}
use Rattle.dsr_layout.specs.Laws.{IsByteOfHead}
use Rattle.dsr_meaning.specs.Refusals.{Arith, CodeTooWide, fits, codes_fit, reference_refusals, refused_when, Short, Subtype, ends_behind, cut_refusals, head_range, head_refusals, size_refusals, value_refusals, is_larger, view_refusals, set_refusals, outside_refusals, overlap_refusals, subtype_refusals, zero_refusals, none_refusals, code_refusals, count_refusals, instance_refusals, layout_refusals, refusals}
use Rattle.dsr_layout.proofs.Collecting.{IsOf, collected_item}
use Rattle.dsr_layout.proofs.Enclosed.{sized_end}
use Rattle.dsr_layout.proofs.LegalLayout.{built}
use Rattle.dsr_layout.proofs.LegalPlaces.{ends_at_byte}
use Rattle.dsr_layout.proofs.LegalPools.{codes_below, counted, head_apart_from}
use Rattle.dsr_layout.proofs.Looking.{each_item, quiet}

-- a structure by which a pool is read fits its slot, where that isn't refused
view_fits : (size : ℕ → Option ℕ) (layout : Layout) (p structure : ℕ) (n : PoolNumbers) (bits : ℕ) → view_refusals size layout p structure ≡ [] → pool_numbers layout p ≡ Some n → size structure ≡ Some bits → bits % 8 ≡ 0 → bits ≤ 8 * n.slot
view_fits size layout p structure n bits none numbers sized whole =
    let small : nat_lt n.slot (bits / 8) ≡ false =
    sym (ap (λ o. option_map_or (λ m. option_map_or (nat_lt m.slot) (bytes_of size structure) false) o false) numbers
    ∙ ap (λ o. option_map_or (nat_lt n.slot) (option_map (λ b. b / 8) o) false) sized)
    ∙ quiet (is_larger size layout p structure) (Subtype p structure) none in
    let below : bits / 8 ≤ n.slot = grind (arith, nat_tests) in
    omega (arith, below, whole)

pub not_not : (b : Bool) → not b ≡ false → b ≡ true
not_not true e = refl
not_not false e = absurd cc

-- what isn't missing is there
is_there : (o : Option ℕ) → is_none o ≡ false → IsSome o
is_there None e = absurd cc
is_there (Some n) e = refl

-- a byte of the head is one of its range
byte_of_head : (size : Option ℕ) (at : ℕ) → IsSomeAnd size (λ n. at < n) → at < unwrap_or size 0
byte_of_head None at within = absurd within
byte_of_head (Some n) at within = within

-- a declared pool stands among the pools
pub pool_found : (base : Structures) (p : ℕ) (d : Pool) → pool_at base p ≡ Some d → slice_get base.pools (p - 1) ≡ Some d
pool_found base p d found = elim (nat_eq p 0) as (λ b. (if b then None else slice_get base.pools (p - 1)) ≡ Some d → slice_get base.pools (p - 1) ≡ Some d) [
  | true ↦ λ h. absurd cc
  | false ↦ λ h. h
] found

-- a declared field is one of a structure's
pub record IsFieldAt (base : Structures) (place : FieldRef) (f : Field) : Type 0 where
  pub structure : Structure
  pub structure_is : slice_get base.structures place.structure ≡ Some structure
  pub field_is : slice_get structure.fields place.field ≡ Some f

pub field_found : (base : Structures) (place : FieldRef) (f : Field) → declared_field base place ≡ Some f → IsFieldAt base place f
field_found base place f found = elim (slice_get base.structures place.structure) as (λ o. slice_get base.structures place.structure ≡ o → option_and_then (λ s. slice_get s.fields place.field) o ≡ Some f → IsFieldAt base place f) [
  | None ↦ λ _ h. absurd cc
  | Some s ↦ λ is h. record { structure = s; structure_is = is; field_is = h }
] refl found

-- a code of no slot is one of a pool's numbers
pub record IsNoneIn (layout : Layout) (pool value : ℕ) : Type 0 where
  pub numbers : PoolNumbers
  pub declared : pool_numbers layout pool ≡ Some numbers
  pub value_is : value ≡ numbers.none

pub none_of : (layout : Layout) (pool value : ℕ) → IsNoneOf layout pool value → IsNoneIn layout pool value
none_of layout pool value none = elim (pool_numbers layout pool) as (λ o. pool_numbers layout pool ≡ o → IsSomeAnd o (λ n. value ≡ n.none) → IsNoneIn layout pool value) [
  | None ↦ λ _ h. absurd h
  | Some n ↦ λ is h. record { numbers = n; declared = is; value_is = h }
] refl none

module _ (spec : Spec) (bytes : List ℕ) (none : refusals spec bytes ≡ []) where
  abbrev base : Structures
  base = spec.base

  abbrev fixed : ℕ → Option ℕ
  fixed = fixed_value base bytes

  abbrev size : ℕ → Option ℕ
  size = size_of fixed base.structures

  pub head_fits : (bits : ℕ) → size spec.base.head ≡ Some bits → bits ≤ 8 * length bytes
  head_fits bits sized =
      let rest = size_refusals size base.structures ++ (value_refusals fixed size base.pools ++ option_map_or (layout_refusals size spec base) (layout_with fixed base (length bytes)) []) in
      let whole = second_empty (cut_refusals (fixed_cell base) (head_fields base) (length bytes)) (head_refusals size base.head (length bytes)) rest none in
      let inside : nat_lt (8 * length bytes) (0 + bits) ≡ false =
      sym (ap (λ o. option_map_or (ends_behind (length bytes) 0) o false) sized)
      ∙ quiet (option_map_or (ends_behind (length bytes) 0) (size base.head) false) Short whole in
      grind (arith, nat_tests)

  -- each structure has a size
  pub has_size : (i : ℕ) (s : Structure) → slice_get base.structures i ≡ Some s → IsSome (size i)
  has_size i s found =
      let rest = value_refusals fixed size base.pools ++ option_map_or (layout_refusals size spec base) (layout_with fixed base (length bytes)) [] in
      let sized = third_empty (cut_refusals (fixed_cell base) (head_fields base) (length bytes)) (head_refusals size base.head (length bytes)) (size_refusals size base.structures) rest none in
      is_there (size i) (quiet (is_none (size i)) Arith (each_item (λ j _. refused_when (is_none (size j)) Arith) 0 base.structures sized i i s (omega arith) found))

  size_whole : (structure bits : ℕ) → size structure ≡ Some bits → bits % 8 ≡ 0
  size_whole structure bits sized = subst (λ o. IfSome o (λ e. e % 8 ≡ 0)) (sized_end fixed base.structures structure bits sized) (ends_at_byte fixed (lineage base.structures structure))

  module _ (layout : Layout) (is : layout_of base bytes ≡ Some layout) where
    pub head_fits_layout : (bits : ℕ) → size spec.base.head ≡ Some bits → bits ≤ 8 * layout.length
    head_fits_layout bits sized = omega (arith, head_fits bits sized, (built fixed base (length bytes) layout is).bytes_are)

    pub all_empty : layout_refusals size spec base layout ≡ []
    all_empty =
        let cut = cut_refusals (fixed_cell base) (head_fields base) (length bytes) in
        let head = head_refusals size base.head (length bytes) in
        let sizes = size_refusals size base.structures in
        let values = value_refusals fixed size base.pools in
        let last = option_map_or (layout_refusals size spec base) (layout_with fixed base (length bytes)) [] in
        sym (ap (λ o. option_map_or (layout_refusals size spec base) o []) is) ∙ fourth_empty head sizes values last (both_empty cut (head ++ (sizes ++ (values ++ last))) none).1

    views_empty : subtype_refusals size base.sets base.pools layout ≡ []
    views_empty =
        let rest = zero_refusals layout ++ (none_refusals layout ++ (code_refusals base.structures layout ++ (count_refusals spec layout ++ instance_refusals spec layout))) in
        third_empty (outside_refusals layout) (overlap_refusals size base.head layout) (subtype_refusals size base.sets base.pools layout) rest all_empty

    codes_empty : code_refusals base.structures layout ≡ []
    codes_empty =
        let behind = count_refusals spec layout ++ instance_refusals spec layout in
        let from_zero = zero_refusals layout ++ (none_refusals layout ++ (code_refusals base.structures layout ++ behind)) in
        let after_views = (both_empty (subtype_refusals size base.sets base.pools layout) from_zero (both_empty (overlap_refusals size base.head layout) (subtype_refusals size base.sets base.pools layout ++ from_zero) (both_empty (outside_refusals layout) (overlap_refusals size base.head layout ++ (subtype_refusals size base.sets base.pools layout ++ from_zero)) all_empty).1).1).1 in
        third_empty (zero_refusals layout) (none_refusals layout) (code_refusals base.structures layout) behind after_views

    ranges_empty : overlap_refusals size base.head layout ≡ []
    ranges_empty = second_empty (outside_refusals layout) (overlap_refusals size base.head layout) (subtype_refusals size base.sets base.pools layout ++ (zero_refusals layout ++ (none_refusals layout ++ (code_refusals base.structures layout ++ (count_refusals spec layout ++ instance_refusals spec layout))))) all_empty

    pub head_apart : (p : ℕ) (n : PoolNumbers) → pool_numbers layout p ≡ Some n → (at : ℕ) → IsByteOfHead base bytes at → IsByteOf n at → ⊥
    head_apart p n numbers at in_head in_pool = head_apart_from (head_range size base.head) layout ranges_empty p at n numbers (omega arith, byte_of_head (bytes_of size base.head) at in_head) in_pool

    -- the codes of a pool fit the fields that refer to it
    module _ (i k p : ℕ) (s : Structure) (f : Field) (n : PoolNumbers) (found_s : slice_get base.structures i ≡ Some s) (found_f : slice_get s.fields k ≡ Some f) (refers : kind_pool f.kind ≡ Some p) (numbers : pool_numbers layout p ≡ Some n) where
      codes_told : codes_fit (width_bits f.width) n ≡ true
      codes_told =
          let own = each_item (λ j t. each_at (reference_refusals layout j) 0 t.fields) 0 base.structures codes_empty i i s (omega arith) found_s in
          let one = each_item (reference_refusals layout i) 0 s.fields own k k f (omega arith) found_f in
          let known : refused_when (not (codes_fit (width_bits f.width) n)) (CodeTooWide p i k) ≡ [] =
          sym (ap (λ o. option_map_or (λ q. option_map_or (λ m. refused_when (not (codes_fit (width_bits f.width) m)) (CodeTooWide q i k)) (pool_numbers layout q) []) o []) refers
          ∙ ap (λ o. option_map_or (λ m. refused_when (not (codes_fit (width_bits f.width) m)) (CodeTooWide p i k)) o []) numbers)
          ∙ one in
          not_not (codes_fit (width_bits f.width) n) (quiet (not (codes_fit (width_bits f.width) n)) (CodeTooWide p i k) known)

      pub none_fits : n.none < 2 ^ width_bits f.width
      none_fits =
          let fits_it = (and_parts (fits (width_bits f.width) n.none) (nat_eq n.count 0 || fits (width_bits f.width) (last_code n)) codes_told).0 in
          grind (arith, nat_tests)

      pub code_fits : (slot : ℕ) → slot < n.count → n.code + slot * n.step < 2 ^ width_bits f.width
      code_fits = codes_below n (2 ^ width_bits f.width) (and_parts (fits (width_bits f.width) n.none) (nat_eq n.count 0 || fits (width_bits f.width) (last_code n)) codes_told).1

    module _ (p : ℕ) (n : PoolNumbers) (numbers : pool_numbers layout p ≡ Some n) where
      pool_empty : (d : Pool) → slice_get base.pools (p - 1) ≡ Some d → (view_refusals size layout p d.structure ≡ []) × (set_refusals size layout p base.sets ≡ [])
      pool_empty d found = both_empty (view_refusals size layout p d.structure) (set_refusals size layout p base.sets) (each_item (λ q e. view_refusals size layout q e.structure ++ set_refusals size layout q base.sets) 1 base.pools views_empty (p - 1) p d (counted layout p n numbers).0 found)

      pub pool_fits : (d : Pool) (bits : ℕ) → slice_get base.pools (p - 1) ≡ Some d → size d.structure ≡ Some bits → bits ≤ 8 * n.slot
      pool_fits d bits found sized = view_fits size layout p d.structure n bits (pool_empty d found).0 numbers sized (size_whole d.structure bits sized)

      -- the pool is declared
      declared : IsOf (λ _ d. pool_of fixed size d) base.pools (p - 1) p n
      declared =
          let at = counted layout p n numbers in
          collected_item (λ _ d. pool_of fixed size d) 1 base.pools layout.pools (built fixed base (length bytes) layout is).pools_are (p - 1) p n at.0 at.1

      pub set_fits : (k : ℕ) (s : SetDecl) (bits : ℕ) → slice_get base.sets k ≡ Some s → s.pool ≡ p → size s.structure ≡ Some bits → bits ≤ 8 * n.slot
      set_fits k s bits found of sized =
          let sets = (pool_empty declared.item declared.item_is).1 in
          let one = each_item (λ _ t. if nat_eq t.pool p then view_refusals size layout p t.structure else []) 0 base.sets sets k k s (omega arith) found in
          let own : view_refusals size layout p s.structure ≡ [] = sym (ap (λ b. if b then view_refusals size layout p s.structure else []) (eq-eqb s.pool p of)) ∙ one in
          view_fits size layout p s.structure n bits own numbers sized (size_whole s.structure bits sized)
