-- The ten kinds of refusals of an image by its layout, in their order.
use Rattle.std.specs.Prelude.{◌≡◌, ℕ, zero, suc, ◌+◌, ◌*◌, ◌^◌, min, max, Bool, true, false, not, ◌&&◌, ◌||◌, nat_eq, nat_lt, List, [], ◌∷◌, ◌++◌, map, length, sum, Option, None, Some, is_none, unwrap_or, slice_get, if◌then◌else◌}
use Rattle.std.specs.Option.{option_map_or}
use Rattle.dsr_ir.specs.Layouts.{pool_numbers, field_place}
use Rattle.dsr_ir.specs.Rules.{gives, target_of}
use Rattle.dsr_ir.specs.declared.declarations.Field.{Field}
use Rattle.dsr_ir.specs.declared.declarations.Structure.{Structure}
use Rattle.dsr_ir.specs.declared.declarations.Pool.{Pool}
use Rattle.dsr_ir.specs.declared.declarations.Structures.{Structures}
use Rattle.dsr_ir.specs.declared.constraints.Atom.{Atom}
use Rattle.dsr_ir.specs.declared.constraints.Atom.TheVariants.{Value}
use Rattle.dsr_ir.specs.declared.constraints.Bound.TheVariants.{Size}
use Rattle.dsr_ir.specs.declared.constraints.Constraint.{Constraint}
use Rattle.dsr_ir.specs.declared.constraints.Measure.{Measure}
use Rattle.dsr_ir.specs.declared.constraints.Measure.TheVariants.{Whole, Out, Into}
use Rattle.dsr_ir.specs.declared.constraints.Quant.{Quant}
use Rattle.dsr_ir.specs.declared.constraints.Quant.TheVariants.{Once, Each, Pairs}
use Rattle.dsr_ir.specs.declared.declarations.SetDecl.{SetDecl}
use Rattle.dsr_ir.specs.declared.declarations.Spec.{Spec}
use Rattle.dsr_ir.specs.declared.layouts.Cell.{Cell}
use Rattle.dsr_ir.specs.declared.layouts.Layout.{Layout}
use Rattle.dsr_ir.specs.declared.layouts.PoolNumbers.{PoolNumbers}
use Rattle.dsr_ir.specs.declared.rules.Inc.{Inc}
use Rattle.dsr_ir.specs.declared.rules.Op.{Op}
use Rattle.dsr_ir.specs.declared.rules.Op.TheVariants.{Eq, Le, Ge}
use Rattle.dsr_ir.specs.declared.rules.Path.{Path}
use Rattle.dsr_ir.specs.declared.rules.Rule.{Rule}
use Rattle.dsr_ir.specs.declared.updates.Symbol.TheVariants.{Set, Rel}
use Rattle.dsr_meaning.specs.Cells.{width_bits}
use Rattle.dsr_meaning.specs.Lists.{any_of, each_at}
use Rattle.dsr_meaning.specs.FixedFields.{head_fields, fixed_cell, fixed_value}
use Rattle.dsr_meaning.specs.Instances.{kind_pool, record_count, set_pool, premise_pool, index_count}
use Rattle.dsr_meaning.specs.Layouts.{bytes_of, pool_of, pool_end, last_code, layout_with, layout_of}
use Rattle.dsr_meaning.specs.Models.{base_of}
use Rattle.dsr_meaning.specs.Places.{size_of}

-- why an image is refused; pools count from 1, and 0 is the head
pub data Refusal : Type 0 where
  Short : Refusal
  Arith : Refusal
  Outside : (pool : ℕ) → Refusal
  Overlap : (first second : ℕ) → Refusal
  Subtype : (pool structure : ℕ) → Refusal
  Zero : (pool : ℕ) → Refusal
  NoneIsCode : (pool : ℕ) → Refusal
  CodeTooWide : (pool structure field : ℕ) → Refusal
  CountTooWide : (constraint : ℕ) → Refusal
  Instances : Refusal

-- the refusal where a test holds
abbrev pub refused_when : Bool → Refusal → List Refusal
refused_when true r = r ∷ []
refused_when false r = []

-- ---- 1: the image ends before the last fixed field does, or before the head does

abbrev pub ends_behind : ℕ → ℕ → ℕ → Bool
ends_behind bytes bit width = nat_lt (8 * bytes) (bit + width)

-- by the cells of the fixed fields
abbrev pub cut_refusals : (ℕ → Option Cell) → List Field → ℕ → List Refusal
cut_refusals cell fields bytes =
    each_at (λ k _. refused_when (option_map_or (λ c. ends_behind bytes c.bit c.width) (cell k) false) Short) 0 fields

-- by the sizes of structures in bits
abbrev pub head_refusals : (ℕ → Option ℕ) → ℕ → ℕ → List Refusal
head_refusals size head bytes =
    refused_when (option_map_or (ends_behind bytes 0) (size head) false) Short

-- ---- 2: an expression, a structure's size in bits, a pool's end or its last code has no value

-- whether the end of a pool has a value, and its last code where it has a slot
abbrev pub is_computable : PoolNumbers → Bool
is_computable n =
    nat_lt (pool_end n) (2 ^ 64) && (nat_eq n.count 0 || nat_lt (last_code n) (2 ^ 64))

abbrev pub size_refusals : (ℕ → Option ℕ) → List Structure → List Refusal
size_refusals size structures = each_at (λ i _. refused_when (is_none (size i)) Arith) 0 structures

abbrev pub value_refusals : (ℕ → Option ℕ) → (ℕ → Option ℕ) → List Pool → List Refusal
value_refusals fixed size pools =
    each_at (λ _ p. refused_when (not (option_map_or is_computable (pool_of fixed size p) false)) Arith) 1 pools

-- ---- 3: a pool ends behind the image

abbrev pub outside_refusals : Layout → List Refusal
outside_refusals layout =
    each_at (λ p n. refused_when (nat_lt layout.length (pool_end n)) (Outside p)) 1 layout.pools

-- ---- 4: the bytes of two pools, or of the head and a pool, share a byte

-- bytes from one on to the one before another
pub record ByteRange : Type 0 where
  pub first : ℕ
  pub behind : ℕ

-- whether some byte lies in both
abbrev pub share_byte : ByteRange → ByteRange → Bool
share_byte a b = nat_lt (max a.first b.first) (min a.behind b.behind)

abbrev pub pool_range : PoolNumbers → ByteRange
pool_range n = record { first = n.start; behind = pool_end n }

abbrev pub head_range : (ℕ → Option ℕ) → ℕ → ByteRange
head_range size head = record { first = 0; behind = unwrap_or (bytes_of size head) 0 }

-- those of each range with the later ones
abbrev pub overlaps : ℕ → List ByteRange → List Refusal
overlaps p [] = []
overlaps p (r ∷ rs) =
    each_at (λ q s. refused_when (share_byte r s) (Overlap p q)) (suc p) rs ++ overlaps (suc p) rs

abbrev pub overlap_refusals : (ℕ → Option ℕ) → ℕ → Layout → List Refusal
overlap_refusals size head layout = overlaps 0 (head_range size head ∷ map pool_range layout.pools)

-- ---- 5: the structure of a pool, or of a set of the pool, is larger than a slot

abbrev pub is_larger : (ℕ → Option ℕ) → Layout → ℕ → ℕ → Bool
is_larger size layout pool structure =
    option_map_or (λ n. option_map_or (nat_lt n.slot) (bytes_of size structure) false)
    (pool_numbers layout pool) false

-- a structure by which a pool is read
abbrev pub view_refusals : (ℕ → Option ℕ) → Layout → ℕ → ℕ → List Refusal
view_refusals size layout pool structure =
    refused_when (is_larger size layout pool structure) (Subtype pool structure)

-- those of the sets of a pool
abbrev pub set_refusals : (ℕ → Option ℕ) → Layout → ℕ → List SetDecl → List Refusal
set_refusals size layout pool sets =
    each_at (λ _ s. if nat_eq s.pool pool then view_refusals size layout pool s.structure else []) 0 sets

abbrev pub subtype_refusals : (ℕ → Option ℕ) → List SetDecl → List Pool → Layout → List Refusal
subtype_refusals size sets pools layout =
    each_at (λ p d. view_refusals size layout p d.structure ++ set_refusals size layout p sets) 1 pools

-- ---- 6: a step or a slot of 0

abbrev pub zero_refusals : Layout → List Refusal
zero_refusals layout =
    each_at (λ p n. refused_when (nat_eq n.step 0 || nat_eq n.slot 0) (Zero p)) 1 layout.pools

-- ---- 7: the code of no slot is the code of a slot

-- whether a value is the code of one of the first slots of a pool
abbrev pub is_code_below : PoolNumbers → ℕ → ℕ → Bool
is_code_below n value zero = false
is_code_below n value (suc slot) =
    nat_eq value (n.code + slot * n.step) || is_code_below n value slot

abbrev pub none_refusals : Layout → List Refusal
none_refusals layout =
    each_at (λ p n. refused_when (is_code_below n n.none n.count) (NoneIsCode p)) 1 layout.pools

-- ---- 8: the code of no slot or the last code doesn't fit a reference to the pool

abbrev pub fits : ℕ → ℕ → Bool
fits bits value = nat_lt value (2 ^ bits)

abbrev pub codes_fit : ℕ → PoolNumbers → Bool
codes_fit bits n = fits bits n.none && (nat_eq n.count 0 || fits bits (last_code n))

abbrev pub reference_refusals : Layout → ℕ → ℕ → Field → List Refusal
reference_refusals layout i k f =
    option_map_or
    (λ p. option_map_or
    (λ n. refused_when (not (codes_fit (width_bits f.width) n)) (CodeTooWide p i k))
    (pool_numbers layout p) [])
    (kind_pool f.kind) []

abbrev pub code_refusals : List Structure → Layout → List Refusal
code_refusals structures layout =
    each_at (λ i s. each_at (reference_refusals layout i) 0 s.fields) 0 structures

-- ---- 9: a count with which values are compared may not fit a field that gives such a value

-- how large a size may be
abbrev pub greatest_size : Spec → Layout → Measure → ℕ
greatest_size spec layout (Whole set) = record_count layout (set_pool spec set)
greatest_size spec layout (Out var rel) =
    option_map_or (λ r. option_map_or (record_count layout) r.target 0) (slice_get spec.base.rels rel) 0
greatest_size spec layout (Into rel var) =
    option_map_or (λ r. record_count layout r.source) (slice_get spec.base.rels rel) 0

-- the field whose value a rule gives to a relation
abbrev pub given_path : ℕ → Inc → Option Path
given_path rel inc = if gives (Rel rel) inc then target_of inc else None

-- whether a rule gives values to a relation from a field that a number doesn't fit
abbrev pub gives_narrower : Layout → ℕ → ℕ → Rule → Bool
gives_narrower layout rel value rule =
    option_map_or
    (λ path. option_map_or (λ place. not (fits (width_bits place.width) value))
    (field_place layout path.field) false)
    (given_path rel rule.inc) false

-- whether a value that a comparison asks for may be as large as what it is compared with
abbrev pub reaches_bound : Op → Bool
reaches_bound Eq = true
reaches_bound Le = true
reaches_bound Ge = true
reaches_bound _ = false

abbrev pub outgrows : Spec → Layout → Atom → Bool
outgrows spec layout (Value var rel op (Size measure)) =
    reaches_bound op && any_of (gives_narrower layout rel (greatest_size spec layout measure)) spec.rules
outgrows spec layout _ = false

abbrev pub constraint_outgrows : Spec → Layout → Constraint → Bool
constraint_outgrows spec layout c =
    any_of (λ conj. any_of (λ l. outgrows spec layout l.atom) conj.literals) c.conjs

abbrev pub count_refusals : Spec → Layout → List Refusal
count_refusals spec layout =
    each_at (λ k c. refused_when (constraint_outgrows spec layout c) (CountTooWide k)) 0 spec.constraints

-- ---- 10: there are too many instances

-- the instances of a rule: the records of its premise's pool times the entries of its index
abbrev pub rule_instances : Spec → Layout → Rule → ℕ
rule_instances spec layout r = record_count layout (premise_pool spec r) * index_count layout r.span

-- the instances of all rules whose inclusion passes a test
abbrev pub instances_where : Spec → Layout → (Inc → Bool) → List Rule → ℕ
instances_where spec layout test rules =
    sum (map (λ r. if test r.inc then rule_instances spec layout r else 0) rules)

-- the slots of a complement's pool, or the instances of the rules of another set
abbrev pub member_instances : Spec → Layout → ℕ → Option ℕ → ℕ
member_instances spec layout set (Some base) = record_count layout (set_pool spec set)
member_instances spec layout set None = instances_where spec layout (gives (Set set)) spec.rules

-- those of a quantifier's symbol
abbrev pub quantifier_instances : Spec → Layout → Quant → ℕ
quantifier_instances spec layout Once = 0
quantifier_instances spec layout (Each set) = member_instances spec layout set (base_of spec set)
quantifier_instances spec layout (Pairs rel) =
    instances_where spec layout (gives (Rel rel)) spec.rules

-- those of all rules, and once more for each constraint those of its quantifier's symbol
abbrev pub instances : Spec → Layout → ℕ
instances spec layout =
    instances_where spec layout (λ _. true) spec.rules
    + sum (map (λ c. quantifier_instances spec layout c.quant) spec.constraints)

-- how many there may be
abbrev pub instance_limit : ℕ → ℕ
instance_limit version = if nat_eq version 2 then 16777216 else 4194304

abbrev pub instance_refusals : Spec → Layout → List Refusal
instance_refusals spec layout =
    refused_when (nat_lt (instance_limit spec.base.version) (instances spec layout)) Instances

-- ---- all of them

-- those of a layout whose numbers all have values
abbrev pub layout_refusals : (ℕ → Option ℕ) → Spec → Structures → Layout → List Refusal
layout_refusals size spec base layout =
    outside_refusals layout
    ++ (overlap_refusals size base.head layout
    ++ (subtype_refusals size base.sets base.pools layout
    ++ (zero_refusals layout
    ++ (none_refusals layout
    ++ (code_refusals base.structures layout
    ++ (count_refusals spec layout
    ++ instance_refusals spec layout))))))

abbrev pub refusals_with : (ℕ → Option ℕ) → (ℕ → Option ℕ) → Spec → Structures → ℕ → List Refusal
refusals_with fixed size spec base bytes =
    cut_refusals (fixed_cell base) (head_fields base) bytes
    ++ (head_refusals size base.head bytes
    ++ (size_refusals size base.structures
    ++ (value_refusals fixed size base.pools
    ++ option_map_or (layout_refusals size spec base) (layout_with fixed base bytes) [])))

abbrev pub refusals_by : (ℕ → Option ℕ) → Spec → Structures → ℕ → List Refusal
refusals_by fixed spec base bytes =
    refusals_with fixed (size_of fixed base.structures) spec base bytes

-- all reasons to refuse an image, in the order of kinds and, in each, of declarations; the first
-- one is told
abbrev pub refusals : Spec → List ℕ → List Refusal
refusals spec bytes = refusals_by (fixed_value spec.base bytes) spec spec.base (length bytes)

abbrev pub first_of : {T : Type 0} → List T → Option T
first_of [] = None
first_of (x ∷ xs) = Some x

-- the layout of a specification on an image: the numbers that its expressions have there, where
-- nothing is refused
pub record IsLayoutOf (spec : Spec) (bytes : List ℕ) (layout : Layout) : Type 0 where
  pub numbers : layout_of spec.base bytes ≡ Some layout
  pub accepted : refusals spec bytes ≡ []
