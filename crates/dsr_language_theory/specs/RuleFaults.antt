-- The faults of rules.
use Rattle.std.specs.Prelude.{ℕ, ◌^◌, Bool, true, false, not, ◌&&◌, ◌||◌, nat_eq, nat_le, nat_lt, List, [], ◌∷◌, ◌++◌, length, Option, None, Some, is_none, is_some, option_map, if◌then◌else◌}
use Rattle.dsr_ir.specs.declared.declarations.Field.{Field}
use Rattle.dsr_ir.specs.declared.declarations.FieldRef.{FieldRef}
use Rattle.dsr_ir.specs.declared.declarations.Rel.{Rel}
use Rattle.dsr_tree.specs.declared.faults.Condition.TheVariants as conditions
use Rattle.dsr_tree.specs.declared.faults.Fault.{Fault}
use Rattle.dsr_tree.specs.declared.tree.Guard.{Guard}
use Rattle.dsr_tree.specs.declared.tree.Guard.TheVariants as guards
use Rattle.dsr_tree.specs.declared.tree.Inclusion.{Inclusion}
use Rattle.dsr_tree.specs.declared.tree.Inclusion.TheVariants as inclusions
use Rattle.dsr_tree.specs.declared.tree.Index.{Index}
use Rattle.dsr_tree.specs.declared.tree.Index.TheVariants as indexes
use Rattle.dsr_tree.specs.declared.tree.MemberPart.{MemberPart}
use Rattle.dsr_tree.specs.declared.tree.MemberPart.TheVariants as parts
use Rattle.dsr_tree.specs.declared.tree.Path.{Path}
use Rattle.dsr_tree.specs.declared.tree.PlacedName.{PlacedName}
use Rattle.dsr_tree.specs.declared.tree.Premise.{Premise}
use Rattle.dsr_tree.specs.declared.tree.Premise.TheVariants as premises
use Rattle.dsr_tree.specs.declared.tree.Rule.{Rule}
use Rattle.dsr_tree.specs.declared.tree.Span.{Span}
use Rattle.dsr_tree.specs.declared.tree.Term.{Term}
use Rattle.dsr_tree.specs.declared.tree.Term.TheVariants as terms
use Rattle.dsr_tree.specs.declared.tree.Var.{Var}
use Rattle.dsr_tree.specs.declared.tree.Var.TheVariants as vars
use Rattle.dsr_meaning.specs.Cells.{width_bits}
use Rattle.dsr_meaning.specs.Instances.{kind_pool}
use Rattle.dsr_meaning.specs.Lists.{each_at}
use Rattle.dsr_language_theory.specs.Declarations.{disagree}
use Rattle.dsr_language_theory.specs.Faults.{when}
use Rattle.dsr_language_theory.specs.Known.{Known, is_nil, pool_named, plain_set, plain_named, relation_named, unknown, is_this, field_length, differ, field_is}
use Rattle.dsr_language_theory.specs.Rules.{Scope, scope_of, guards_of, is_record, field_of, path_field, var_place}
use Rattle.dsr_meaning.specs.Limits.{most_rules}

-- ---- tests of fields

abbrev pub is_number : Field → Bool
is_number f = is_none (kind_pool f.kind)

abbrev pub is_reference : Field → Bool
is_reference f = is_some (kind_pool f.kind)

abbrev pub is_array : Field → Bool
is_array f = is_some f.len

abbrev pub is_scalar : Field → Bool
is_scalar f = is_none f.len

-- a number field has no room for a constant
abbrev pub is_too_narrow : ℕ → Field → Bool
is_too_narrow k f = is_number f && nat_le (2 ^ width_bits f.width) k

-- a field refers to another pool than this one, or is a number
abbrev pub refers_elsewhere : Option ℕ → Field → Bool
refers_elsewhere pool f = is_number f || disagree (kind_pool f.kind) pool

-- a relation's targets aren't what the field has: references to their pool, or numbers
abbrev pub is_other_target : Option ℕ → Option ℕ → Bool
is_other_target None None = false
is_other_target (Some a) (Some b) = not (nat_eq a b)
is_other_target _ _ = true

-- ---- paths

-- `head` stands where the record has a name
abbrev pub is_other_head : Scope → Var → Bool
is_other_head scope (vars.Head place) = is_some scope.name
is_other_head scope (vars.Name q) = false

-- a variable that isn't the rule's
abbrev pub variable_faults : Scope → PlacedName → List Fault
variable_faults scope q = when (not (is_this scope.name q.name)) conditions.UnknownName q.place

-- a field that the record hasn't got
abbrev pub field_faults : Scope → PlacedName → List Fault
field_faults scope q =
    when (is_some scope.structure && is_none (field_of scope q.name)) conditions.UnknownName q.place

-- the names of a path that stand for nothing; nothing is asked of the fields of another record than
-- the rule's
abbrev pub path_names : Scope → Var → PlacedName → List Fault
path_names scope (vars.Head place) field =
    if is_none scope.name then field_faults scope field else []
path_names scope (vars.Name q) field =
    if is_this scope.name q.name then field_faults scope field else variable_faults scope q

-- an index of another name than the rule's
abbrev pub is_foreign : Scope → Option PlacedName → Bool
is_foreign scope None = false
is_foreign scope (Some k) = not (is_this scope.index k.name)

-- an array is read without index, or under the slots of a pool; a scalar with one
abbrev pub is_misread : Scope → Option FieldRef → Option PlacedName → Bool
is_misread scope field None = field_is scope.known.base is_array field
is_misread scope field (Some k) =
    field_is scope.known.base (λ f. is_scalar f || scope.over_pool) field

-- an array is longer or shorter than what the index runs over
abbrev pub has_other_length : Scope → Option FieldRef → Option PlacedName → Bool
has_other_length scope (Some place) (Some k) =
    is_this scope.index k.name && (not scope.over_pool && differ scope.entries (field_length scope.known.base place))
has_other_length scope _ _ = false

abbrev pub index_faults : Scope → Option FieldRef → Option PlacedName → List Fault
index_faults scope field index =
    when (is_foreign scope index || is_misread scope field index) conditions.BadIndex scope.place
    ++ when (has_other_length scope field index) conditions.LengthMismatch scope.place

-- ---- guards

-- a guard that isn't one of a form, or that compares a reference, or tests a number
abbrev pub path_faults : Scope → Path → List Fault
path_faults scope p =
    path_names scope p.var p.field ++ index_faults scope (path_field scope p.var p.field) p.index

abbrev pub guard_faults : Scope → Guard → List Fault
guard_faults scope (guards.Tested place test path) =
    path_faults scope path
    ++ when
    (is_other_head scope path.var
    || field_is scope.known.base is_number (path_field scope path.var path.field))
    conditions.PoolMismatch place
guard_faults scope (guards.Compared path compare number) =
    path_faults scope path
    ++ (when
    (is_other_head scope path.var
    || field_is scope.known.base is_reference (path_field scope path.var path.field))
    conditions.PoolMismatch (var_place path.var)
    ++ when
    (field_is scope.known.base (is_too_narrow number.number) (path_field scope path.var path.field))
    conditions.Width number.place)

-- ---- inclusions

-- a slot at the rule's index: the index is another one, or it doesn't count the slots of the pool
abbrev pub counts_others : Scope → PlacedName → PlacedName → Bool
counts_others scope pool k =
    is_this scope.index k.name && differ scope.entries (option_map (λ d. d.count) (pool_named scope.known pool.name))

abbrev pub slot_faults : Scope → PlacedName → PlacedName → List Fault
slot_faults scope pool k =
    when (is_foreign scope (Some k)) conditions.BadIndex scope.place
    ++ when (counts_others scope pool k) conditions.LengthMismatch scope.place

-- the source of a pair
abbrev pub term_names : Scope → Term → List Fault
term_names scope (terms.Head place) = []
term_names scope (terms.Named q None) = variable_faults scope q
term_names scope (terms.Named q (Some k)) = unknown (scope.known.pool q.name) q

abbrev pub term_faults : Scope → Term → List Fault
term_faults scope (terms.Named q (Some k)) = slot_faults scope q k
term_faults scope _ = []

-- the pool of the source, where that is known
abbrev pub term_pool : Scope → Term → Option ℕ
term_pool scope (terms.Head place) = if is_none scope.name then Some 0 else None
term_pool scope (terms.Named q None) = if is_this scope.name q.name then scope.pool else None
term_pool scope (terms.Named q (Some k)) = scope.known.pool q.name

-- `head` where the record has a name; a slot with a field that isn't read at the index
abbrev pub is_no_pair : Scope → Term → Path → Bool
is_no_pair scope (terms.Head place) path = is_some scope.name
is_no_pair scope (terms.Named q None) path = false
is_no_pair scope (terms.Named q (Some k)) path =
    is_none path.index && field_is scope.known.base is_scalar (path_field scope path.var path.field)

-- the relation has another source or other targets than the pair
abbrev pub relates_others : Scope → Term → Path → Option Rel → Bool
relates_others scope term path None = false
relates_others scope term path (Some r) =
    disagree (Some r.source) (term_pool scope term)
    || field_is scope.known.base (λ f. is_other_target (kind_pool f.kind) r.target)
    (path_field scope path.var path.field)

abbrev pub pair_mismatches : Scope → Term → Path → Option Rel → Bool
pair_mismatches scope term path rel =
    is_no_pair scope term path || (is_other_head scope path.var || relates_others scope term path rel)

-- the member of a set
abbrev pub member_names : Scope → Var → Option MemberPart → List Fault
member_names scope var (Some (parts.Field field index)) = path_names scope var field
member_names scope (vars.Head place) _ = []
member_names scope (vars.Name q) (Some (parts.Slot k)) = unknown (scope.known.pool q.name) q
member_names scope (vars.Name q) None = variable_faults scope q

-- The indexes of a member. The bracket of `head[k]`, which is no form of a member, isn't asked for
-- the rule's index: nothing is asked of what can't be a member. That of a path under `x in S` is
-- asked.
abbrev pub member_faults : Scope → Var → Option MemberPart → List Fault
member_faults scope var (Some (parts.Field field index)) =
    index_faults scope (path_field scope var field) index
member_faults scope (vars.Name q) (Some (parts.Slot k)) = slot_faults scope q k
member_faults scope _ _ = []

-- the pool of a record or of a slot at the index, where that is known
abbrev pub member_pool : Scope → PlacedName → Option MemberPart → Option ℕ
member_pool scope q (Some (parts.Slot k)) = scope.known.pool q.name
member_pool scope q _ = scope.pool

-- the set, whose pool may be known, has another one than the member, or the member is no record
abbrev pub member_mismatches : Scope → Var → Option MemberPart → Option ℕ → Bool
member_mismatches scope var (Some (parts.Field field index)) pool =
    is_other_head scope var || field_is scope.known.base (refers_elsewhere pool) (path_field scope var field)
member_mismatches scope (vars.Head place) _ pool = true
member_mismatches scope (vars.Name q) part pool = disagree (member_pool scope q part) pool

-- where an inclusion begins
abbrev pub inclusion_place : Inclusion → ℕ
inclusion_place (inclusions.Pair place term path relation) = place
inclusion_place (inclusions.Member member set) = var_place member.var

-- the names of an inclusion that stand for nothing
abbrev pub inclusion_names : Scope → Inclusion → List Fault
inclusion_names scope (inclusions.Pair place term path relation) =
    unknown (scope.known.relation relation.name) relation
    ++ (term_names scope term ++ path_names scope path.var path.field)
inclusion_names scope (inclusions.Member member set) =
    unknown (plain_set scope.known set.name) set ++ member_names scope member.var member.part

-- what is wrong with its indexes
abbrev pub inclusion_indexes : Scope → Inclusion → List Fault
inclusion_indexes scope (inclusions.Pair place term path relation) =
    term_faults scope term ++ index_faults scope (path_field scope path.var path.field) path.index
inclusion_indexes scope (inclusions.Member member set) = member_faults scope member.var member.part

abbrev pub inclusion_mismatches : Scope → Inclusion → Bool
inclusion_mismatches scope (inclusions.Pair place term path relation) =
    pair_mismatches scope term path (relation_named scope.known relation.name)
inclusion_mismatches scope (inclusions.Member member set) =
    member_mismatches scope member.var member.part (option_map (λ s. s.pool) (plain_named scope.known set.name))

-- pools and kinds are asked only where each name stands for something
abbrev pub inclusion_faults : Scope → Inclusion → List Fault
inclusion_faults scope inc =
    inclusion_names scope inc
    ++ (inclusion_indexes scope inc
    ++ when (is_nil (inclusion_names scope inc) && inclusion_mismatches scope inc)
    conditions.PoolMismatch (inclusion_place inc))

-- ---- rules

abbrev pub premise_faults : Known → Premise → List Fault
premise_faults known (premises.Head place) = []
premise_faults known (premises.Member name set) = unknown (plain_set known set.name) set

-- an index over a pool under another premise than `head`, or over a scalar
abbrev pub span_index_faults : Scope → Index → List Fault
span_index_faults scope (indexes.Pool place pool) =
    when (is_some scope.name) conditions.BadIndex scope.place ++ unknown (scope.known.pool pool.name) pool
span_index_faults scope (indexes.Array name) =
    field_faults scope name
    ++ when (field_is scope.known.base is_scalar (field_of scope name.name))
    conditions.BadIndex scope.place

abbrev pub span_faults : Scope → Option Span → List Fault
span_faults scope None = []
span_faults scope (Some span) =
    when (is_this scope.name span.name.name) conditions.NameTwice span.name.place
    ++ span_index_faults scope span.index

-- 128 rules are allowed, and 4 guards in each
abbrev pub rule_faults : Known → ℕ → Rule → List Fault
rule_faults known i r =
    when (nat_eq i most_rules || nat_lt 4 (length (guards_of r.guards))) conditions.Limit r.place
    ++ (premise_faults known r.premise
    ++ (span_faults (scope_of known r) r.span
    ++ (each_at (λ _ g. guard_faults (scope_of known r) g) 0 (guards_of r.guards)
    ++ inclusion_faults (scope_of known r) r.inclusion)))

abbrev pub rules_faults : Known → List Rule → List Fault
rules_faults known rules = each_at (rule_faults known) 0 rules
