-- What a scope of the code tells, and what is asked of the parts of a rule.
use Rattle.std.specs.Prelude.{ℕ, Bool, ◌||◌, List, Option, None, Some, option_map}
use Rattle.dsr_ir.specs.declared.declarations.FieldRef.{FieldRef}
use Rattle.dsr_tree.specs.declared.faults.Fault.{Fault}
use Rattle.dsr_tree.specs.declared.tree.Compare.{Compare}
use Rattle.dsr_tree.specs.declared.tree.Guard.{Guard}
use Rattle.dsr_tree.specs.declared.tree.Guard.TheVariants as guards
use Rattle.dsr_tree.specs.declared.tree.Guards.{Guards}
use Rattle.dsr_tree.specs.declared.tree.Inclusion.TheVariants as inclusions
use Rattle.dsr_tree.specs.declared.tree.MemberPart.{MemberPart}
use Rattle.dsr_tree.specs.declared.tree.MemberPart.TheVariants as parts
use Rattle.dsr_tree.specs.declared.tree.Path.{Path}
use Rattle.dsr_tree.specs.declared.tree.PlacedName.{PlacedName}
use Rattle.dsr_tree.specs.declared.tree.PlacedNumber.{PlacedNumber}
use Rattle.dsr_tree.specs.declared.tree.RefTest.{RefTest}
use Rattle.dsr_tree.specs.declared.tree.Term.{Term}
use Rattle.dsr_tree.specs.declared.tree.Var.{Var}
use Rattle.dsr_tree.specs.declared.tree.Var.TheVariants as vars
use Rattle.dsr_meaning.specs.Lists.{each_at}
use Rattle.dsr_names.specs.Tables.{known_of}
use Rattle.dsr_language_theory.specs.Known.{field_is, plain_set, unknown}
use Rattle.dsr_language_theory.specs.RuleFaults.{is_number, is_reference, refers_elsewhere, is_other_head, guard_faults, inclusion_names, inclusion_faults}
use Rattle.dsr_language_theory.specs.Rules.{Scope, guards_of}
use Rattle.dsr_rules.specs.declared.scopes.Scope.{Scope as RuleScope}

-- what the code's scope says
abbrev pub scope_told : RuleScope → Scope
scope_told s = record {
  known = known_of s.known;
  place = s.place;
  name = option_map (λ n. n.now) s.name;
  structure = s.structure;
  pool = s.pool;
  index = option_map (λ n. n.now) s.index;
  over_pool = s.over_pool;
  entries = option_map (λ e. e.now) s.entries;
}

-- ---- guards

-- what a guard tests is no reference of the record, as far as is known; what it compares is no
-- number
abbrev pub is_no_reference : Scope → Var → Option FieldRef → Bool
is_no_reference scope var field =
    is_other_head scope var || field_is scope.known.base is_number field

abbrev pub is_no_number : Scope → Var → Option FieldRef → Bool
is_no_number scope var field =
    is_other_head scope var || field_is scope.known.base is_reference field

-- the faults of a guard of each form
abbrev pub tested_faults : Scope → ℕ → RefTest → Path → List Fault
tested_faults scope place test path = guard_faults scope (guards.Tested place test path)

abbrev pub compared_faults : Scope → Path → Compare → PlacedNumber → List Fault
compared_faults scope path compare number = guard_faults scope (guards.Compared path compare number)

-- the faults of the guards behind the first one, and of all guards
abbrev pub more_guards_faults : Scope → List Guard → List Fault
more_guards_faults scope rest = each_at (λ _ g. guard_faults scope g) 1 rest

abbrev pub guards_faults : Scope → Option Guards → List Fault
guards_faults scope given = each_at (λ _ g. guard_faults scope g) 0 (guards_of given)

-- ---- pairs

-- the names of a pair that stand for nothing, and all its faults
abbrev pub pair_names : Scope → Term → Path → PlacedName → List Fault
pair_names scope term path relation = inclusion_names scope (inclusions.Pair 0 term path relation)

abbrev pub pair_faults : Scope → ℕ → Term → Path → PlacedName → List Fault
pair_faults scope place term path relation =
    inclusion_faults scope (inclusions.Pair place term path relation)

-- ---- members

-- the set in which a member is said to be
abbrev pub set_names : Scope → PlacedName → List Fault
set_names scope set = unknown (plain_set scope.known set.name) set

-- the names of a member that stand for nothing, and all its faults
abbrev pub names_of_member : Scope → Var → Option MemberPart → PlacedName → List Fault
names_of_member scope var part set =
    inclusion_names scope (inclusions.Member (record { var = var; part = part }) set)

abbrev pub faults_of_member : Scope → Var → Option MemberPart → PlacedName → List Fault
faults_of_member scope var part set =
    inclusion_faults scope (inclusions.Member (record { var = var; part = part }) set)

-- of the target of a reference
abbrev pub target_names : Scope → Var → PlacedName → Option PlacedName → PlacedName → List Fault
target_names scope var field index set =
    names_of_member scope var (Some (parts.Field field index)) set

abbrev pub target_faults : Scope → Var → PlacedName → Option PlacedName → PlacedName → List Fault
target_faults scope var field index set =
    faults_of_member scope var (Some (parts.Field field index)) set

-- a path leads to no record of a pool, as far as is known
abbrev pub leads_elsewhere : Scope → Var → Option FieldRef → Option ℕ → Bool
leads_elsewhere scope var field pool =
    is_other_head scope var || field_is scope.known.base (refers_elsewhere pool) field

-- of the slot of a pool at an index
abbrev pub slot_names : Scope → PlacedName → PlacedName → PlacedName → List Fault
slot_names scope pool index set =
    names_of_member scope (vars.Name pool) (Some (parts.Slot index)) set

abbrev pub slot_member_faults : Scope → Var → PlacedName → PlacedName → List Fault
slot_member_faults scope var index set = faults_of_member scope var (Some (parts.Slot index)) set

-- of the rule's record
abbrev pub record_names : Scope → PlacedName → PlacedName → List Fault
record_names scope name set = names_of_member scope (vars.Name name) None set

abbrev pub own_faults : Scope → Var → PlacedName → List Fault
own_faults scope var set = faults_of_member scope var None set
