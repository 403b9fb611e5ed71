-- The rules that a text means, where they have no fault.
use Rattle.std.specs.Prelude.{ℕ, List, map, Option, None, Some, is_some, unwrap_or}
use Rattle.dsr_ir.specs.declared.declarations.FieldRef.{FieldRef}
use Rattle.dsr_ir.specs.declared.rules.Guard.{Guard}
use Rattle.dsr_ir.specs.declared.rules.Inc.{Inc}
use Rattle.dsr_ir.specs.declared.rules.Inc.TheVariants as incs
use Rattle.dsr_ir.specs.declared.rules.Op.{Op}
use Rattle.dsr_ir.specs.declared.rules.Op.TheVariants as ops
use Rattle.dsr_ir.specs.declared.rules.Path.{Path}
use Rattle.dsr_ir.specs.declared.rules.Rule.{Rule}
use Rattle.dsr_ir.specs.declared.rules.Span.{Span}
use Rattle.dsr_ir.specs.declared.rules.Span.TheVariants as spans
use Rattle.dsr_ir.specs.declared.rules.Test.{Test}
use Rattle.dsr_ir.specs.declared.rules.Test.TheVariants as tests
use Rattle.dsr_tree.specs.declared.tree.Compare.{Compare}
use Rattle.dsr_tree.specs.declared.tree.Compare.TheVariants as compares
use Rattle.dsr_tree.specs.declared.tree.Guard.{Guard as GuardTree}
use Rattle.dsr_tree.specs.declared.tree.Guard.TheVariants as guards
use Rattle.dsr_tree.specs.declared.tree.Inclusion.{Inclusion}
use Rattle.dsr_tree.specs.declared.tree.Inclusion.TheVariants as inclusions
use Rattle.dsr_tree.specs.declared.tree.Index.{Index}
use Rattle.dsr_tree.specs.declared.tree.Index.TheVariants as indexes
use Rattle.dsr_tree.specs.declared.tree.MemberPart.{MemberPart}
use Rattle.dsr_tree.specs.declared.tree.MemberPart.TheVariants as parts
use Rattle.dsr_tree.specs.declared.tree.Path.{Path as PathTree}
use Rattle.dsr_tree.specs.declared.tree.PlacedName.{PlacedName}
use Rattle.dsr_tree.specs.declared.tree.RefTest.{RefTest}
use Rattle.dsr_tree.specs.declared.tree.RefTest.TheVariants as ref_tests
use Rattle.dsr_tree.specs.declared.tree.Rule.{Rule as RuleTree}
use Rattle.dsr_tree.specs.declared.tree.Span.{Span as SpanTree}
use Rattle.dsr_tree.specs.declared.tree.Term.{Term}
use Rattle.dsr_tree.specs.declared.tree.Term.TheVariants as terms
use Rattle.dsr_tree.specs.declared.tree.Var.{Var}
use Rattle.dsr_tree.specs.declared.tree.Var.TheVariants as vars
use Rattle.dsr_language_theory.specs.Known.{Known, plain_set}
use Rattle.dsr_language_theory.specs.Rules.{Scope, scope_of, guards_of, premise_set, field_of, path_field}

-- without faults each name stands for something; where it doesn't, 0 and this field stand for it
abbrev pub number_of : Option ℕ → ℕ
number_of found = unwrap_or found 0

abbrev pub field_in : Option FieldRef → FieldRef
field_in found = unwrap_or found (record { structure = 0; field = 0 })

abbrev pub pool_in : Known → PlacedName → ℕ
pool_in known q = number_of (known.pool q.name)

-- a comparison of values
abbrev pub typed_compare : Compare → Op
typed_compare compares.Equal = ops.Eq
typed_compare compares.Differs = ops.Ne
typed_compare compares.Less = ops.Lt
typed_compare compares.AtMost = ops.Le
typed_compare compares.Greater = ops.Gt
typed_compare compares.AtLeast = ops.Ge

-- a test of a reference
abbrev pub typed_test : RefTest → Test
typed_test ref_tests.Legal = tests.Legal
typed_test ref_tests.Illegal = tests.Illegal
typed_test ref_tests.None = tests.IsNone
typed_test ref_tests.Some = tests.IsSome

abbrev pub typed_path : Scope → Var → PlacedName → Option PlacedName → Path
typed_path scope var field index =
    record { field = field_in (path_field scope var field); indexed = is_some index }

abbrev pub path_in : Scope → PathTree → Path
path_in scope p = typed_path scope p.var p.field p.index

abbrev pub typed_guard : Scope → GuardTree → Guard
typed_guard scope (guards.Tested place test path) =
    record { path = path_in scope path; test = typed_test test }
typed_guard scope (guards.Compared path compare number) =
    record { path = path_in scope path; test = tests.Cmp (typed_compare compare) number.number }

abbrev pub typed_index : Scope → Index → Span
typed_index scope (indexes.Pool place pool) = spans.Slots (pool_in scope.known pool)
typed_index scope (indexes.Array name) = spans.Array (field_in (field_of scope name.name))

abbrev pub typed_span : Scope → Option SpanTree → Span
typed_span scope None = spans.Single
typed_span scope (Some span) = typed_index scope span.index

-- a pair of the record, or of a slot at the index
abbrev pub typed_pair : Scope → Term → ℕ → Path → Inc
typed_pair scope (terms.Head place) rel path = incs.OwnPair rel path
typed_pair scope (terms.Named q None) rel path = incs.OwnPair rel path
typed_pair scope (terms.Named q (Some k)) rel path = incs.SlotPair rel (pool_in scope.known q) path

-- the pool of a slot
abbrev pub slot_pool : Known → Var → ℕ
slot_pool known (vars.Head place) = 0
slot_pool known (vars.Name q) = pool_in known q

abbrev pub typed_member : Scope → ℕ → Var → Option MemberPart → Inc
typed_member scope set var None = incs.Own set
typed_member scope set var (Some (parts.Field field index)) =
    incs.Target set (typed_path scope var field index)
typed_member scope set var (Some (parts.Slot k)) = incs.Slot set (slot_pool scope.known var)

abbrev pub typed_inclusion : Scope → Inclusion → Inc
typed_inclusion scope (inclusions.Pair place term path relation) =
    typed_pair scope term (number_of (scope.known.relation relation.name)) (path_in scope path)
typed_inclusion scope (inclusions.Member member set) =
    typed_member scope (number_of (plain_set scope.known set.name)) member.var member.part

abbrev pub rule_in : Scope → RuleTree → Rule
rule_in scope r = record {
  premise = premise_set scope.known r.premise;
  span = typed_span scope r.span;
  guards = map (typed_guard scope) (guards_of r.guards);
  inc = typed_inclusion scope r.inclusion;
}

abbrev pub typed_rule : Known → RuleTree → Rule
typed_rule known r = rule_in (scope_of known r) r

abbrev pub typed_rules : Known → List RuleTree → List Rule
typed_rules known rules = map (typed_rule known) rules
