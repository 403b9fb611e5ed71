-- The paths and the guards of a rule without fault are typed.
use Rattle.std.proofs.Common.{◌≡◌, ◌<◌, ◌^◌, ℕ, Bool, true, false, not, ◌&&◌, ◌||◌, nat_le, List, [], Option, None, Some, is_some, is_none, cond, MatchBool, option_and_then, refl, sym, ap, ◌∙◌, subst}
use Rattle.std.proofs.lemmas.Bool.{both_ways, not-false, leb-false, or_parts}
use Rattle.dsr_ir.specs.Exprs.{ExprShape, is_same, is_same_decides}
use Rattle.dsr_ir.specs.declared.declarations.Field.{Field}
use Rattle.dsr_ir.specs.declared.declarations.FieldRef.{FieldRef}
use Rattle.dsr_ir.specs.declared.declarations.Structures.{Structures}
use Rattle.dsr_tree.specs.declared.faults.Condition.TheVariants as conditions
use Rattle.dsr_tree.specs.declared.tree.Guard.{Guard}
use Rattle.dsr_tree.specs.declared.tree.Guard.TheVariants as guards
use Rattle.dsr_tree.specs.declared.tree.PlacedName.{PlacedName}
use Rattle.dsr_tree.specs.declared.tree.RefTest.{RefTest}
use Rattle.dsr_tree.specs.declared.tree.RefTest.TheVariants as ref_tests
use Rattle.dsr_tree.specs.declared.tree.Rule.{Rule}
use Rattle.dsr_tree.specs.declared.tree.Var.{Var}
use Rattle.dsr_tree.specs.declared.tree.Var.TheVariants as vars
use Rattle.dsr_meaning.specs.Cells.{width_bits}
use Rattle.dsr_meaning.specs.Instances.{kind_pool}
use Rattle.dsr_meaning.specs.Typed.{RunsOver, IsTypedTest, IsTypedGuard, Reads}
use Rattle.dsr_meaning.proofs.Empty.{both_empty}
use Rattle.dsr_language_theory.proofs.Absent.{when_absent}
use Rattle.dsr_language_theory.specs.Known.{is_this, field_length, differ, field_is}
use Rattle.dsr_language_theory.specs.Rules.{field_of, path_field, var_place}
use Rattle.dsr_language_theory.specs.RuleFaults.{is_number, is_reference, is_array, is_scalar, is_too_narrow, is_other_head, field_faults, variable_faults, path_names, is_foreign, is_misread, has_other_length, index_faults, path_faults, guard_faults}
use Rattle.dsr_language_theory.specs.TypedRules.{typed_test, typed_path, typed_guard, typed_span, rule_in}
use Rattle.dsr_language_laws.proofs.FoundNames.{known_value}
use Rattle.dsr_language_laws.proofs.RuleScopes.{FieldHere, tested, is_field_here, field_here, Grounded, scope_in, premise_in}

-- ---- tests

pub second_fails : (a b : Bool) → a ≡ true → (a && b) ≡ false → b ≡ false
second_fails true b p e = e
second_fails false b p e = absurd cc

pub no_value : {T : Type 0} (o : Option T) → is_some o ≡ false → o ≡ None
no_value None e = refl
no_value (Some x) e = absurd cc

pub some_value : {T : Type 0} (o : Option T) → is_none o ≡ false → is_some o ≡ true
some_value None e = absurd cc
some_value (Some x) e = refl

some_or_none : {T : Type 0} (o : Option T) → is_none o ≡ false → is_some o ≡ false → ⊥
some_or_none None e h = absurd cc
some_or_none (Some x) e h = absurd cc

pub name_there : (o : Option (List ℕ)) (q : List ℕ) → is_this o q ≡ true → is_some o ≡ true
name_there None q e = absurd cc
name_there (Some name) q e = refl

-- lengths that are known and don't differ are one
pub same_length : (a b : ExprShape) → differ (Some a) (Some b) ≡ false → a ≡ b
same_length a b e = (is_same_decides a b).0 (not-false (is_same a b) e)

-- a test of a reference
ref_test : (test : RefTest) (f : Field) → is_number f ≡ false → IsTypedTest f (typed_test test)
ref_test ref_tests.Legal f e = some_value (kind_pool f.kind) e
ref_test ref_tests.Illegal f e = some_value (kind_pool f.kind) e
ref_test ref_tests.None f e = some_value (kind_pool f.kind) e
ref_test ref_tests.Some f e = some_value (kind_pool f.kind) e

-- a number that a field has room for
fits : (k : ℕ) (f : Field) → is_reference f ≡ false → is_too_narrow k f ≡ false → (kind_pool f.kind ≡ None) × (k < 2 ^ width_bits f.width)
fits k f number wide =
    let none = no_value (kind_pool f.kind) number in (none, leb-false (2 ^ width_bits f.width) k (second_fails (is_number f) (nat_le (2 ^ width_bits f.width) k) (ap is_none none) wide))

module _ (base : Structures) (r : Rule) (g : Grounded base r) where
  -- the field of a path whose names are known
  pub path_here : (var : Var) (field : PlacedName) → path_names (scope_in base r) var field ≡ [] → is_other_head (scope_in base r) var ≡ false → FieldHere base (premise_in base r) (path_field (scope_in base r) var field)
  path_here (vars.Head place) field e own =
      let scope = scope_in base r in
      let premise = premise_in base r in
      elim (is_none scope.name) as (λ b. is_none scope.name ≡ b → cond b (field_faults scope field) [] ≡ [] → FieldHere base premise (cond b (field_of scope field.name) None)) [
        | true ↦ λ _ h. field_here base r g.premise field h
        | false ↦ λ none _. absurd (some_or_none scope.name none own)
      ] refl e
  path_here (vars.Name q) field e own =
      let scope = scope_in base r in
      let premise = premise_in base r in
      elim (is_this scope.name q.name) as (λ b. is_this scope.name q.name ≡ b → cond b (field_faults scope field) (variable_faults scope q) ≡ [] → FieldHere base premise (cond b (field_of scope field.name) None)) [
        | true ↦ λ _ h. field_here base r g.premise field h
        | false ↦ λ other h. absurd (both_ways (is_this scope.name q.name) other (not-false (is_this scope.name q.name) (when_absent (not (is_this scope.name q.name)) conditions.UnknownName q.place h)))
      ] refl e

  -- an array is read at the index, and a scalar without one
  pub index_here : (o : Option FieldRef) (a : FieldHere base (premise_in base r) o) (index : Option PlacedName) → index_faults (scope_in base r) o index ≡ [] → MatchBool (is_some index) (RunsOver base (typed_span (scope_in base r) r.span) a.field.len) (a.field.len ≡ None)
  index_here o a None e =
      let scope = scope_in base r in
      let read = (or_parts (is_foreign scope None) (is_misread scope o None) (when_absent (is_foreign scope None || is_misread scope o None) conditions.BadIndex r.place (both_empty _ _ e).0)).1 in
      no_value a.field.len (sym (tested base (premise_in base r) o a is_array) ∙ read)
  index_here o a (Some k) e =
      let scope = scope_in base r in
      let both = both_empty _ _ e in
      let read = or_parts (is_foreign scope (Some k)) (is_misread scope o (Some k)) (when_absent (is_foreign scope (Some k) || is_misread scope o (Some k)) conditions.BadIndex r.place both.0) in
      let own = not-false (is_this scope.index k.name) read.0 in
      let over = g.index (name_there scope.index k.name own) in
      let parts = or_parts (is_scalar a.field) scope.over_pool (sym (tested base (premise_in base r) o a (λ f. is_scalar f || scope.over_pool)) ∙ read.1) in
      let len = known_value a.field.len parts.0 in
      let test = when_absent (has_other_length scope o (Some k)) conditions.LengthMismatch r.place both.1 in
      let at_place = ap (λ p. has_other_length scope p (Some k)) (sym a.found) ∙ test in
      let array = second_fails (is_this scope.index k.name) (not scope.over_pool && differ scope.entries (field_length base a.place)) own at_place in
      let lengths = second_fails (not scope.over_pool) (differ scope.entries (field_length base a.place)) (ap not parts.1) array in
      let there : field_length base a.place ≡ Some len.value = ap (option_and_then (λ f. f.len)) a.is_field.declared ∙ len.is in
      let counted : differ scope.entries (field_length base a.place) ≡ differ (Some over.count) (Some len.value) = λ i. differ (over.entries i) (there i) in
      let same = same_length over.count len.value (sym counted ∙ lengths) in
      subst (RunsOver base (typed_span scope r.span)) (ap Some same ∙ sym len.is) (over.array parts.1)

  -- a path that refers to a pool, or reads a number
  pub reads_here : (var : Var) (field : PlacedName) (index : Option PlacedName) (a : FieldHere base (premise_in base r) (path_field (scope_in base r) var field)) (pool : Option ℕ) → index_faults (scope_in base r) (path_field (scope_in base r) var field) index ≡ [] → kind_pool a.field.kind ≡ pool → Reads base (rule_in (scope_in base r) r) (typed_path (scope_in base r) var field index) pool
  reads_here var field index a pool e kind =
      let o = path_field (scope_in base r) var field in
      record {
        typed = record { field = a.field; is_field = is_field_here base (premise_in base r) o a; index = index_here o a index e };
        kind = kind;
      }

  -- a guard
  pub guard_here : (guard : Guard) → guard_faults (scope_in base r) guard ≡ [] → IsTypedGuard base (rule_in (scope_in base r) r) (typed_guard (scope_in base r) guard)
  guard_here (guards.Tested place test path) e =
      let scope = scope_in base r in
      let premise = premise_in base r in
      let o = path_field scope path.var path.field in
      let both = both_empty (path_faults scope path) _ e in
      let names = both_empty (path_names scope path.var path.field) (index_faults scope o path.index) both.0 in
      let kinds = or_parts (is_other_head scope path.var) (field_is base is_number o) (when_absent (is_other_head scope path.var || field_is base is_number o) conditions.PoolMismatch place both.1) in
      let a = path_here path.var path.field names.0 kinds.0 in
      record {
        path = record { field = a.field; is_field = is_field_here base premise o a; index = index_here o a path.index names.1 };
        test = ref_test test a.field (sym (tested base premise o a is_number) ∙ kinds.1);
      }
  guard_here (guards.Compared path compare number) e =
      let scope = scope_in base r in
      let premise = premise_in base r in
      let o = path_field scope path.var path.field in
      let both = both_empty (path_faults scope path) _ e in
      let names = both_empty (path_names scope path.var path.field) (index_faults scope o path.index) both.0 in
      let last = both_empty _ _ both.1 in
      let kinds = or_parts (is_other_head scope path.var) (field_is base is_reference o) (when_absent (is_other_head scope path.var || field_is base is_reference o) conditions.PoolMismatch (var_place path.var) last.0) in
      let wide = when_absent (field_is base (is_too_narrow number.number) o) conditions.Width number.place last.1 in
      let a = path_here path.var path.field names.0 kinds.0 in
      record {
        path = record { field = a.field; is_field = is_field_here base premise o a; index = index_here o a path.index names.1 };
        test = fits number.number a.field (sym (tested base premise o a is_reference) ∙ kinds.1) (sym (tested base premise o a (is_too_narrow number.number)) ∙ wide);
      }
