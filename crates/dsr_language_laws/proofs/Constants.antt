-- A constant without fault fits each field that gives a value of its relation.
use Rattle.std.proofs.Common.{◌≡◌, ◌<◌, ◌^◌, ℕ, true, false, ◌&&◌, nat_eq, List, [], Option, None, Some, is_none, cond, refl, sym, ap, ◌∙◌, subst, true≢false}
use Rattle.std.proofs.lemmas.Bool.{or_parts, leb-false}
use Rattle.dsr_ir.specs.Rules.{gives, target_of}
use Rattle.dsr_ir.specs.declared.declarations.Field.{Field}
use Rattle.dsr_ir.specs.declared.declarations.Structures.{Structures}
use Rattle.dsr_ir.specs.declared.rules.Path.{Path as TypedPath}
use Rattle.dsr_ir.specs.declared.updates.Symbol.TheVariants as symbols
use Rattle.dsr_tree.specs.Trees.{ConstraintTree}
use Rattle.dsr_tree.specs.declared.faults.Condition.TheVariants as conditions
use Rattle.dsr_tree.specs.declared.tree.Inclusion.{Inclusion}
use Rattle.dsr_tree.specs.declared.tree.Inclusion.TheVariants as inclusions
use Rattle.dsr_tree.specs.declared.tree.MemberPart.{MemberPart}
use Rattle.dsr_tree.specs.declared.tree.MemberPart.TheVariants as parts
use Rattle.dsr_tree.specs.declared.tree.Path.{Path}
use Rattle.dsr_tree.specs.declared.tree.PlacedName.{PlacedName}
use Rattle.dsr_tree.specs.declared.tree.Rule.{Rule}
use Rattle.dsr_tree.specs.declared.tree.Term.{Term}
use Rattle.dsr_tree.specs.declared.tree.Term.TheVariants as terms
use Rattle.dsr_tree.specs.declared.tree.Var.{Var}
use Rattle.dsr_meaning.specs.Cells.{width_bits}
use Rattle.dsr_meaning.specs.Instances.{declared_field}
use Rattle.dsr_meaning.specs.Typed.{FitsValues}
use Rattle.dsr_meaning.proofs.Empty.{both_empty}
use Rattle.dsr_meaning.proofs.Firing.{some_same}
use Rattle.dsr_language_theory.specs.Names.{is_at}
use Rattle.dsr_language_theory.proofs.Absent.{when_absent}
use Rattle.dsr_language_theory.specs.Known.{known_in, is_nil, relation_named, field_is}
use Rattle.dsr_language_theory.specs.Constraints.{inclusion_field, value_field, is_too_narrow, is_too_great}
use Rattle.dsr_language_theory.specs.Rules.{Scope, path_field}
use Rattle.dsr_language_theory.specs.RuleFaults.{is_other_head, path_names, term_names, is_no_pair, relates_others, inclusion_names, inclusion_indexes, inclusion_mismatches, inclusion_faults, rule_faults, rules_faults}
use Rattle.dsr_language_theory.specs.TypedRules.{number_of, path_in, typed_pair, typed_member, typed_inclusion, typed_rule}
use Rattle.dsr_language_laws.specs.Meant.{meant}
use Rattle.dsr_language_laws.proofs.FoundNames.{FoundItem, found_relation}
use Rattle.dsr_language_laws.proofs.Items.{each_in}
use Rattle.dsr_language_laws.proofs.RulePaths.{second_fails, path_here}
use Rattle.dsr_language_laws.proofs.RuleScopes.{FieldHere, tested, place_here, Grounded, scope_in, premise_in}
use Rattle.dsr_language_laws.proofs.TypedRules.{sound_rule}
use Rattle.dsr_meaning.proofs.Items.{in_map, none_of}

-- a pair gives facts of its relation, with the target that its path reads
pair_gives : (scope : Scope) (term : Term) (n rel : ℕ) (p : TypedPath) → gives (symbols.Rel rel) (typed_pair scope term n p) ≡ nat_eq n rel
pair_gives scope (terms.Head place) n rel p = refl
pair_gives scope (terms.Named q None) n rel p = refl
pair_gives scope (terms.Named q (Some k)) n rel p = refl

pair_target : (scope : Scope) (term : Term) (n : ℕ) (p : TypedPath) → target_of (typed_pair scope term n p) ≡ Some p
pair_target scope (terms.Head place) n p = refl
pair_target scope (terms.Named q None) n p = refl
pair_target scope (terms.Named q (Some k)) n p = refl

-- a member gives facts of a set alone
member_gives : (scope : Scope) (set rel : ℕ) (var : Var) (part : Option MemberPart) → gives (symbols.Rel rel) (typed_member scope set var part) ≡ false
member_gives scope set rel var None = refl
member_gives scope set rel var (Some (parts.Field field index)) = refl
member_gives scope set rel var (Some (parts.Slot k)) = refl

-- the relation of a pair, and the field that its path reads
record KnownPair (base : Structures) (r : Rule) (path : Path) (relation : PlacedName) : Type 0 where
  pub found : FoundItem base.rels ((known_in base).relation relation.name)
  pub here : FieldHere base (premise_in base r) (path_field (scope_in base r) path.var path.field)

known_pair : (base : Structures) (r : Rule) (g : Grounded base r) (place : ℕ) (term : Term) (path : Path) (relation : PlacedName) → inclusion_faults (scope_in base r) (inclusions.Pair place term path relation) ≡ [] → KnownPair base r path relation
known_pair base r g place term path relation e =
    let scope = scope_in base r in
    let inc = inclusions.Pair place term path relation in
    let all = both_empty (inclusion_names scope inc) _ e in
    let rest = both_empty (inclusion_indexes scope inc) _ all.1 in
    let fails = second_fails (is_nil (inclusion_names scope inc)) (inclusion_mismatches scope inc) (ap is_nil all.0) (when_absent (is_nil (inclusion_names scope inc) && inclusion_mismatches scope inc) conditions.PoolMismatch place rest.1) in
    let own = (or_parts (is_other_head scope path.var) (relates_others scope term path (relation_named (known_in base) relation.name)) (or_parts (is_no_pair scope term path) _ fails).1).0 in
    let names = both_empty _ _ all.0 in
    let last = both_empty (term_names scope term) (path_names scope path.var path.field) names.1 in
    record {
      found = found_relation base relation.name (when_absent (is_none ((known_in base).relation relation.name)) conditions.UnknownName relation.place names.0);
      here = path_here base r g path.var path.field last.1 own;
    }

module _ (base : Structures) (rel k : ℕ) (path : TypedPath) (f : Field) (r : Rule) (g : Grounded base r) where
  fits_inclusion : (inc : Inclusion) → inclusion_faults (scope_in base r) inc ≡ [] → field_is base (is_too_narrow k) (inclusion_field (known_in base) rel (scope_in base r) inc) ≡ false → gives (symbols.Rel rel) (typed_inclusion (scope_in base r) inc) ≡ true → target_of (typed_inclusion (scope_in base r) inc) ≡ Some path → declared_field base path.field ≡ Some f → k < 2 ^ width_bits f.width
  fits_inclusion (inclusions.Member member set) e small gives_it target declared = absurd (true≢false (sym gives_it ∙ member_gives (scope_in base r) _ rel member.var member.part))
  fits_inclusion (inclusions.Pair place term tree relation) e small gives_it target declared =
      let scope = scope_in base r in
      let number = (known_in base).relation relation.name in
      let o = path_field scope tree.var tree.field in
      let pair = known_pair base r g place term tree relation e in
      let same : nat_eq (number_of number) rel ≡ true = sym (pair_gives scope term (number_of number) rel (path_in scope tree)) ∙ gives_it in
      let at : is_at rel number ≡ true = ap (is_at rel) pair.found.found ∙ (sym (ap (λ n. nat_eq (number_of n) rel) pair.found.found) ∙ same) in
      let fails : field_is base (is_too_narrow k) o ≡ false = sym (ap (λ b. field_is base (is_too_narrow k) (cond b o None)) at) ∙ small in
      let fits = leb-false (2 ^ width_bits pair.here.field.width) k (sym (tested base (premise_in base r) o pair.here (is_too_narrow k)) ∙ fails) in
      let is : path_in scope tree ≡ path = some_same (target_of (typed_pair scope term (number_of number) (path_in scope tree))) (path_in scope tree) path (pair_target scope term (number_of number) (path_in scope tree)) target in
      let there : path.field ≡ pair.here.place = sym (ap (λ p. p.field) is) ∙ place_here base (premise_in base r) o pair.here in
      let field : pair.here.field ≡ f = some_same (declared_field base path.field) pair.here.field f (ap (declared_field base) there ∙ pair.here.is_field.declared) declared in
      subst (λ x. k < 2 ^ width_bits x.width) field fits

-- of the relation of a number
pub fits_values : (base : Structures) (rs : List Rule) (constraints : List ConstraintTree) → rules_faults (known_in base) rs ≡ [] → (rel k : ℕ) → is_too_great (known_in base) rs k (Some rel) ≡ false → FitsValues (meant base rs constraints) rel k
fits_values base rs constraints empty rel k e rule path f is gives_it target declared =
    let known = known_in base in
    let m = in_map (typed_rule known) rs rule is in
    let small = none_of (λ r. field_is base (is_too_narrow k) (value_field known rel r)) rs e m.from m.among in
    let none = each_in (rule_faults known) 0 rs empty m.from m.among in
    let sound = sound_rule base none.at m.from none.empty in
    fits_inclusion base rel k path f m.from sound.ground m.from.inclusion sound.inclusion small
    (subst (λ x. gives (symbols.Rel rel) x.inc ≡ true) m.is gives_it)
    (subst (λ x. target_of x.inc ≡ Some path) m.is target)
    declared
