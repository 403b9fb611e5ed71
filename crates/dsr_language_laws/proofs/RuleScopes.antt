-- What is known of the record and of the index of a rule without fault.
use Rattle.std.proofs.Common.{◌≡◌, ℕ, Bool, true, false, ◌&&◌, List, [], ◌∷◌, Option, None, Some, IfSome, is_some, is_none, slice_get, option_map, option_and_then, refl, sym, ap, ◌∙◌, subst, true≢false}
use Rattle.std.specs.Prelude.{IsSomeAnd}
use Rattle.std.specs.Option.{option_map_or}
use Rattle.dsr_ir.specs.Exprs.{ExprShape}
use Rattle.dsr_ir.specs.declared.declarations.Field.{Field}
use Rattle.dsr_ir.specs.declared.declarations.FieldRef.{FieldRef}
use Rattle.dsr_ir.specs.declared.declarations.Structures.{Structures}
use Rattle.dsr_ir.specs.declared.rules.Span.TheVariants as spans
use Rattle.dsr_tree.specs.declared.faults.Condition.TheVariants as conditions
use Rattle.dsr_tree.specs.declared.tree.Index.{Index}
use Rattle.dsr_tree.specs.declared.tree.Index.TheVariants as indexes
use Rattle.dsr_tree.specs.declared.tree.PlacedName.{PlacedName}
use Rattle.dsr_tree.specs.declared.tree.Premise.{Premise}
use Rattle.dsr_tree.specs.declared.tree.Premise.TheVariants as premises
use Rattle.dsr_tree.specs.declared.tree.Rule.{Rule}
use Rattle.dsr_tree.specs.declared.tree.Span.{Span}
use Rattle.dsr_meaning.specs.Instances.{pool_of_premise}
use Rattle.dsr_meaning.specs.Typed.{IsPoolNumber, ancestors, pool_at, premise_structure, IsFieldOf, span_length, IsTypedSpan, RunsOver}
use Rattle.dsr_meaning.proofs.Empty.{both_empty}
use Rattle.dsr_language_theory.proofs.Absent.{when_absent}
use Rattle.dsr_language_theory.specs.Known.{known_in, record_field, plain_set, field_length, field_is}
use Rattle.dsr_language_theory.specs.Rules.{Scope, scope_of, premise_set, record_name, record_structure, record_pool, index_name, field_of}
use Rattle.dsr_language_theory.specs.RuleFaults.{is_scalar, field_faults, premise_faults, span_faults}
use Rattle.dsr_language_theory.specs.TypedRules.{number_of, field_in, typed_span}
use Rattle.dsr_language_laws.proofs.FoundNames.{known_value, FoundField, found_field, found_plain, plain_is, found_pool, pool_is}

pub is_some_and : {T : Type 0} (P : T → Type 0) (o : Option T) (x : T) → o ≡ Some x → P x → IsSomeAnd o P
is_some_and P o x e p = subst (λ y. IsSomeAnd y P) (sym e) p

-- what the names of a rule stand for, and the number of its premise's set
abbrev pub scope_in : Structures → Rule → Scope
scope_in base r = scope_of (known_in base) r

abbrev pub premise_in : Structures → Rule → Option ℕ
premise_in base r = premise_set (known_in base) r.premise

-- ---- the record

-- a premise whose set is known
pub record KnownPremise (base : Structures) (p : Premise) : Type 0 where
  pub structure : record_structure (known_in base) p ≡ Some (premise_structure base (premise_set (known_in base) p))
  pub pool : record_pool (known_in base) p ≡ Some (pool_of_premise base (premise_set (known_in base) p))
  pub plain : IfSome (premise_set (known_in base) p) (λ n. IsSomeAnd (slice_get base.sets n) (λ s. s.except ≡ None))
  pub head : is_some (record_name p) ≡ false → premise_set (known_in base) p ≡ None

pub known_premise : (base : Structures) (p : Premise) → premise_faults (known_in base) p ≡ [] → KnownPremise base p
known_premise base (premises.Head place) e = record { structure = refl; pool = refl; plain = tt; head = λ _. refl }
known_premise base (premises.Member name set) e =
    let f = found_plain base set.name (when_absent (is_none (plain_set (known_in base) set.name)) conditions.UnknownName set.place e) in
    let structure : premise_structure base (plain_set (known_in base) set.name) ≡ f.item.structure = ap (premise_structure base) f.found ∙ ap (λ o. option_map_or (λ s. s.structure) o base.head) f.is in
    let pool : pool_of_premise base (plain_set (known_in base) set.name) ≡ f.item.pool = ap (pool_of_premise base) f.found ∙ ap (λ o. option_map_or (λ s. s.pool) o 0) f.is in
    record {
      structure = ap (option_map (λ s. s.structure)) (plain_is base set.name f) ∙ sym (ap Some structure);
      pool = ap (option_map (λ s. s.pool)) (plain_is base set.name f) ∙ sym (ap Some pool);
      plain = subst (λ o. IfSome o (λ n. IsSomeAnd (slice_get base.sets n) (λ s. s.except ≡ None))) (sym f.found) (is_some_and (λ s. s.except ≡ None) (slice_get base.sets f.number) f.item f.is f.plain);
      head = λ h. absurd cc;
    }

-- ---- fields of the record

-- a field of the record
pub record FieldHere (base : Structures) (premise : Option ℕ) (o : Option FieldRef) : Type 0 where
  pub place : FieldRef
  pub field : Field
  pub found : o ≡ Some place
  pub is_field : IsFieldOf base premise place field

-- a test of a field that is known
pub tested : (base : Structures) (premise : Option ℕ) (o : Option FieldRef) (a : FieldHere base premise o) (test : Field → Bool) → field_is base test o ≡ test a.field
tested base premise o a test = ap (field_is base test) a.found ∙ ap (λ d. option_map_or test d false) a.is_field.declared

-- how many entries it has
pub entries_here : (base : Structures) (premise : Option ℕ) (o : Option FieldRef) (a : FieldHere base premise o) → option_and_then (field_length base) o ≡ a.field.len
entries_here base premise o a = ap (option_and_then (field_length base)) a.found ∙ ap (option_and_then (λ f. f.len)) a.is_field.declared

-- it is the one that stands for it
pub place_here : (base : Structures) (premise : Option ℕ) (o : Option FieldRef) (a : FieldHere base premise o) → field_in o ≡ a.place
place_here base premise o a = ap field_in a.found

pub is_field_here : (base : Structures) (premise : Option ℕ) (o : Option FieldRef) (a : FieldHere base premise o) → IsFieldOf base premise (field_in o) a.field
is_field_here base premise o a = subst (λ p. IsFieldOf base premise p a.field) (sym (place_here base premise o a)) a.is_field

found_in : (base : Structures) (q : List ℕ) (structure : Option ℕ) (i : ℕ) → structure ≡ Some i → (is_some structure && is_none (option_and_then (λ j. record_field base j q) structure)) ≡ false → FoundField base (i ∷ ancestors base.structures i) (option_and_then (λ j. record_field base j q) structure)
found_in base q None i is e = absurd cc
found_in base q (Some j) i is e =
    let same : j ≡ i = cc in
    subst (λ k. FoundField base (k ∷ ancestors base.structures k) (record_field base j q)) same (found_field base q (j ∷ ancestors base.structures j) e)

module _ (base : Structures) (r : Rule) (p : KnownPremise base r.premise) where
  -- the field of a name that is no unknown one
  pub field_here : (q : PlacedName) → field_faults (scope_in base r) q ≡ [] → FieldHere base (premise_in base r) (field_of (scope_in base r) q.name)
  field_here q e =
      let scope = scope_in base r in
      let fails = when_absent (is_some scope.structure && is_none (field_of scope q.name)) conditions.UnknownName q.place e in
      let f = found_in base q.name scope.structure (premise_structure base (premise_in base r)) p.structure fails in
      record { place = f.place; field = f.field; found = f.found; is_field = record { declared = f.declared; named = f.named; of_record = f.among } }

-- ---- the index

-- what the index runs over
pub record KnownIndex (base : Structures) (r : Rule) : Type 0 where
  pub count : ExprShape
  pub entries : (scope_in base r).entries ≡ Some count
  pub same : span_length base (typed_span (scope_in base r) r.span) ≡ Some count
  pub array : (scope_in base r).over_pool ≡ false → RunsOver base (typed_span (scope_in base r) r.span) (Some count)

-- a rule whose record and index are known
pub record Grounded (base : Structures) (r : Rule) : Type 0 where
  pub premise : KnownPremise base r.premise
  pub span : IsTypedSpan base (premise_in base r) (typed_span (scope_in base r) r.span)
  pub index : is_some (index_name r.span) ≡ true → KnownIndex base r

abbrev with_span : Rule → Option Span → Rule
with_span r o = record r { span = o }

ground_index : (base : Structures) (r : Rule) (name : PlacedName) (index : Index) → KnownPremise base r.premise → span_faults (scope_of (known_in base) (with_span r (Some (record { name = name; index = index })))) (Some (record { name = name; index = index })) ≡ [] → Grounded base (with_span r (Some (record { name = name; index = index })))
ground_index base r name (indexes.Pool place q) p e =
    let both = both_empty _ _ (both_empty _ _ e).1 in
    let f = found_pool base q.name (when_absent (is_none ((known_in base).pool q.name)) conditions.UnknownName q.place both.1) in
    let number = ap number_of f.found in
    record {
      premise = p;
      span = (p.head (when_absent (is_some (record_name r.premise)) conditions.BadIndex r.place both.0), subst (λ n. IsPoolNumber base n) (sym number) (record { from = f.from; to = f.to }));
      index = λ _. record {
        count = f.item.count;
        entries = ap (option_map (λ d. d.count)) (pool_is base q.name f);
        same = ap (λ n. option_map (λ d. d.count) (pool_at base n)) number ∙ ap (option_map (λ d. d.count)) f.is;
        array = λ h. absurd (true≢false h);
      };
    }
ground_index base r name (indexes.Array q) p e =
    let shape = with_span r (Some (record { name = name; index = indexes.Array q })) in
    let scope = scope_of (known_in base) shape in
    let premise = premise_in base r in
    let both = both_empty _ _ (both_empty _ _ e).1 in
    let a = field_here base shape p q both.0 in
    let o = field_of scope q.name in
    let fails = sym (tested base premise o a is_scalar) ∙ when_absent (field_is base is_scalar o) conditions.BadIndex r.place both.1 in
    let len = known_value a.field.len fails in
    let same : span_length base (spans.Array (field_in o)) ≡ Some len.value = ap (λ d. option_and_then (λ f. f.len) d) (is_field_here base premise o a).declared ∙ len.is in
    record {
      premise = p;
      span = (a.field, is_field_here base premise o a, ap is_some len.is);
      index = λ _. record {
        count = len.value;
        entries = entries_here base premise o a ∙ len.is;
        same = same;
        array = λ _. (refl, same);
      };
    }

ground_span : (base : Structures) (r : Rule) (o : Option Span) → KnownPremise base r.premise → span_faults (scope_of (known_in base) (with_span r o)) o ≡ [] → Grounded base (with_span r o)
ground_span base r None p e = record { premise = p; span = tt; index = λ h. absurd cc }
ground_span base r (Some span) p e = ground_index base r span.name span.index p e

pub grounded : (base : Structures) (r : Rule) → premise_faults (known_in base) r.premise ≡ [] → span_faults (scope_in base r) r.span ≡ [] → Grounded base r
grounded base r e f = ground_span base r r.span (known_premise base r.premise e) f
