-- The sizes of a constraint without fault are typed.
use Rattle.std.proofs.Common.{◌≡◌, ◌<◌, ℕ, Bool, true, false, ◌&&◌, ◌||◌, [], length, Option, None, Some, is_some, is_none, cond, slice_get, refl, sym, ap, ◌∙◌, subst, true≢false}
use Rattle.std.specs.Prelude.{IsSome}
use Rattle.std.specs.Option.{option_map_or}
use Rattle.std.proofs.lemmas.Bool.{and_parts}
use Rattle.std.proofs.lemmas.Option.{slice_get_within}
use Rattle.dsr_ir.specs.declared.constraints.Measure.{Measure}
use Rattle.dsr_ir.specs.declared.constraints.Measure.TheVariants as measures
use Rattle.dsr_ir.specs.declared.declarations.Rel.{Rel}
use Rattle.dsr_ir.specs.declared.declarations.Structures.{Structures}
use Rattle.dsr_tree.specs.declared.faults.Condition.TheVariants as conditions
use Rattle.dsr_tree.specs.declared.tree.PlacedName.{PlacedName}
use Rattle.dsr_tree.specs.declared.tree.Quantifier.{Quantifier}
use Rattle.dsr_tree.specs.declared.tree.Var.{Var}
use Rattle.dsr_tree.specs.declared.tree.Var.TheVariants as vars
use Rattle.dsr_meaning.specs.Typed.{IsTypedMeasure, CountsRecords, pool_of_var}
use Rattle.dsr_language_theory.specs.Faults.{when}
use Rattle.dsr_language_theory.proofs.Absent.{when_absent}
use Rattle.dsr_language_theory.specs.Known.{known_in, relation_named}
use Rattle.dsr_language_theory.specs.Constraints.{pool_of, size_names, has_other_source, has_other_targets, relation_at, size_mismatches, counts_numbers}
use Rattle.dsr_language_theory.specs.TypedConstraints.{variable, variable_in, relation_of, counts_targets, counts_sources, typed_size, typed_quant}
use Rattle.dsr_language_theory.specs.TypedRules.{number_of}
use Rattle.dsr_language_laws.proofs.BoundVariables.{Bound, variable_there, binding_in}
use Rattle.dsr_language_laws.proofs.FoundNames.{FoundItem, found_set, found_relation, relation_is}
use Rattle.dsr_language_laws.proofs.RulePaths.{some_value}
use Rattle.dsr_language_laws.proofs.RuleScopes.{is_some_and}
use Rattle.dsr_language_laws.proofs.TypedInclusions.{agree_known, same_target}

not_none : {T : Type 0} (o : Option T) → is_some o ≡ true → is_none o ≡ false
not_none None e = absurd (true≢false (sym e))
not_none (Some x) e = refl

-- a relation's source is the pool of a variable
pub source_is : (r : Option Rel) (item : Rel) (pool : Option ℕ) (p : ℕ) → r ≡ Some item → pool ≡ Some p → has_other_source r pool ≡ false → p ≡ item.source
source_is r item pool p is known e = agree_known pool (Some item.source) p item.source known refl (sym (ap (λ o. has_other_source o pool) is) ∙ e)

-- its targets are
pub targets_are : (r : Option Rel) (item : Rel) (pool : Option ℕ) (p : ℕ) → r ≡ Some item → pool ≡ Some p → has_other_targets r pool ≡ false → Some p ≡ item.target
targets_are r item pool p is known e =
    let both : has_other_targets r pool ≡ has_other_targets (Some item) (Some p) = λ i. has_other_targets (is i) (known i) in
    same_target (Some p) item.target (sym both ∙ e)

-- what a number of a name stands for
pub number_at : (base : Structures) (number : Option ℕ) (f : FoundItem base.rels number) → slice_get base.rels (number_of number) ≡ Some f.item
number_at base number f = ap (λ n. slice_get base.rels (number_of n)) f.found ∙ f.is

module _ (base : Structures) (quantifier : Option Quantifier) (b : Bound base quantifier) where
  pub record IsTypedSize (measure : Measure) (counts : Bool) : Type 0 where
    pub typed : IsTypedMeasure base (typed_quant (binding_in base quantifier)) measure
    pub records : counts ≡ false → CountsRecords base measure

  -- the targets of a variable
  targets_size : (a : Var) (q : PlacedName) → counts_targets (binding_in base quantifier) a q ≡ true → has_other_source (relation_named (known_in base) q.name) (pool_of (binding_in base quantifier) a) ≡ false → IsTypedSize (measures.Out (variable_in (binding_in base quantifier) a) (number_of ((known_in base).relation q.name))) (counts_numbers (binding_in base quantifier) a (Some q))
  targets_size a q is e =
      let scope = binding_in base quantifier in
      let both = and_parts (is_some (variable scope a)) (is_some ((known_in base).relation q.name)) is in
      let v = variable_there base quantifier b a both.0 in
      let f = found_relation base q.name (not_none ((known_in base).relation q.name) both.1) in
      let at = number_at base ((known_in base).relation q.name) f in
      let source = source_is (relation_named (known_in base) q.name) f.item (pool_of scope a) v.pool (relation_is base q.name f) v.asked e in
      record {
        typed = is_some_and (λ r. pool_of_var base (typed_quant scope) (variable_in scope a) ≡ Some r.source) (slice_get base.rels (number_of ((known_in base).relation q.name))) f.item at (v.typed ∙ ap Some source);
        records = λ numbers.
            let none : is_none f.item.target ≡ false = sym ((λ i. is i && option_map_or (λ r. is_none r.target) (relation_is base q.name f i) false)) ∙ numbers in
            is_some_and (λ r. IsSome r.target) (slice_get base.rels (number_of ((known_in base).relation q.name))) f.item at (some_value f.item.target none);
      }

  -- the sources of a variable
  sources_size : (a : Var) (q : PlacedName) → counts_sources (binding_in base quantifier) a q ≡ true → has_other_targets (relation_at (known_in base) a) (pool_of (binding_in base quantifier) (vars.Name q)) ≡ false → IsTypedSize (measures.Into (number_of (relation_of (known_in base) a)) (variable_in (binding_in base quantifier) (vars.Name q))) (counts_numbers (binding_in base quantifier) a (Some q))
  sources_size (vars.Head place) q is e = absurd (true≢false (sym is))
  sources_size (vars.Name a) q is e =
      let scope = binding_in base quantifier in
      let both = and_parts (is_some ((known_in base).relation a.name)) (is_some (variable scope (vars.Name q))) is in
      let v = variable_there base quantifier b (vars.Name q) both.1 in
      let f = found_relation base a.name (not_none ((known_in base).relation a.name) both.0) in
      let at = number_at base ((known_in base).relation a.name) f in
      let target = targets_are (relation_named (known_in base) a.name) f.item (pool_of scope (vars.Name q)) v.pool (relation_is base a.name f) v.asked e in
      record {
        typed = is_some_and (λ r. IsSome r.target × (pool_of_var base (typed_quant scope) (variable_in scope (vars.Name q)) ≡ r.target)) (slice_get base.rels (number_of ((known_in base).relation a.name))) f.item at (ap is_some (sym target), v.typed ∙ target);
        records = λ _. tt;
      }

  either_size : (a : Var) (q : PlacedName) → (counts_targets (binding_in base quantifier) a q || counts_sources (binding_in base quantifier) a q) ≡ true → cond (counts_targets (binding_in base quantifier) a q) (has_other_source (relation_named (known_in base) q.name) (pool_of (binding_in base quantifier) a)) (has_other_targets (relation_at (known_in base) a) (pool_of (binding_in base quantifier) (vars.Name q))) ≡ false → IsTypedSize (typed_size (binding_in base quantifier) a (Some q)) (counts_numbers (binding_in base quantifier) a (Some q))
  either_size a q is e =
      let scope = binding_in base quantifier in
      let source = has_other_source (relation_named (known_in base) q.name) (pool_of scope a) in
      let targets = has_other_targets (relation_at (known_in base) a) (pool_of scope (vars.Name q)) in
      let out = measures.Out (variable_in scope a) (number_of ((known_in base).relation q.name)) in
      let into = measures.Into (number_of (relation_of (known_in base) a)) (variable_in scope (vars.Name q)) in
      elim (counts_targets scope a q) as (λ c. counts_targets scope a q ≡ c → (c || counts_sources scope a q) ≡ true → cond c source targets ≡ false → IsTypedSize (cond c out into) (counts_numbers scope a (Some q))) [
        | true ↦ λ counts _ h. targets_size a q counts h
        | false ↦ λ _ counts h. sources_size a q counts h
      ] refl is e

  pub size_is_typed : (a : Var) (part : Option PlacedName) → size_names (binding_in base quantifier) a part ≡ [] → size_mismatches (binding_in base quantifier) a part ≡ false → IsTypedSize (typed_size (binding_in base quantifier) a part) (counts_numbers (binding_in base quantifier) a part)
  size_is_typed (vars.Head place) None names e = absurd (true≢false e)
  size_is_typed (vars.Name a) None names e =
      let f = found_set base a.name (when_absent (is_none ((known_in base).set a.name)) conditions.UnknownName a.place names) in
      record {
        typed = subst (λ n. number_of n < length base.sets) (sym f.found) (slice_get_within base.sets f.at f.item f.is);
        records = λ _. tt;
      }
  size_is_typed (vars.Head place) (Some q) names e =
      let known = some_value ((known_in base).relation q.name) (when_absent (is_none ((known_in base).relation q.name)) conditions.UnknownName q.place names) in
      either_size (vars.Head place) q (ap (λ c. c || counts_sources (binding_in base quantifier) (vars.Head place) q) known) e
  size_is_typed (vars.Name a) (Some q) names e =
      let scope = binding_in base quantifier in
      let place = cond (is_some (variable scope (vars.Name a)) || is_some ((known_in base).relation a.name)) q.place a.place in
      let counts : (counts_targets scope (vars.Name a) q || counts_sources scope (vars.Name a) q) ≡ true =
      elim (counts_targets scope (vars.Name a) q || counts_sources scope (vars.Name a) q) as (λ c. cond c [] (when true conditions.UnknownName place) ≡ [] → c ≡ true) [
        | true ↦ λ _. refl
        | false ↦ λ h. absurd (true≢false (when_absent true conditions.UnknownName place h))
      ] names in
      either_size (vars.Name a) q counts e
