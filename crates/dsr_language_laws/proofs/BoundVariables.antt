-- What is bound by a quantifier without fault, and the pools of its variables.
use Rattle.std.proofs.Common.{◌≡◌, ℕ, true, false, List, [], Option, None, Some, is_some, is_none, unwrap_or, cond, slice_get, option_map, option_and_then, refl, sym, ap, ◌∙◌, subst, true≢false}
use Rattle.std.specs.Prelude.{IsSome}
use Rattle.std.specs.Option.{option_map_or}
use Rattle.std.specs.Str.{bytes_eq}
use Rattle.std.proofs.lemmas.Option.{slice_get_within}
use Rattle.dsr_ir.specs.declared.constraints.Quant.TheVariants as quants
use Rattle.dsr_ir.specs.declared.constraints.Var.{Var}
use Rattle.dsr_ir.specs.declared.constraints.Var.TheVariants as vars
use Rattle.dsr_ir.specs.declared.declarations.Structures.{Structures}
use Rattle.dsr_tree.specs.declared.faults.Condition.TheVariants as conditions
use Rattle.dsr_tree.specs.declared.tree.Binder.{Binder}
use Rattle.dsr_tree.specs.declared.tree.Binder.TheVariants as binders
use Rattle.dsr_tree.specs.declared.tree.PlacedName.{PlacedName}
use Rattle.dsr_tree.specs.declared.tree.Quantifier.{Quantifier}
use Rattle.dsr_tree.specs.declared.tree.Var.{Var as VarTree}
use Rattle.dsr_tree.specs.declared.tree.Var.TheVariants as var_trees
use Rattle.dsr_meaning.specs.Typed.{IsTypedQuant, pool_of_var}
use Rattle.dsr_meaning.proofs.Empty.{both_empty}
use Rattle.dsr_language_theory.proofs.Absent.{when_absent}
use Rattle.dsr_language_theory.specs.Known.{known_in}
use Rattle.dsr_language_theory.specs.Constraints.{var_pool, variable_faults, gives_numbers, binder_faults, quantifier_faults}
use Rattle.dsr_language_theory.specs.TypedConstraints.{Scope, scope_of, named_variable, variable, typed_quant}
use Rattle.dsr_language_laws.proofs.FoundNames.{known_value, FoundItem, found_set, found_relation, relation_is}
use Rattle.dsr_language_laws.proofs.RulePaths.{some_value}
use Rattle.dsr_language_laws.proofs.RuleScopes.{is_some_and}

-- what the variables of a quantifier stand for
abbrev pub binding_in : Structures → Option Quantifier → Scope
binding_in base quantifier = scope_of (known_in base) quantifier

-- a variable that is bound, with its pool
pub record VarOf (base : Structures) (scope : Scope) (o : Option Var) : Type 0 where
  pub pool : ℕ
  pub asked : var_pool scope o ≡ Some pool
  pub typed : pool_of_var base (typed_quant scope) (unwrap_or o vars.Head) ≡ Some pool

-- a quantifier that binds something
pub record Bound (base : Structures) (quantifier : Option Quantifier) : Type 0 where
  pub typed : IsTypedQuant base (typed_quant (binding_in base quantifier))
  pub variables : (q : List ℕ) → is_some (named_variable (binding_in base quantifier).binder q) ≡ true → VarOf base (binding_in base quantifier) (named_variable (binding_in base quantifier).binder q)

module _ (base : Structures) (place : ℕ) (symbol : PlacedName) where
  abbrev over : Binder → Option Quantifier
  over binder = Some (record { place = place; binder = binder; symbol = symbol })

  -- members of a set
  bound_one : (name : PlacedName) → FoundItem base.sets ((known_in base).set symbol.name) → Bound base (over (binders.One name))
  bound_one name f =
      let scope = scope_of (known_in base) (over (binders.One name)) in
      let is : scope.quant ≡ Some (quants.Each f.at) = ap (option_map quants.Each) f.found in
      let pool : pool_of_var base (quants.Each f.at) vars.First ≡ Some f.item.pool = ap (option_map (λ s. s.pool)) f.is in
      let first : VarOf base scope (Some vars.First) = record {
        pool = f.item.pool;
        asked = ap (option_and_then (λ q. pool_of_var base q vars.First)) is ∙ pool;
        typed = ap (λ o. pool_of_var base (unwrap_or o quants.Once) vars.First) is ∙ pool;
      } in
      record {
        typed = subst (λ o. IsTypedQuant base (unwrap_or o quants.Once)) (sym is) (slice_get_within base.sets f.at f.item f.is);
        variables = λ q. elim (bytes_eq name.name q) as (λ b. is_some (cond b (Some vars.First) None) ≡ true → VarOf base scope (cond b (Some vars.First) None)) [
          | true ↦ λ _. first
          | false ↦ λ h. absurd (true≢false (sym h))
        ];
      }

  -- pairs of records
  bound_pair : (at : ℕ) (one other : PlacedName) (f : FoundItem base.rels ((known_in base).relation symbol.name)) → is_none f.item.target ≡ false → Bound base (over (binders.Pair at one other))
  bound_pair at one other f records =
      let scope = scope_of (known_in base) (over (binders.Pair at one other)) in
      let is : scope.quant ≡ Some (quants.Pairs f.at) = ap (option_map quants.Pairs) f.found in
      let target = known_value f.item.target records in
      let source : pool_of_var base (quants.Pairs f.at) vars.First ≡ Some f.item.source = ap (option_map (λ r. r.source)) f.is in
      let sink : pool_of_var base (quants.Pairs f.at) vars.Second ≡ Some target.value = ap (option_and_then (λ r. r.target)) f.is ∙ target.is in
      let first : VarOf base scope (Some vars.First) = record {
        pool = f.item.source;
        asked = ap (option_and_then (λ q. pool_of_var base q vars.First)) is ∙ source;
        typed = ap (λ o. pool_of_var base (unwrap_or o quants.Once) vars.First) is ∙ source;
      } in
      let second : VarOf base scope (Some vars.Second) = record {
        pool = target.value;
        asked = ap (option_and_then (λ q. pool_of_var base q vars.Second)) is ∙ sink;
        typed = ap (λ o. pool_of_var base (unwrap_or o quants.Once) vars.Second) is ∙ sink;
      } in
      record {
        typed = subst (λ o. IsTypedQuant base (unwrap_or o quants.Once)) (sym is) (is_some_and (λ r. IsSome r.target) (slice_get base.rels f.at) f.item f.is (some_value f.item.target records));
        variables = λ q. elim (bytes_eq one.name q) as (λ b. is_some (cond b (Some vars.First) (cond (bytes_eq other.name q) (Some vars.Second) None)) ≡ true → VarOf base scope (cond b (Some vars.First) (cond (bytes_eq other.name q) (Some vars.Second) None))) [
          | true ↦ λ _. first
          | false ↦ elim (bytes_eq other.name q) as (λ b. is_some (cond b (Some vars.Second) None) ≡ true → VarOf base scope (cond b (Some vars.Second) None)) [
            | true ↦ λ _. second
            | false ↦ λ h. absurd (true≢false (sym h))
          ]
        ];
      }

  bound_by : (binder : Binder) → quantifier_faults (known_in base) (over binder) ≡ [] → Bound base (over binder)
  bound_by (binders.One name) e =
      let both = both_empty _ _ e in
      bound_one name (found_set base symbol.name (when_absent (is_none ((known_in base).set symbol.name)) conditions.UnknownName symbol.place both.0))
  bound_by (binders.Pair at one other) e =
      let both = both_empty _ _ e in
      let rest = both_empty (binder_faults (binders.Pair at one other)) _ both.1 in
      let f = found_relation base symbol.name (when_absent (is_none ((known_in base).relation symbol.name)) conditions.UnknownName symbol.place both.0) in
      let records = when_absent (gives_numbers (known_in base) (binders.Pair at one other) symbol.name) conditions.PoolMismatch place rest.1 in
      bound_pair at one other f (sym (ap (λ o. option_map_or (λ r. is_none r.target) o false) (relation_is base symbol.name f)) ∙ records)

pub bound : (base : Structures) (quantifier : Option Quantifier) → quantifier_faults (known_in base) quantifier ≡ [] → Bound base quantifier
bound base None e = record { typed = tt; variables = λ q h. absurd (true≢false (sym h)) }
bound base (Some q) e = bound_by base q.place q.symbol q.binder e

-- ---- variables of formulas

module _ (base : Structures) (quantifier : Option Quantifier) (b : Bound base quantifier) where
  pub variable_there : (v : VarTree) → is_some (variable (binding_in base quantifier) v) ≡ true → VarOf base (binding_in base quantifier) (variable (binding_in base quantifier) v)
  variable_there (var_trees.Head place) e = record { pool = 0; asked = refl; typed = refl }
  variable_there (var_trees.Name q) e = b.variables q.name e

  pub variable_known : (v : VarTree) → variable_faults (binding_in base quantifier) v ≡ [] → VarOf base (binding_in base quantifier) (variable (binding_in base quantifier) v)
  variable_known (var_trees.Head place) e = record { pool = 0; asked = refl; typed = refl }
  variable_known (var_trees.Name q) e =
      let o = named_variable (binding_in base quantifier).binder q.name in
      b.variables q.name (some_value o (when_absent (is_none o) conditions.UnknownName q.place e))
