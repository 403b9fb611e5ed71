-- The variables that a typed literal names are bound.
use Rattle.std.proofs.Common.{◌≡◌, ℕ, Option, None, Some, IsSome, IsSomeAnd, refl, subst}
use Rattle.std.proofs.lemmas.Bool.{false≢true}
use Rattle.std.specs.Prelude.{slice_get}
use Rattle.dsr_ir.specs.declared.constraints.Measure.{Measure}
use Rattle.dsr_ir.specs.declared.constraints.Measure.TheVariants.{Into, Out, Whole}
use Rattle.dsr_ir.specs.declared.constraints.Quant.{Quant}
use Rattle.dsr_ir.specs.declared.constraints.Quant.TheVariants as quants
use Rattle.dsr_ir.specs.declared.constraints.Var.{Var}
use Rattle.dsr_ir.specs.declared.constraints.Var.TheVariants.{First, Head, Second}
use Rattle.dsr_ir.specs.declared.declarations.Rel.{Rel}
use Rattle.dsr_ir.specs.declared.declarations.Structures.{Structures}
use Rattle.dsr_ir.specs.declared.tuples.Binding.{Binding}
use Rattle.dsr_ir.specs.declared.tuples.Binding.TheVariants as bindings
use Rattle.dsr_ir.specs.declared.tuples.Fact.{Fact}
use Rattle.dsr_meaning.specs.Consistency.{IsBinding}
use Rattle.dsr_meaning.specs.Truth.{HasVariable, element_of}
use Rattle.dsr_meaning.specs.Typed.{IsTypedMeasure, pool_of_var}
use Rattle.dsr_ir.specs.declared.declarations.Spec.{Spec}
use Rattle.dsr_update_theory.specs.KnownSets.{IsKnown}

-- the variable names an element
abbrev pub IsBound : Binding → Var → Type 0
IsBound b v = IsSome (element_of b v)

module _ (is_fact : Fact → Type 0) where
  -- a variable that is known to be a member of a set is bound
  each_bound : (set : ℕ) (b : Binding) → IsBinding is_fact (quants.Each set) b → IsBound b First
  each_bound set bindings.Once is = absurd is
  each_bound set (bindings.Each x) is = refl
  each_bound set (bindings.Pair x y) is = absurd is

  pair_bound : (rel : ℕ) (b : Binding) → IsBinding is_fact (quants.Pairs rel) b → IsBound b First × IsBound b Second
  pair_bound rel bindings.Once is = absurd is
  pair_bound rel (bindings.Each x) is = absurd is
  pair_bound rel (bindings.Pair x y) is = (refl, refl)

  pub known_bound : (spec : Spec) (quant : Quant) (b : Binding) → IsBinding is_fact quant b → {v : Var} {set : ℕ} → IsKnown spec quant v set → IsBound b v
  known_bound spec quant b is (IsKnown.quantified set e) = each_bound set b (subst (λ q. IsBinding is_fact q b) e is)
  known_bound spec quant b is (IsKnown.source rel set e given) = (pair_bound rel b (subst (λ q. IsBinding is_fact q b) e is)).0
  known_bound spec quant b is (IsKnown.target rel set e given) = (pair_bound rel b (subst (λ q. IsBinding is_fact q b) e is)).1
  known_bound spec quant b is (IsKnown.base v set below known given) = known_bound spec quant b is known

  -- a variable that has a pool is bound
  pub with_pool : (base : Structures) (quant : Quant) (b : Binding) (v : Var) (pool : ℕ) → IsBinding is_fact quant b → pool_of_var base quant v ≡ Some pool → IsBound b v
  with_pool base quant b Head pool is e = refl
  with_pool base quants.Once b First pool is e = absurd cc
  with_pool base quants.Once b Second pool is e = absurd cc
  with_pool base (quants.Each set) bindings.Once v pool is e = absurd is
  with_pool base (quants.Each set) (bindings.Each x) First pool is e = refl
  with_pool base (quants.Each set) (bindings.Each x) Second pool is e = absurd cc
  with_pool base (quants.Each set) (bindings.Pair x y) v pool is e = absurd is
  with_pool base (quants.Pairs rel) bindings.Once v pool is e = absurd is
  with_pool base (quants.Pairs rel) (bindings.Each x) v pool is e = absurd is
  with_pool base (quants.Pairs rel) (bindings.Pair x y) First pool is e = refl
  with_pool base (quants.Pairs rel) (bindings.Pair x y) Second pool is e = refl

  -- so is one that has the pool of a target that is there
  pub with_target : (base : Structures) (quant : Quant) (b : Binding) (v : Var) (target : Option ℕ) → IsBinding is_fact quant b → IsSome target → pool_of_var base quant v ≡ target → IsBound b v
  with_target base quant b v None is some e = absurd (false≢true some)
  with_target base quant b v (Some pool) is some e = with_pool base quant b v pool is e

  -- a typed measure has its variable
  pub measured : (base : Structures) (quant : Quant) (b : Binding) (measure : Measure) → IsBinding is_fact quant b → IsTypedMeasure base quant measure → HasVariable b measure
  measured base quant b (Whole set) is typed = tt
  measured base quant b (Out v rel) is typed = of_rel (slice_get base.rels rel) typed where
    of_rel : (o : Option Rel) → IsSomeAnd o (λ r. pool_of_var base quant v ≡ Some r.source) → IsBound b v
    of_rel None h = absurd h
    of_rel (Some r) h = with_pool base quant b v r.source is h
  measured base quant b (Into rel v) is typed = of_rel (slice_get base.rels rel) typed where
    of_rel : (o : Option Rel) → IsSomeAnd o (λ r. IsSome r.target × (pool_of_var base quant v ≡ r.target)) → IsBound b v
    of_rel None h = absurd h
    of_rel (Some r) h = with_target base quant b v r.target is h.0 h.1
