-- When all constraints are satisfied, by what is a fact, and which bindings are violated where they
-- aren't.
use Rattle.std.specs.Prelude.{◌≡◌, ◌<◌, ◌⊎◌, ℕ, List, [], ◌∷◌, Some, All, slice_get}
use Rattle.dsr_ir.specs.declared.constraints.Conj.{Conj}
use Rattle.dsr_ir.specs.declared.constraints.Constraint.{Constraint}
use Rattle.dsr_ir.specs.declared.constraints.Quant.{Quant}
use Rattle.dsr_ir.specs.declared.constraints.Quant.TheVariants as quants
use Rattle.dsr_ir.specs.declared.declarations.Spec.{Spec}
use Rattle.dsr_ir.specs.declared.layouts.Layout.{Layout}
use Rattle.dsr_ir.specs.declared.tuples.Binding.{Binding}
use Rattle.dsr_ir.specs.declared.tuples.Binding.TheVariants as bindings
use Rattle.dsr_ir.specs.declared.tuples.Fact.{Fact}
use Rattle.dsr_ir.specs.declared.tuples.Fact.TheVariants.{Member, Pair}
use Rattle.dsr_ir.specs.declared.tuples.Target.TheVariants.{Elem}
use Rattle.dsr_meaning.specs.Counting.{IsIn}
use Rattle.dsr_meaning.specs.Models.{IsFact}
use Rattle.dsr_meaning.specs.Orders.{BindingPrecedes}
use Rattle.dsr_meaning.specs.Truth.{LiteralHolds}

-- the binding is one of the quantifier: a member, a pair, or the only one without quantifier
abbrev pub IsBinding : (Fact → Type 0) → Quant → Binding → Type 0
IsBinding is_fact quants.Once bindings.Once = Unit {0}
IsBinding is_fact (quants.Each set) (bindings.Each e) = is_fact (Member set e)
IsBinding is_fact (quants.Pairs rel) (bindings.Pair e f) = is_fact (Pair rel e (Elem f))
IsBinding is_fact _ _ = ⊥

-- all literals of the conjunction are true
abbrev pub ConjHolds : (Fact → Type 0) → Binding → Conj → Type 0
ConjHolds is_fact b conj = All (LiteralHolds is_fact b) conj.literals

-- a constraint, by its number, with its variables bound
pub record BoundConstraint : Type 0 where
  pub constraint : ℕ
  pub binding : Binding

abbrev pub bound_constraint : ℕ × Binding → BoundConstraint
bound_constraint v = record { constraint = v.0; binding = v.1 }

-- the binding is one of the constraint's quantifier, and no conjunction has all its literals true
pub record IsViolated (is_fact : Fact → Type 0) (spec : Spec) (v : BoundConstraint) : Type 0 where
  pub constraint : Constraint
  pub declared : slice_get spec.constraints v.constraint ≡ Some constraint
  pub is_binding : IsBinding is_fact constraint.quant v.binding
  pub no_conjunction : All (λ conj. ConjHolds is_fact v.binding conj → ⊥) constraint.conjs

-- no binding of any constraint is violated
abbrev pub AreSatisfied : (Fact → Type 0) → Spec → Type 0
AreSatisfied is_fact spec = (v : BoundConstraint) → IsViolated is_fact spec v → ⊥

-- the facts that the chains of an image give satisfy the constraints
abbrev pub IsConsistent : Spec → Layout → List ℕ → Type 0
IsConsistent spec layout bytes = AreSatisfied (IsFact spec layout bytes) spec

-- constraints in order of declaration, and bindings least first
abbrev pub Comes : BoundConstraint → BoundConstraint → Type 0
Comes v w =
    (v.constraint < w.constraint)
    ⊎ ((v.constraint ≡ w.constraint) × BindingPrecedes v.binding w.binding)

-- each comes before all later ones
abbrev pub AreInOrder : List BoundConstraint → Type 0
AreInOrder [] = Unit {0}
AreInOrder (v ∷ vs) = ((w : BoundConstraint) → IsIn w vs → Comes v w) × AreInOrder vs

-- the list has exactly the violated bindings, in order
pub record AreViolations (is_fact : Fact → Type 0) (spec : Spec) (vs : List BoundConstraint) : Type 0 where
  pub in_order : AreInOrder vs
  pub all : (v : BoundConstraint) → IsViolated is_fact spec v → IsIn v vs
  pub only : (v : BoundConstraint) → IsIn v vs → IsViolated is_fact spec v

-- the violated binding that comes first where constraints stand
-- in an order of their own, given by their numbers: that
-- of the first constraint which has any, and of its violated bindings the least
pub record IsFirstViolated (is_fact : Fact → Type 0) (spec : Spec) (order : List ℕ)
    (v : BoundConstraint) : Type 0 where
  pub violated : IsViolated is_fact spec v
  pub at : ℕ
  pub placed : slice_get order at ≡ Some v.constraint
  pub none_before :
      (k : ℕ) (w : BoundConstraint) → k < at → slice_get order k ≡ Some w.constraint
      → IsViolated is_fact spec w → ⊥
  pub least :
      (b : Binding) → IsViolated is_fact spec (record { constraint = v.constraint; binding = b })
      → BindingPrecedes b v.binding → ⊥

-- no constraint of the order has a violated binding
abbrev pub NoneIsViolated : (Fact → Type 0) → Spec → List ℕ → Type 0
NoneIsViolated is_fact spec order =
    (k : ℕ) (w : BoundConstraint) → slice_get order k ≡ Some w.constraint
    → IsViolated is_fact spec w → ⊥

-- no binding of a constraint that stands earlier in the order
-- is violated, and none of the one at the place that comes
-- before the binding
abbrev pub NoneIsViolatedBefore : (Fact → Type 0) → Spec → List ℕ → ℕ → Binding → Type 0
NoneIsViolatedBefore is_fact spec order at binding =
    (k : ℕ) (w : BoundConstraint) → slice_get order k ≡ Some w.constraint
    → (k < at) ⊎ ((k ≡ at) × BindingPrecedes w.binding binding) → IsViolated is_fact spec w → ⊥
