-- Walks over the bindings of a constraint, and what of its violated bindings was found on the way.
use Rattle.std.specs.Prelude.{◌≡◌, ◌<◌, ◌⊎◌, ⊤, ℕ, List, Option, None, Some, IsSomeAnd, MatchOption, All}
use Rattle.dsr_ir.specs.declared.constraints.Conj.{Conj}
use Rattle.dsr_ir.specs.declared.constraints.Constraint.{Constraint}
use Rattle.dsr_ir.specs.declared.constraints.Literal.{Literal}
use Rattle.dsr_ir.specs.declared.constraints.Quant.{Quant}
use Rattle.dsr_ir.specs.declared.constraints.Quant.TheVariants as quants
use Rattle.dsr_ir.specs.declared.declarations.Spec.{Spec}
use Rattle.dsr_ir.specs.declared.tuples.Binding.{Binding}
use Rattle.dsr_ir.specs.declared.tuples.Binding.TheVariants as bindings
use Rattle.dsr_ir.specs.declared.tuples.Element.{Element}
use Rattle.dsr_ir.specs.declared.tuples.Fact.{Fact}
use Rattle.dsr_ir.specs.declared.tuples.Fact.TheVariants.{Member, Pair}
use Rattle.dsr_ir.specs.declared.tuples.Target.TheVariants.{Elem}
use Rattle.dsr_ir.specs.declared.updates.Symbol.TheVariants.{Set, Rel}
use Rattle.dsr_meaning.specs.Consistency.{AreInOrder, BoundConstraint, ConjHolds, IsBinding, IsViolated, bound_constraint}
use Rattle.dsr_meaning.specs.Counting.{IsIn}
use Rattle.dsr_meaning.specs.Orders.{BindingPrecedes}
use Rattle.dsr_meaning.specs.Truth.{LiteralHolds}
use Rattle.dsr_model.specs.Facts.{MayBeOf, facts_after}
use Rattle.dsr_model.specs.Views.{ModelView}

-- some conjunction has all its literals true
abbrev pub IsSatisfied : (Fact → Type 0) → Binding → Constraint → Type 0
IsSatisfied is_fact b constraint =
    (conj : Conj) × IsIn conj constraint.conjs × ConjHolds is_fact b conj

-- no conjunction has all its literals true
abbrev pub IsUnsatisfied : (Fact → Type 0) → Binding → Constraint → Type 0
IsUnsatisfied is_fact b constraint = All (λ conj. ConjHolds is_fact b conj → ⊥) constraint.conjs

-- the literal is true for any two records
abbrev pub HoldsForPairs : (Fact → Type 0) → Option Literal → Type 0
HoldsForPairs is_fact only =
    IsSomeAnd only (λ literal. (x : Element) (y : Element) → LiteralHolds is_fact (bindings.Pair x y) literal)

-- the binding is one of the quantifier, and no conjunction has all its literals true
abbrev pub IsViolatedAt : (Fact → Type 0) → Constraint → Binding → Type 0
IsViolatedAt is_fact constraint b =
    IsBinding is_fact constraint.quant b × IsUnsatisfied is_fact b constraint

-- the binding is one that the quantifier may have, by its pools
abbrev pub MayBind : ModelView → Quant → Binding → Type 0
MayBind m quants.Once bindings.Once = ⊤
MayBind m (quants.Each set) (bindings.Each e) = MayBeOf m (Set set) (Member set e)
MayBind m (quants.Pairs rel) (bindings.Pair e f) = MayBeOf m (Rel rel) (Pair rel e (Elem f))
MayBind m _ _ = ⊥

abbrev pub each : Element → Binding
each e = bindings.Each e

abbrev pub pair : Element × Element → Binding
pair p = bindings.Pair p.0 p.1

-- the binding comes after the other one; after none comes each
abbrev pub ComesAfter : Option Binding → Binding → Type 0
ComesAfter None b = ⊤
ComesAfter (Some a) b = BindingPrecedes a b

-- the binding is of the kind, and no other one of the kind comes before it
pub record IsLeastBinding (Kind : Binding → Type 0) (b : Binding) : Type 0 where
  pub of_kind : Kind b
  pub none_before : (other : Binding) → Kind other → BindingPrecedes other b → ⊥

-- the answer is the least binding of the kind, and None where there is none
abbrev pub FindsLeastBinding : (Binding → Type 0) → Option Binding → Type 0
FindsLeastBinding Kind answer = MatchOption answer ((b : Binding) → Kind b → ⊥) (IsLeastBinding Kind)

-- the binding is one of the quantifier that comes after another one
abbrev pub IsLaterBinding : (Fact → Type 0) → Quant → Option Binding → Binding → Type 0
IsLaterBinding is_fact quant before b = IsBinding is_fact quant b × ComesAfter before b

-- the binding is violated, and comes after another one
abbrev pub IsLaterViolated : (Fact → Type 0) → Constraint → Option Binding → Binding → Type 0
IsLaterViolated is_fact constraint before b = IsViolatedAt is_fact constraint b × ComesAfter before b

-- how many bindings of a quantifier may still come
abbrev pub bindings_after : ModelView → Quant → Option Binding → ℕ
bindings_after m quants.Once None = 1
bindings_after m quants.Once (Some b) = 0
bindings_after m (quants.Each set) None = facts_after m (Set set) None
bindings_after m (quants.Each set) (Some (bindings.Each e)) = facts_after m (Set set) (Some (Member set e))
bindings_after m (quants.Each set) (Some _) = 0
bindings_after m (quants.Pairs rel) None = facts_after m (Rel rel) None
bindings_after m (quants.Pairs rel) (Some (bindings.Pair e f)) =
    facts_after m (Rel rel) (Some (Pair rel e (Elem f)))
bindings_after m (quants.Pairs rel) (Some _) = 0

-- ---- lists of violated bindings

-- the binding of the constraint with this number is violated
abbrev pub IsViolatedOf : (Fact → Type 0) → Spec → ℕ → Binding → Type 0
IsViolatedOf is_fact spec number b = IsViolated is_fact spec (bound_constraint (number, b))

-- and doesn't come before this one
abbrev pub IsViolatedFrom : (Fact → Type 0) → Spec → ℕ → Binding → Binding → Type 0
IsViolatedFrom is_fact spec number from b =
    IsViolatedOf is_fact spec number b × (BindingPrecedes b from → ⊥)

-- the binding is one of a constraint before this one or, where one was reached, of this one and no
-- later than it
abbrev pub IsPassed : ℕ → Option Binding → BoundConstraint → Type 0
IsPassed constraint None v = v.constraint < constraint
IsPassed constraint (Some last) v =
    (v.constraint < constraint)
    ⊎ ((v.constraint ≡ constraint) × (BindingPrecedes last v.binding → ⊥))

-- the list has exactly the violated bindings that were passed, in order
pub record AreFound (is_fact : Fact → Type 0) (spec : Spec) (constraint : ℕ) (last : Option Binding)
    (vs : List BoundConstraint) : Type 0 where
  pub in_order : AreInOrder vs
  pub all :
      (v : BoundConstraint) → IsViolated is_fact spec v → IsPassed constraint last v → IsIn v vs
  pub only : (v : BoundConstraint) → IsIn v vs → IsViolated is_fact spec v
  pub passed : (v : BoundConstraint) → IsIn v vs → IsPassed constraint last v
