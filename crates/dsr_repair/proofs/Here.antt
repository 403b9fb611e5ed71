-- The constraint and the row of a violated binding, as they are looked up.
use Rattle.std.proofs.Common.{◌≡◌, ◌≤◌, ℕ, List, length, All, Some, sym, subst, ◌∙◌, slice_get}
use Rattle.dsr_ir.specs.declared.constraints.Conj.{Conj}
use Rattle.dsr_ir.specs.declared.constraints.Constraint.{Constraint}
use Rattle.dsr_ir.specs.declared.declarations.Spec.{Spec}
use Rattle.dsr_ir.specs.declared.tuples.Fact.{Fact}
use Rattle.dsr_meaning.proofs.Firing.{found_fits}
use Rattle.dsr_meaning.specs.Consistency.{BoundConstraint, ConjHolds, IsViolated}
use Rattle.dsr_meaning.specs.Typed.{IsTyped, IsTypedConj, IsTypedConstraint}
use Rattle.dsr_plan_theory.specs.declared.choices.Choice.{Choice}
use Rattle.dsr_plan_theory.specs.declared.choices.Row.{Row}
use Rattle.dsr_repair_theory.specs.Due.{IsDueBinding}

one_at : {X : Type 0} (xs : List X) (n : ℕ) (a b : X) → slice_get xs n ≡ Some a → slice_get xs n ≡ Some b → a ≡ b
one_at xs n a b first second = let both : Some a ≡ Some b = sym first ∙ second in cc

module _ (is_fact : Fact → Type 0) (spec : Spec) (choice : Choice) (v : BoundConstraint) (constraint : Constraint)
    (declared : slice_get spec.constraints v.constraint ≡ Some constraint) where
  pub due_here :
      (other : Constraint) (its row : Row) → IsDueBinding is_fact spec choice v other its
      → slice_get choice.rows v.constraint ≡ Some row → IsDueBinding is_fact spec choice v constraint row
  due_here other its row is row_is =
      let one : other ≡ constraint = one_at spec.constraints v.constraint other constraint is.row_of.constraint_is declared in
      let line : its ≡ row = one_at choice.rows v.constraint its row is.row_of.row_is row_is in
      subst (λ r. IsDueBinding is_fact spec choice v constraint r) line
      (subst (λ c. IsDueBinding is_fact spec choice v c its) one is)

  pub none_holds : IsViolated is_fact spec v → All (λ k. ConjHolds is_fact v.binding k → ⊥) constraint.conjs
  none_holds violated =
      subst (λ c. All (λ k. ConjHolds is_fact v.binding k → ⊥) c.conjs)
      (one_at spec.constraints v.constraint violated.constraint constraint violated.declared declared) violated.no_conjunction

  pub few_literals : IsTyped spec → (n : ℕ) (conj : Conj) → slice_get constraint.conjs n ≡ Some conj → length conj.literals ≤ 8
  few_literals typed n conj at =
      let its = found_fits (IsTypedConstraint spec) spec.constraints v.constraint constraint typed.constraints declared in
      (found_fits (IsTypedConj spec constraint.quant) constraint.conjs n conj its.conjs at).few_literals
