-- One pass over the constraints: what was found, and what was made of those without fault.
use Rattle.std.proofs.Common.{◌≡◌, ◌<◌, ◌+◌, ℕ, List, [], ◌∷◌, ◌++◌, map, take, length, get_or, Option, refl, sym, ap, ◌∙◌, arith}
use Rattle.dsr_ir.specs.declared.constraints.Constraint.{Constraint}
use Rattle.dsr_meaning.specs.Lists.{each_at}
use Rattle.dsr_meaning.proofs.Empty.{both_empty}
use Rattle.dsr_tree.specs.declared.faults.Fault.{Fault}
use Rattle.dsr_tree.specs.declared.tree.Constraint.{Constraint as ConstraintOf}
use Rattle.dsr_tree.specs.declared.tree.Rule.{Rule}
use Rattle.dsr_tree.specs.Trees.{constraint_shape}
use Rattle.dsr_language_theory.specs.Known.{Known}
use Rattle.dsr_language_theory.specs.Constraints.{constraint_faults}
use Rattle.dsr_language_theory.specs.TypedConstraints.{typed_constraint}
use Rattle.dsr_names.specs.Telling.{Finds}
use Rattle.dsr_names.proofs.Finding.{each_next, finds_next}
use Rattle.dsr_constraint.proofs.Mapped.{made_next}

-- after some constraints
pub record IsPassed (known : Known) (rs : List Rule) (number : List ℕ → Option ℕ) (cs : List ConstraintOf) (old new : Option Fault) (made : List Constraint) : Type 0 where
  pub found : Finds (each_at (constraint_faults known rs number) 0 (map constraint_shape cs)) old new
  pub typed : each_at (constraint_faults known rs number) 0 (map constraint_shape cs) ≡ [] → made ≡ map (typed_constraint known) (map constraint_shape cs)

-- after one more
pub passed_next : {known : Known} {rs : List Rule} {number : List ℕ → Option ℕ} {a b c : Option Fault} {old new : List Constraint} (cs : List ConstraintOf) (i : ℕ) (x : ConstraintOf) → i < length cs → x ≡ get_or cs i x
    → IsPassed known rs number (take i cs) a b old
    → Finds (constraint_faults known rs number i (constraint_shape x)) b c
    → (constraint_faults known rs number i (constraint_shape x) ≡ [] → new ≡ old ++ typed_constraint known (constraint_shape x) ∷ [])
    → IsPassed known rs number (take (i + 1) cs) a c new
passed_next {known} {rs} {number} {old = old} {new = new} cs i x below is before found added = record {
  found = finds_next (constraint_faults known rs number) constraint_shape cs i x below is before.found found;
  typed = λ none.
      let at : i ≡ 0 + i = omega arith in
      let both = both_empty _ _ (sym (each_next (constraint_faults known rs number) constraint_shape 0 cs i x below is) ∙ none) in
      made_next constraint_shape (typed_constraint known) cs i x old new (typed_constraint known (constraint_shape x)) below is (before.typed both.0) (added (ap (λ k. constraint_faults known rs number k (constraint_shape x)) at ∙ both.1)) refl;
}
