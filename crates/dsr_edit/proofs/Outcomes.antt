-- What a model of the image after a group tells of it.
use Rattle.std.proofs.Common.{◌≡◌, ℕ, true, false, nat_eq, List, [], ◌∷◌, length, map, refl, sym, ap, subst, ◌∙◌, arith}
use Rattle.std.proofs.lemmas.Bool.{eqb-true, false≢true}
use Rattle.dsr_affected.specs.Marking.{AreAffected}
use Rattle.dsr_affected_laws.proofs.Violated.{first_of_all, still_consistent}
use Rattle.dsr_edit.proofs.Made.{alike}
use Rattle.dsr_edit.specs.Edits.{AreMade, IsEditFault, IsFirstViolation, IsUnwritable}
use Rattle.dsr_edit.specs.declared.faults.EditFault.{EditFault}
use Rattle.dsr_edit.specs.declared.faults.EditFault.TheVariants as faults
use Rattle.dsr_edit.specs.declared.groups.CellWrite.{CellWrite}
use Rattle.dsr_fixpoint.proofs.Bridged.{same_facts}
use Rattle.dsr_fixpoint.proofs.SameFacts.{same_violations, turned, violated_same}
use Rattle.dsr_fixpoint.specs.Models.{IsModelOf, IsPreparedFor}
use Rattle.dsr_ir.specs.declared.declarations.FieldRef.{FieldRef}
use Rattle.dsr_ir.specs.declared.declarations.Spec.{Spec}
use Rattle.dsr_ir.specs.declared.layouts.Layout.{Layout}
use Rattle.dsr_ir.specs.declared.tuples.Binding.{Binding}
use Rattle.dsr_ir.specs.declared.tuples.Fact.{Fact}
use Rattle.dsr_meaning.specs.Consistency.{AreViolations, BoundConstraint, IsConsistent, IsFirstViolated, IsViolated, NoneIsViolated, bound_constraint}
use Rattle.dsr_meaning.specs.Counting.{IsIn}
use Rattle.dsr_meaning.specs.Models.{IsFact}
use Rattle.dsr_model.specs.Facts.{IsInModel}
use Rattle.dsr_model.specs.Views.{ModelView}
use Rattle.dsr_step_theory.specs.Images.{IsImageOf}

module _ (spec : Spec) (layout : Layout) (old new : List ℕ) (image : IsImageOf spec layout old) (group : List CellWrite) (made : AreMade spec layout group old new)
    (order : List ℕ) (affected : AreAffected spec (map (λ (w : CellWrite). w.field) group) order) (was : IsConsistent spec layout old)
    (model : ModelView) (of : IsModelOf spec layout new model) (prepared : IsPreparedFor spec layout model) where
  abbrev fields : List FieldRef
  fields = map (λ (w : CellWrite). w.field) group

  abbrev Holds : Fact → Type 0
  Holds = IsInModel model

  abbrev Is : Fact → Type 0
  Is = IsFact spec layout new

  to : (v : BoundConstraint) → IsViolated Holds spec v → IsViolated Is spec v
  to = violated_same Holds Is (same_facts spec layout new model of prepared) spec

  from : (v : BoundConstraint) → IsViolated Is spec v → IsViolated Holds spec v
  from = violated_same Is Holds (turned Holds Is (same_facts spec layout new model of prepared)) spec

  pub consistent : NoneIsViolated Holds spec order → IsConsistent spec layout new
  consistent none = still_consistent spec layout fields old new (alike spec layout old new image group made) order affected.covers was (λ k w at v. none k w at (from w v))

  first_is : (v : BoundConstraint) → IsFirstViolated Holds spec order v → IsFirstViolated Is spec order v
  first_is v first = record {
    violated = to v first.violated;
    at = first.at;
    placed = first.placed;
    none_before = λ k w before at violated. first.none_before k w before at (from w violated);
    least = λ b violated before. first.least b (from (record { constraint = v.constraint; binding = b }) violated) before;
  }

  pub first_violation : (v : BoundConstraint) → IsFirstViolated Holds spec order v → IsFirstViolation spec layout new v
  first_violation v first = record {
    violated = to v first.violated;
    none_before = λ w violated before.
        first_of_all spec layout fields old new (alike spec layout old new image group made) order v w affected.covers affected.rising was (first_is v first) violated before;
  }

-- ---- a session that begins

pub found_are : (spec : Spec) (layout : Layout) (bytes : List ℕ) (model : ModelView) → IsModelOf spec layout bytes model → IsPreparedFor spec layout model → (vs : List BoundConstraint) → AreViolations (IsInModel model) spec vs → AreViolations (IsFact spec layout bytes) spec vs
found_are spec layout bytes model of prepared vs are = same_violations (IsInModel model) (IsFact spec layout bytes) (same_facts spec layout bytes model of prepared) spec vs are

pub none_found : (spec : Spec) (layout : Layout) (bytes : List ℕ) (vs : List (ℕ × Binding)) → vs ≡ [] → AreViolations (IsFact spec layout bytes) spec (map bound_constraint vs) → IsConsistent spec layout bytes
none_found spec layout bytes vs none are v violated = subst (λ xs. IsIn v (map bound_constraint xs)) none (are.all v violated)

pub no_items : {A : Type 0} (xs : List A) → nat_eq (length xs) 0 ≡ true → xs ≡ []
no_items [] e = refl
no_items (x ∷ xs) e = let none : length (x ∷ xs) ≡ 0 = eqb-true (length (x ∷ xs)) 0 e in absurd (omega (arith, none))

pub some_items : {A : Type 0} (xs : List A) → nat_eq (length xs) 0 ≡ false → xs ≡ [] → ⊥
some_items xs e none = let same : nat_eq (length xs) 0 ≡ true = ap (λ ys. nat_eq (length ys) 0) none in false≢true (sym e ∙ same)

-- ---- a group that is refused

-- why a group wasn't prepared is why it isn't made
pub refused_as : (spec : Spec) (layout : Layout) (group : List CellWrite) (old : List ℕ) (fault : EditFault) → IsUnwritable spec layout group fault → IsEditFault spec layout group old fault
refused_as spec layout group old (faults.Cell place) h = h
refused_as spec layout group old (faults.Broken c b) h = absurd h
refused_as spec layout group old faults.NoMemory h = tt
