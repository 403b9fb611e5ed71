-- The laws on choices, as they are used.
use Rattle.std.proofs.Common.{◌≡◌, ◌≤◌, ℕ, List, Option, Some, slice_get, length}
use Rattle.dsr_repair_theory.specs.Choices.{Adds, IsToGo, IsUpdateAt, TakesAway}
use Rattle.dsr_repair_laws.proofs.Complete.{chosen_complete}
use Rattle.dsr_repair_laws.proofs.DueForms.{form_of}
use Rattle.dsr_repair_laws.proofs.Few.{few_of}
use Rattle.dsr_repair_laws.proofs.ToGo.{to_go_there}
use Rattle.dsr_repair_laws.proofs.Updates.{first_there, taking_there}
use Rattle.dsr_repair_laws.specs.Chosen.{IsComplete}
use Rattle.dsr_ir.specs.declared.constraints.Literal.{Literal}
use Rattle.dsr_ir.specs.declared.declarations.Spec.{Spec}
use Rattle.dsr_ir.specs.declared.layouts.Layout.{Layout}
use Rattle.dsr_ir.specs.declared.tuples.Fact.{Fact}
use Rattle.dsr_ir.specs.declared.tuples.Instance.{Instance}
use Rattle.dsr_ir.specs.declared.updates.Template.{Template}
use Rattle.dsr_ir.specs.declared.updates.Update.{Update}
use Rattle.dsr_meaning.specs.Consistency.{BoundConstraint}
use Rattle.dsr_meaning.specs.Models.{IsDerived, IsDerivedBy, IsFact}
use Rattle.dsr_plan_theory.specs.Plans.{IsPlan}
use Rattle.dsr_plan_theory.specs.declared.choices.Choice.{Choice}
use Rattle.dsr_repair_theory.specs.Due.{IsDue}
use Rattle.dsr_step_theory.specs.Images.{IsImageOf}

pub fact_to_go : (spec : Spec) (choice : Choice) (layout : Layout) (bytes : List ℕ) (v : BoundConstraint)
    (conj literal : ℕ) (its : Literal) (template : Template) → IsImageOf spec layout bytes
    → IsPlan spec choice → IsDue (IsFact spec layout bytes) spec choice v conj literal its template
    → (Adds (IsFact spec layout bytes) v.binding its.atom template.goal → ⊥)
    → (fact : Fact) × IsToGo (IsFact spec layout bytes) v.binding its.atom fact
    × IsDerived spec layout bytes fact
fact_to_go spec choice layout bytes v conj literal its template image plan due =
    to_go_there spec layout bytes v.binding its template image.typed
    (form_of (IsFact spec layout bytes) spec choice v conj literal its template image.typed plan due)

pub first_update : (spec : Spec) (choice : Choice) (layout : Layout) (bytes : List ℕ) (v : BoundConstraint)
    (conj literal : ℕ) (its : Literal) (template : Template) → IsImageOf spec layout bytes
    → IsPlan spec choice → IsDue (IsFact spec layout bytes) spec choice v conj literal its template
    → Adds (IsFact spec layout bytes) v.binding its.atom template.goal
    → (update : Update) × (slice_get template.updates 0 ≡ Some update)
first_update spec choice layout bytes v conj literal its template image plan due =
    first_there (IsFact spec layout bytes) spec v.binding its template
    (form_of (IsFact spec layout bytes) spec choice v conj literal its template image.typed plan due)

pub update_of_rule : (spec : Spec) (choice : Choice) (layout : Layout) (bytes : List ℕ) (v : BoundConstraint)
    (conj literal : ℕ) (its : Literal) (template : Template) (fact : Fact) (i : Instance)
    → IsImageOf spec layout bytes
    → IsPlan spec choice → IsDue (IsFact spec layout bytes) spec choice v conj literal its template
    → (Adds (IsFact spec layout bytes) v.binding its.atom template.goal → ⊥)
    → IsToGo (IsFact spec layout bytes) v.binding its.atom fact → IsDerivedBy spec layout bytes i fact
    → (n : ℕ) × (update : Update) × TakesAway template.goal n
    × (slice_get template.updates n ≡ Some update) × (update.rule ≡ i.rule)
update_of_rule spec choice layout bytes v conj literal its template fact i image plan due =
    taking_there spec layout bytes v.binding its template
    (form_of (IsFact spec layout bytes) spec choice v conj literal its template image.typed plan due) fact i

pub complete : (spec : Spec) (choice : Choice) (layout : Layout) (bytes : List ℕ) (v : BoundConstraint)
    (conj literal : ℕ) (its : Literal) (template : Template) (n : ℕ) (update : Update)
    (stopped : Option Instance) → IsImageOf spec layout bytes
    → IsPlan spec choice → IsDue (IsFact spec layout bytes) spec choice v conj literal its template
    → IsUpdateAt spec layout bytes v.binding its.atom template n update stopped
    → IsComplete spec v.binding stopped update
complete spec choice layout bytes v conj literal its template n update stopped image plan due is =
    chosen_complete spec layout bytes v.binding its template
    (form_of (IsFact spec layout bytes) spec choice v conj literal its template image.typed plan due) n update stopped is

pub few_updates : (spec : Spec) (choice : Choice) (layout : Layout) (bytes : List ℕ) (v : BoundConstraint)
    (conj literal : ℕ) (its : Literal) (template : Template) → IsImageOf spec layout bytes
    → IsPlan spec choice → IsDue (IsFact spec layout bytes) spec choice v conj literal its template
    → length template.updates ≤ 200
few_updates spec choice layout bytes v conj literal its template image plan due =
    few_of (IsFact spec layout bytes) spec v.binding its template image.typed
    (form_of (IsFact spec layout bytes) spec choice v conj literal its template image.typed plan due)
