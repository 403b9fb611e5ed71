-- What is promised of an update of a listed template that is applied.
use Rattle.std.proofs.Common.{◌≡◌, ◌≢◌, ◌⊎◌, ◌∙◌, ℕ, List, None, Some, slice_get, sym, subst}
use Rattle.std.proofs.lemmas.Option.{same_Some}
use Rattle.dsr_repair_theory.specs.Applications.{IsApplied}
use Rattle.dsr_graph_theory.specs.Breaks.{Breaks, Falsifies}
use Rattle.dsr_graph_laws.proofs.Breaking.{was_violated}
use Rattle.dsr_graph_laws.proofs.Falsifying.{others_stay_true}
use Rattle.dsr_ir.specs.declared.constraints.Constraint.{Constraint}
use Rattle.dsr_ir.specs.declared.constraints.Literal.{Literal}
use Rattle.dsr_ir.specs.declared.declarations.Spec.{Spec}
use Rattle.dsr_ir.specs.declared.layouts.Layout.{Layout}
use Rattle.dsr_ir.specs.declared.tuples.Binding.{Binding}
use Rattle.dsr_ir.specs.declared.updates.Template.{Template}
use Rattle.dsr_ir.specs.declared.updates.Update.{Update}
use Rattle.dsr_graph_theory.specs.Sides.{atom_symbol}
use Rattle.dsr_meaning.specs.Consistency.{IsViolated}
use Rattle.dsr_meaning.specs.Models.{IsFact}
use Rattle.dsr_meaning.specs.Truth.{LiteralHolds}
use Rattle.dsr_plan_theory.specs.Plans.{IsListedAt, owner_at}
use Rattle.dsr_step_theory.specs.declared.steps.Step.{Step}
use Rattle.dsr_template_laws.proofs.Helped.{listed_helped}
use Rattle.dsr_template_laws.proofs.ListedTemplates.{listed_tried}
use Rattle.dsr_template_laws.specs.Helping.{Helps}
use Rattle.dsr_template_laws.specs.Judging.{Application, IsListed}
use Rattle.dsr_update_theory.specs.Templates.{literal_at}
use Rattle.dsr_bound_laws.proofs.Fewer.{StopsSome, in_counts}

-- an update of a template that is listed for the constraint's literal is applied
pub record IsListedApplied (spec : Spec) (constraint : Constraint) (literal : Literal) (number : ℕ) (template : Template)
    (update : Update) (layout : Layout) (step : Step) (old new : List ℕ) : Type 0 where
  pub constraint_is : slice_get spec.constraints step.constraint ≡ Some constraint
  pub literal_is : literal_at constraint step.conj step.literal ≡ Some literal
  pub listed : IsListedAt (owner_at spec step.constraint constraint) step.conj step.literal number template
  pub applied : IsApplied spec template update layout step old new

module _ (spec : Spec) (constraint : Constraint) (literal : Literal) (number : ℕ) (template : Template) (update : Update) (layout : Layout) (step : Step) (old new : List ℕ) (a : IsListedApplied spec constraint literal number template update layout step old new) where
  abbrev pub its : Constraint
  its = a.applied.violated.constraint

  same : constraint ≡ its
  same = same_Some constraint its (sym a.constraint_is ∙ a.applied.violated.declared)

  abbrev pub application : Application
  application = record { spec = spec; template = template; update = update; layout = layout; step = step; old = old; new = new; applied = a.applied }

  pub listed : IsListed application number
  listed = subst (λ c. IsListedAt (owner_at spec step.constraint c) step.conj step.literal number template) same a.listed

-- where it falsifies no other literal of its conjunction, each of them that was true is true then
pub literals_stay :
    (spec : Spec) (constraint : Constraint) (literal : Literal) (number : ℕ) (template : Template) (update : Update)
    (layout : Layout) (step : Step) (old new : List ℕ) (n : ℕ) (other : Literal)
    → IsListedApplied spec constraint literal number template update layout step old new
    → Falsifies (owner_at spec step.constraint constraint) step.conj step.literal template None
    → n ≢ step.literal → literal_at constraint step.conj n ≡ Some other
    → LiteralHolds (IsFact spec layout old) step.binding other
    → LiteralHolds (IsFact spec layout new) step.binding other
literals_stay spec constraint literal number template update layout step old new n other a falsifies different is holds =
    let c = same spec constraint literal number template update layout step old new a in
    let app = application spec constraint literal number template update layout step old new a in
    others_stay_true app (listed_tried app number (listed spec constraint literal number template update layout step old new a))
    (subst (λ k. Falsifies (owner_at spec step.constraint k) step.conj step.literal template None) c falsifies) n other different
    (subst (λ k. literal_at k step.conj n ≡ Some other) c is) step.binding holds

-- where it breaks a constraint for no reason, no binding of that is violated then that wasn't before
pub others_stand_by :
    (spec : Spec) (constraint : Constraint) (literal : Literal) (number : ℕ) (template : Template) (update : Update)
    (layout : Layout) (step : Step) (old new : List ℕ) (n : ℕ) (other : Constraint) (b : Binding)
    → IsListedApplied spec constraint literal number template update layout step old new
    → slice_get spec.constraints n ≡ Some other
    → Breaks (owner_at spec step.constraint constraint) (owner_at spec n other) template None
    → IsViolated (IsFact spec layout new) spec (record { constraint = n; binding = b })
    → IsViolated (IsFact spec layout old) spec (record { constraint = n; binding = b })
others_stand_by spec constraint literal number template update layout step old new n other b a is breaks violated =
    let c = same spec constraint literal number template update layout step old new a in
    let app = application spec constraint literal number template update layout step old new a in
    let o : other ≡ violated.constraint = same_Some other violated.constraint (sym is ∙ violated.declared) in
    was_violated app (listed_tried app number (listed spec constraint literal number template update layout step old new a)) n b violated
    (subst (λ k. Breaks (owner_at spec step.constraint a.applied.violated.constraint) (owner_at spec n k) template None) o
    (subst (λ k. Breaks (owner_at spec step.constraint k) (owner_at spec n other) template None) c breaks))

-- its literal is true then, or it takes facts away, and fewer instances give them
pub templates_help :
    (spec : Spec) (constraint : Constraint) (literal : Literal) (number : ℕ) (template : Template) (update : Update)
    (layout : Layout) (step : Step) (old new : List ℕ)
    → IsListedApplied spec constraint literal number template update layout step old new
    → LiteralHolds (IsFact spec layout new) step.binding literal
    ⊎ StopsSome spec layout old new (atom_symbol literal.atom) template.goal
templates_help spec constraint literal number template update layout step old new a =
    let c = same spec constraint literal number template update layout step old new a in
    let literal_is : literal_at a.applied.violated.constraint step.conj step.literal ≡ Some literal =
    subst (λ k. literal_at k step.conj step.literal ≡ Some literal) c a.literal_is in
    let its : a.applied.literal ≡ literal = same_Some a.applied.literal literal (sym a.applied.literal_is ∙ literal_is) in
    in_counts spec layout template step old new literal
    (subst (Helps spec layout template step old new) its
    (listed_helped (application spec constraint literal number template update layout step old new a) number (listed spec constraint literal number template update layout step old new a)))
