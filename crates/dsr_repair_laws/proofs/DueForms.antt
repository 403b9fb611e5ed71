-- What is so of the literal that is due, and of its template.
use Rattle.std.proofs.Common.{◌≡◌, ◌∙◌, ℕ, List, map, Option, None, Some, refl, sym, ap, subst}
use Rattle.std.specs.Prelude.{option_map, slice_get}
use Rattle.std.proofs.lemmas.Option.{same_Some, slice_get-map}
use Rattle.dsr_ir.specs.declared.constraints.Constraint.{Constraint}
use Rattle.dsr_ir.specs.declared.constraints.Literal.{Literal}
use Rattle.dsr_ir.specs.declared.declarations.Spec.{Spec}
use Rattle.dsr_ir.specs.declared.tuples.Binding.{Binding}
use Rattle.dsr_ir.specs.declared.tuples.Fact.{Fact}
use Rattle.dsr_ir.specs.declared.updates.Template.{Template}
use Rattle.dsr_ir.specs.declared.updates.Update.{Update}
use Rattle.dsr_ir.specs.declared.updates.Write.{Write}
use Rattle.dsr_graph_theory.specs.Lists.{compensated_by, with_writes}
use Rattle.dsr_graph_theory.specs.Sides.{IsKept}
use Rattle.dsr_meaning.specs.Consistency.{BoundConstraint, IsBinding}
use Rattle.dsr_meaning.specs.Truth.{LiteralHolds}
use Rattle.dsr_meaning.specs.Typed.{IsTyped, IsTypedLiteral}
use Rattle.dsr_plan_theory.specs.Plans.{IsPlan, owner_at}
use Rattle.dsr_plan_theory.specs.declared.choices.Choice.{Choice}
use Rattle.dsr_repair_theory.specs.Due.{IsDue}
use Rattle.dsr_update_theory.specs.Templates.{KnownSets, TellsKnown}
use Rattle.dsr_repair_laws.proofs.Choosable.{HavePicked, compensation_picked}
use Rattle.dsr_repair_laws.proofs.Forms.{due_form}
use Rattle.dsr_repair_laws.proofs.TriedTemplates.{RawForm, raw_form}
use Rattle.dsr_repair_laws.proofs.TypedLiterals.{typed_in}

-- the literal is a false one of a constraint at a binding, and the template is one of three forms, with more writes
pub record IsDueForm (is_fact : Fact → Type 0) (spec : Spec) (b : Binding) (its : Literal) (template : Template) : Type 0 where
  pub number : ℕ
  pub constraint : Constraint
  pub is_binding : IsBinding is_fact constraint.quant b
  pub typed : IsTypedLiteral spec constraint.quant its
  pub is_false : LiteralHolds is_fact b its → ⊥
  pub raw : Template
  pub known : KnownSets
  pub tells : TellsKnown spec constraint.quant known
  pub form : RawForm spec known its.atom its.negated raw
  pub more : List Write
  pub picked : HavePicked b more
  pub is : template ≡ compensated_by raw more
  pub kept : IsKept (owner_at spec number constraint) its.atom template

pub form_of : (is_fact : Fact → Type 0) (spec : Spec) (choice : Choice) (v : BoundConstraint) (conj literal : ℕ) (its : Literal) (template : Template) → IsTyped spec → IsPlan spec choice → IsDue is_fact spec choice v conj literal its template → IsDueForm is_fact spec v.binding its template
form_of is_fact spec choice v conj literal its template typed plan due =
    let form = due_form is_fact spec choice v conj literal its template plan due in
    let declared = due.binding_is.row_of.constraint_is in
    let violated = due.binding_is.violated in
    let same : violated.constraint ≡ due.constraint = same_Some violated.constraint due.constraint (sym violated.declared ∙ declared) in
    let bound = subst (λ (c : Constraint). IsBinding is_fact c.quant v.binding) same violated.is_binding in
    let its_typed = (typed_in spec typed v.constraint due.constraint conj literal its declared due.literal_is.repaired.literal_is).literal_typed in
    record {
      number = v.constraint;
      constraint = due.constraint;
      is_binding = bound;
      typed = its_typed;
      is_false = due.literal_is.repaired.is_false;
      raw = form.raw;
      known = form.known;
      tells = form.tells;
      form = raw_form spec form.known due.constraint.quant its.atom its.negated form.tried form.raw its_typed.negated form.are_tried form.is_tried;
      more = form.more;
      picked = λ write among. compensation_picked v.binding (owner_at spec v.constraint due.constraint) form.raw write (form.compensations, form.are_compensations, form.of_compensations write among);
      is = form.is;
      kept = form.kept;
    }

-- ---- updates of a compensated template

pub at_compensated : (template raw : Template) (more : List Write) (updates : List Update) (n : ℕ) (u : Update) → template ≡ compensated_by raw more → raw.updates ≡ updates → slice_get updates n ≡ Some u → slice_get template.updates n ≡ Some (with_writes more u)
at_compensated template raw more updates n u is are at =
    ap (λ (t : Template). slice_get t.updates n) is ∙ (ap (λ us. slice_get (map (with_writes more) us) n) are ∙ (slice_get-map (with_writes more) updates n ∙ ap (option_map (with_writes more)) at))

-- what stands at a place
pub record IsWithWrites (more : List Write) (updates : List Update) (n : ℕ) (update : Update) : Type 0 where
  pub bare : Update
  pub there : slice_get updates n ≡ Some bare
  pub is : update ≡ with_writes more bare

pub of_compensated : (template raw : Template) (more : List Write) (updates : List Update) (n : ℕ) (update : Update) → template ≡ compensated_by raw more → raw.updates ≡ updates → slice_get template.updates n ≡ Some update → IsWithWrites more updates n update
of_compensated template raw more updates n update is are at =
    let mapped_one : option_map (with_writes more) (slice_get updates n) ≡ Some update = sym (ap (λ (t : Template). slice_get t.updates n) is ∙ (ap (λ us. slice_get (map (with_writes more) us) n) are ∙ slice_get-map (with_writes more) updates n)) ∙ at in
    by_option (slice_get updates n) refl mapped_one where
      by_option : (o : Option Update) → slice_get updates n ≡ o → option_map (with_writes more) o ≡ Some update → IsWithWrites more updates n update
      by_option None e q = absurd cc
      by_option (Some u) e q = record { bare = u; there = e; is = sym (same_Some (with_writes more u) update q) }

pub goal_same : (template raw : Template) (more : List Write) → template ≡ compensated_by raw more → raw.goal ≡ template.goal
goal_same template raw more is = sym (ap (λ t. t.goal) is)
