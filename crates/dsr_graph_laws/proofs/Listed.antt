-- An application of a listed template is one of which the laws on listed updates speak.
use Rattle.std.proofs.Common.{◌≡◌, ◌∙◌, ◌+◌, ◌-◌, ℕ, None, Some, sym, ap, subst, slice_get, arith}
use Rattle.std.proofs.lemmas.Option.{same_Some}
use Rattle.dsr_graph_theory.specs.Breaks.{Breaks, Falsifies}
use Rattle.dsr_ir.specs.declared.constraints.Constraint.{Constraint}
use Rattle.dsr_ir.specs.declared.declarations.Spec.{Spec}
use Rattle.dsr_ir.specs.declared.constraints.Literal.{Literal}
use Rattle.dsr_ir.specs.declared.updates.Template.{Template}
use Rattle.dsr_graph_theory.specs.Owners.{Owner}
use Rattle.dsr_plan_theory.specs.Plans.{IsListedAt, owner_at}
use Rattle.dsr_template_laws.proofs.ListedTemplates.{listed_tried}
use Rattle.dsr_template_laws.specs.Judging.{Application, IsListed, owner_of}
use Rattle.dsr_update_theory.specs.Templates.{literal_at}
use Rattle.dsr_graph_laws.proofs.Breaking.{was_violated}
use Rattle.dsr_graph_laws.proofs.Falsifying.{others_stay_true}
use Rattle.dsr_graph_laws.specs.Listed.{IsApplicationOf, IsListedWay, StaysTrue, ViolatesNoMore}

module _ (owner : Owner) (conj literal way : ℕ) (template : Template) (is_way : IsListedWay owner conj literal way template)
    (a : Application) (is : IsApplicationOf owner conj literal template a) where
  found : slice_get a.spec.constraints a.step.constraint ≡ slice_get owner.spec.constraints owner.number
  found = λ k. slice_get (is.spec_is k).constraints (is.constraint_is k)

  constraint_same : a.applied.violated.constraint ≡ owner.constraint
  constraint_same = same_Some a.applied.violated.constraint owner.constraint (sym a.applied.violated.declared ∙ (found ∙ is_way.declared))

  owner_same : owner_of a ≡ owner
  owner_same = λ k. record { spec = is.spec_is k; number = is.constraint_is k; constraint = constraint_same k }

  place : (way + 1) - 1 ≡ way
  place = omega arith

  listed_there : IsListedAt owner conj literal (way + 1) template
  listed_there = record {
    templates = is_way.templates;
    listed = is_way.listed;
    from_one = omega arith;
    template_is = rw place is_way.template_is;
  }

  listed : IsListed a (way + 1)
  listed = subst (λ (x : Owner × ℕ × ℕ × Template). IsListedAt x.0 x.1 x.2 (way + 1) x.3) (λ k. (sym owner_same k, sym is.conj_is k, sym is.literal_is k, sym is.template_is k)) listed_there

  pub violates_no_more : (other : ℕ) (its : Constraint) → slice_get owner.spec.constraints other ≡ Some its → Breaks owner (owner_at owner.spec other its) template None → ViolatesNoMore a other
  violates_no_more other its declared spared b violated =
      let there : slice_get a.spec.constraints other ≡ Some its = ap (λ (s : Spec). slice_get s.constraints other) is.spec_is ∙ declared in
      let same : its ≡ violated.constraint = same_Some its violated.constraint (sym there ∙ violated.declared) in
      let breaks : Breaks (owner_of a) (owner_at a.spec other violated.constraint) a.template None =
      subst (λ (x : Owner × Spec × Constraint × Template). Breaks x.0 (owner_at x.1 other x.2) x.3 None) (λ k. (sym owner_same k, sym is.spec_is k, same k, sym is.template_is k)) spared in
      was_violated a (listed_tried a (way + 1) listed) other b violated breaks

  pub stays_true : Falsifies owner conj literal template None → (n : ℕ) (its : Literal) → (n ≡ literal → ⊥) → literal_at owner.constraint conj n ≡ Some its → StaysTrue a its
  stays_true none n its other there =
      let falsifies : Falsifies (owner_of a) a.step.conj a.step.literal a.template None =
      subst (λ (x : Owner × ℕ × ℕ × Template). Falsifies x.0 x.1 x.2 x.3 None) (λ k. (sym owner_same k, sym is.conj_is k, sym is.literal_is k, sym is.template_is k)) none in
      let here : literal_at a.applied.violated.constraint a.step.conj n ≡ Some its = (λ k. literal_at (constraint_same k) (is.conj_is k) n) ∙ there in
      others_stay_true a (listed_tried a (way + 1) listed) falsifies n its (λ same. other (same ∙ is.literal_is)) here
