-- What is chosen for a literal that is due, by what the model tells.
use Rattle.std.proofs.Common.{◌≡◌, ◌≤◌, ℕ, List, length, Option, None, Some, IsSomeAnd, inl, inr, sym, subst, ◌∙◌, slice_get}
use Rattle.dsr_repair_theory.specs.Choices.{Adds, IsToGo, IsUpdateAt}
use Rattle.dsr_repair_theory.specs.Choices.IsUpdateAt.{adds, takes_away}
use Rattle.dsr_repair.proofs.Laws.{fact_to_go, few_updates, first_update, update_of_rule}
use Rattle.dsr_repair_laws.proofs.GreatestFact.{facts_apart}
use Rattle.dsr_repair.proofs.Same.{adds_same, to_go_same}
use Rattle.dsr_repair.specs.Chosen.{IsUpdateBy}
use Rattle.dsr_ir.specs.declared.constraints.Atom.{Atom}
use Rattle.dsr_ir.specs.declared.constraints.Atom.TheVariants as atoms
use Rattle.dsr_ir.specs.declared.constraints.Literal.{Literal}
use Rattle.dsr_ir.specs.declared.declarations.Spec.{Spec}
use Rattle.dsr_ir.specs.declared.layouts.Layout.{Layout}
use Rattle.dsr_ir.specs.declared.tuples.Binding.{Binding}
use Rattle.dsr_ir.specs.declared.tuples.Element.{Element}
use Rattle.dsr_ir.specs.declared.tuples.Fact.{Fact}
use Rattle.dsr_ir.specs.declared.tuples.Fact.TheVariants.{Member, Pair}
use Rattle.dsr_ir.specs.declared.tuples.Instance.{Instance}
use Rattle.dsr_ir.specs.declared.tuples.Target.TheVariants.{Elem}
use Rattle.dsr_ir.specs.declared.updates.Template.{Template}
use Rattle.dsr_ir.specs.declared.updates.Update.{Update}
use Rattle.dsr_meaning.specs.Consistency.{BoundConstraint}
use Rattle.dsr_meaning.specs.Models.{IsDerived, IsDeriver, IsFact}
use Rattle.dsr_meaning.specs.Truth.{element_of}
use Rattle.dsr_plan_theory.specs.Plans.{IsPlan}
use Rattle.dsr_plan_theory.specs.declared.choices.Choice.{Choice}
use Rattle.dsr_repair_theory.specs.Due.{IsDue}
use Rattle.dsr_step_theory.specs.Images.{IsImageOf}
use Rattle.dsr_fixpoint.proofs.SameFacts.{AreSame}

-- ---- one fact is to go

pub to_go_once : (is_fact : Fact → Type 0) (b : Binding) (atom : Atom) (f g : Fact) → IsToGo is_fact b atom f → IsToGo is_fact b atom g → f ≡ g
to_go_once is_fact b (atoms.Member v set) f g first second = named (element_of b v) first second where
  named : (e : Option Element) → IsSomeAnd e (λ x. f ≡ Member set x) → IsSomeAnd e (λ x. g ≡ Member set x) → f ≡ g
  named None a c = absurd a
  named (Some x) a c = a ∙ sym c
to_go_once is_fact b (atoms.Pair v w rel) f g first second = named (element_of b v) (element_of b w) first second where
  named : (d e : Option Element) → IsSomeAnd d (λ x. IsSomeAnd e (λ y. f ≡ Pair rel x (Elem y))) → IsSomeAnd d (λ x. IsSomeAnd e (λ y. g ≡ Pair rel x (Elem y))) → f ≡ g
  named None e a c = absurd a
  named (Some x) None a c = absurd a
  named (Some x) (Some y) a c = a ∙ sym c
to_go_once is_fact b (atoms.Count measure op k) f g first second = elim (facts_apart f g) [
  | inl before ↦ absurd (first.none_after g second.of_kind before)
  | inr (inl same) ↦ same
  | inr (inr behind) ↦ absurd (second.none_after f first.of_kind behind)
]
to_go_once is_fact b (atoms.Value v rel op bound) f g first second = absurd first

-- ---- what there is to choose

module _ (P : Fact → Type 0) (spec : Spec) (choice : Choice) (layout : Layout) (bytes : List ℕ)
    (same : AreSame P (IsFact spec layout bytes)) (image : IsImageOf spec layout bytes) (plan : IsPlan spec choice)
    (v : BoundConstraint) (conj literal : ℕ) (its : Literal) (template : Template)
    (due : IsDue (IsFact spec layout bytes) spec choice v conj literal its template) where
  abbrev back : AreSame (IsFact spec layout bytes) P
  back = λ fact. ((same fact).1, (same fact).0)

  pub adding_there : Adds P v.binding its.atom template.goal → slice_get template.updates 0 ≡ None → ⊥
  adding_there is none =
      let there = first_update spec choice layout bytes v conj literal its template image plan due
      (adds_same P (IsFact spec layout bytes) same v.binding its.atom template.goal is) in
      let wrong : None ≡ Some there.0 = sym none ∙ there.1 in absurd cc

  pub is_adding : (update : Update) → Adds P v.binding its.atom template.goal → slice_get template.updates 0 ≡ Some update
      → IsUpdateAt spec layout bytes v.binding its.atom template 0 update None
  is_adding update is at = adds update (adds_same P (IsFact spec layout bytes) same v.binding its.atom template.goal is) at

  module _ (removes : Adds P v.binding its.atom template.goal → ⊥) where
    not_adds : Adds (IsFact spec layout bytes) v.binding its.atom template.goal → ⊥
    not_adds is = removes (adds_same (IsFact spec layout bytes) P back v.binding its.atom template.goal is)

    pub some_to_go : ((fact : Fact) → IsToGo P v.binding its.atom fact → ⊥) → ⊥
    some_to_go none =
        let there = fact_to_go spec choice layout bytes v conj literal its template image plan due not_adds in
        none there.0 (to_go_same (IsFact spec layout bytes) P back v.binding its.atom there.0 there.1)

    module _ (fact : Fact) (to_go : IsToGo P v.binding its.atom fact) where
      abbrev goes : IsToGo (IsFact spec layout bytes) v.binding its.atom fact
      goes = to_go_same P (IsFact spec layout bytes) same v.binding its.atom fact to_go

      pub it_is_derived : (IsDerived spec layout bytes fact → ⊥) → ⊥
      it_is_derived none =
          let there = fact_to_go spec choice layout bytes v conj literal its template image plan due not_adds in
          let one = to_go_once (IsFact spec layout bytes) v.binding its.atom there.0 fact there.1 goes in
          none (subst (IsDerived spec layout bytes) one there.2)

      module _ (i : Instance) (deriver : IsDeriver spec layout bytes fact i) where
        pub some_update : ((n : ℕ) (update : Update) → IsUpdateBy template i.rule n update → ⊥) → ⊥
        some_update none =
            let there = update_of_rule spec choice layout bytes v conj literal its template fact i image plan due not_adds goes deriver.derived in
            none there.0 there.1 (record { update_is = there.3; takes_away = there.2; rule_is = there.4 })

        pub is_removing : (n : ℕ) (update : Update) → IsUpdateBy template i.rule n update
            → IsUpdateAt spec layout bytes v.binding its.atom template n update (Some i)
        is_removing n update by =
            takes_away n update fact i by.takes_away goes deriver by.update_is by.rule_is

  pub few_here : length template.updates ≤ 200
  few_here = few_updates spec choice layout bytes v conj literal its template image plan due
