-- The updates of a template that is due.
use Rattle.std.proofs.Common.{◌≡◌, ◌∙◌, ◌≤◌, ◌-◌, ℕ, suc, nat_eq, false, List, [], ◌∷◌, length, min, Option, Some, inl, inr, refl, sym, ap, subst, arith}
use Rattle.std.specs.Prelude.{option_map, slice_get}
use Rattle.std.proofs.Math.Nat.{min-le_right}
use Rattle.std.proofs.lemmas.Bool.Decides.{nat_tests}
use Rattle.dsr_repair_theory.specs.Choices.{Adds, IsToGo, TakesAway}
use Rattle.dsr_ir.specs.declared.constraints.Literal.{Literal}
use Rattle.dsr_ir.specs.declared.constraints.Var.{Var}
use Rattle.dsr_ir.specs.declared.declarations.Spec.{Spec}
use Rattle.dsr_ir.specs.declared.layouts.Layout.{Layout}
use Rattle.dsr_ir.specs.declared.rules.Rule.{Rule}
use Rattle.dsr_ir.specs.declared.tuples.Binding.{Binding}
use Rattle.dsr_ir.specs.declared.tuples.Fact.{Fact}
use Rattle.dsr_ir.specs.declared.tuples.Instance.{Instance}
use Rattle.dsr_ir.specs.declared.updates.Symbol.{Symbol}
use Rattle.dsr_ir.specs.declared.updates.Template.{Template}
use Rattle.dsr_ir.specs.declared.updates.Update.{Update}
use Rattle.dsr_graph_theory.specs.Lists.{with_writes}
use Rattle.dsr_graph_theory.specs.Sides.{atom_symbol}
use Rattle.dsr_meaning.specs.Counting.{IsIn}
use Rattle.dsr_meaning.specs.Looking.{symbol_of}
use Rattle.dsr_meaning.specs.Models.{IsDerivedBy, IsFact}
use Rattle.dsr_update_theory.specs.Givers.{IsGiver, givers}
use Rattle.dsr_update_theory.specs.Options.{options}
use Rattle.dsr_update_theory.specs.Templates.{item_or_last, removal_updates, removing}
use Rattle.dsr_repair_laws.proofs.DueForms.{IsDueForm, at_compensated, goal_same}
use Rattle.dsr_repair_laws.proofs.TriedTemplates.{GoalAdds, IsRemoval, IsTakenBy}
use Rattle.dsr_repair_laws.proofs.LastGiven.{derived_by}
use Rattle.dsr_repair_laws.proofs.ToGoFacts.{to_go_symbol}
use Rattle.dsr_step_laws.proofs.GivenSymbols.{giver_of as gives_symbol}
use Rattle.dsr_repair_laws.proofs.TriedUpdates.{taken_var}
use Rattle.dsr_repair_laws.proofs.TakenGoals.{adding_adds, taking_adds_none, taking_takes}
use Rattle.dsr_meaning.proofs.Items.{filter_in, item_there, none_of, place_of}
use Rattle.dsr_plan_laws.proofs.KnownSets.{giver_in}

-- ---- the first update of one that adds

module _ (is_fact : Fact → Type 0) (spec : Spec) (b : Binding) (its : Literal) (template : Template) (due : IsDueForm is_fact spec b its template) where
  same_goal : due.raw.goal ≡ template.goal
  same_goal = goal_same template due.raw due.more due.is

  pub first_there : Adds is_fact b its.atom template.goal → (update : Update) × (slice_get template.updates 0 ≡ Some update)
  first_there adds = elim due.form [
    | inl one ↦ (with_writes due.more one.update, at_compensated template due.raw due.more (one.update ∷ []) 0 one.update due.is one.are refl)
    | inr (inl removes) ↦ absurd (taking_adds_none is_fact b its.atom its.negated template.goal (subst (λ g. IsTakenBy g its.atom its.negated) same_goal removes.goal) adds)
    | inr (inr both) ↦ (with_writes due.more both.update, at_compensated template due.raw due.more (both.update ∷ both.rest) 0 both.update due.is both.are refl)
  ]

-- ---- the rule of an instance

-- an instance that gives a fact is one of a rule of the fact's symbol
pub giver_of : (spec : Spec) (layout : Layout) (bytes : List ℕ) (i : Instance) (fact : Fact) → IsDerivedBy spec layout bytes i fact → (rule : Rule) × IsGiver spec (symbol_of fact) i.rule rule
giver_of spec layout bytes i fact derived =
    let given = derived_by spec layout bytes i fact derived in
    (given.rule, record { rule_is = given.gives.is_instance.rule_is; gives = gives_symbol spec layout bytes i given.rule.inc fact given.gives.included })

-- ---- the update of a rule

pub last_there : {T : Type 0} (xs : List T) (j : ℕ) → nat_eq (length xs) 0 ≡ false → (x : T) × (item_or_last xs j ≡ Some x)
last_there xs j some =
    let most = min-le_right j (length xs - 1) in
    let one : 1 ≤ length xs = grind (arith, nat_tests, some) in
    item_there xs (min j (length xs - 1)) (omega (arith, most, one))

-- the update of the rule stands at some place
pub record HasUpdateOf (updates : List Update) (k : ℕ) : Type 0 where
  pub place : ℕ
  pub update : Update
  pub there : slice_get updates place ≡ Some update
  pub rule_is : update.rule ≡ k

pub update_of : (spec : Spec) (symbol : Symbol) (v : Option Var) (updates : List Update) (k : ℕ) (rule : Rule) → IsRemoval spec symbol v updates → IsGiver spec symbol k rule → HasUpdateOf updates k
update_of spec symbol v updates k rule removal giver =
    let rules = givers spec symbol in
    let among : IsIn {A = ℕ × Rule} (k, rule) rules = giver_in spec symbol k rule giver in
    let able : nat_eq (length (options spec.base rule)) 0 ≡ false = none_of (λ (r : ℕ × Rule). nat_eq (length (options spec.base r.1)) 0) rules removal.able (k, rule) among in
    let write = last_there (options spec.base rule) removal.number able in
    let made : option_map (removing v k rule) (item_or_last (options spec.base rule) removal.number) ≡ Some (removing v k rule write.0) = ap (option_map (removing v k rule)) write.1 in
    let is_in = filter_in (λ (r : ℕ × Rule). option_map (removing v r.0 r.1) (item_or_last (options spec.base r.1) removal.number)) rules (k, rule) (removing v k rule write.0) among made in
    let at = place_of (removal_updates spec.base v removal.number rules) (removing v k rule write.0) is_in in
    record { place = at.0; update = removing v k rule write.0; there = ap (λ us. slice_get us at.0) removal.are ∙ at.1; rule_is = refl }

module _ (spec : Spec) (layout : Layout) (bytes : List ℕ) (b : Binding) (its : Literal) (template : Template) (due : IsDueForm (IsFact spec layout bytes) spec b its template) where
  pub taking_there :
      (fact : Fact) (i : Instance) → (Adds (IsFact spec layout bytes) b its.atom template.goal → ⊥)
      → IsToGo (IsFact spec layout bytes) b its.atom fact → IsDerivedBy spec layout bytes i fact
      → (n : ℕ) × (update : Update) × TakesAway template.goal n × (slice_get template.updates n ≡ Some update) × (update.rule ≡ i.rule)
  taking_there fact i not_adds to_go derived =
      let goal = same_goal (IsFact spec layout bytes) spec b its template due in
      let giver = giver_of spec layout bytes i fact derived in
      let of_atom : IsGiver spec (atom_symbol its.atom) i.rule giver.0 = subst (λ s. IsGiver spec s i.rule giver.0) (to_go_symbol b (IsFact spec layout bytes) its.atom fact to_go) giver.1 in
      elim due.form [
        | inl one ↦ absurd (not_adds (adding_adds (IsFact spec layout bytes) b its.atom template.goal (subst GoalAdds goal one.goal)))
        | inr (inl removes) ↦
            let by = update_of spec (atom_symbol its.atom) (taken_var its.atom) due.raw.updates i.rule giver.0 removes.removal of_atom in (
              by.place,
              with_writes due.more by.update,
              taking_takes its.atom its.negated template.goal by.place (subst (λ g. IsTakenBy g its.atom its.negated) goal removes.goal),
              at_compensated template due.raw due.more due.raw.updates by.place by.update due.is refl by.there,
              by.rule_is,
            )
        | inr (inr both) ↦
            let by = update_of spec (atom_symbol its.atom) (taken_var its.atom) both.rest i.rule giver.0 both.removal of_atom in (
              suc by.place,
              with_writes due.more by.update,
              subst (λ g. TakesAway g (suc by.place)) (sym both.goal ∙ goal) tt,
              at_compensated template due.raw due.more (both.update ∷ both.rest) (suc by.place) by.update due.is both.are by.there,
              by.rule_is,
            )
      ]
