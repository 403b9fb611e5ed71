-- Where an update is to make its rule's instance give something, that gives nothing before.
use Rattle.std.proofs.Common.{◌≡◌, ◌∙◌, ◌⊎◌, ℕ, zero, suc, false, ◌∷◌, None, Some, MatchBool, inl, inr, refl, sym, ap, subst, slice_get}
use Rattle.std.proofs.lemmas.Bool.{and_parts}
use Rattle.dsr_repair_theory.specs.Choices.{Adds, CountsNothing, IsPlace, TakesAway}
use Rattle.dsr_effect_laws.specs.Judged.{IsSilent}
use Rattle.dsr_repair_laws.proofs.LastGiven.{given_by}
use Rattle.dsr_repair_laws.proofs.MakingRecords.{place_named}
use Rattle.dsr_repair_laws.proofs.PlainSets.{as_fact, given_plain}
use Rattle.dsr_repair_laws.proofs.RawUpdates.{IsFirstChosen}
use Rattle.dsr_repair_laws.proofs.TriedSteps.{chosen_kind, own_place}
use Rattle.dsr_repair_laws.proofs.TriedTemplates.{single_span}
use Rattle.dsr_repair_laws.proofs.TriedUpdates.{GivesCounted, IsAdder, IsAdding, IsJoining, IsSupplying}
use Rattle.dsr_ir.specs.Rules.{target_of}
use Rattle.dsr_ir.specs.declared.constraints.Atom.{Atom}
use Rattle.dsr_ir.specs.declared.constraints.Atom.TheVariants as atoms
use Rattle.dsr_ir.specs.declared.constraints.Measure.{Measure}
use Rattle.dsr_ir.specs.declared.constraints.Measure.TheVariants.{Into, Out, Whole}
use Rattle.dsr_ir.specs.declared.constraints.Var.{Var}
use Rattle.dsr_ir.specs.declared.rules.Op.{Op}
use Rattle.dsr_ir.specs.declared.rules.Op.TheVariants.{Eq, Ge}
use Rattle.dsr_ir.specs.declared.rules.Rule.{Rule}
use Rattle.dsr_ir.specs.declared.tuples.Fact.{Fact}
use Rattle.dsr_ir.specs.declared.tuples.Fact.TheVariants.{Member, Pair}
use Rattle.dsr_ir.specs.declared.tuples.Instance.{Instance}
use Rattle.dsr_ir.specs.declared.updates.Goal.{Goal}
use Rattle.dsr_ir.specs.declared.updates.Goal.TheVariants as goals
use Rattle.dsr_ir.specs.declared.updates.Symbol.{Symbol}
use Rattle.dsr_ir.specs.declared.updates.Update.{Update}
use Rattle.dsr_graph_theory.specs.Owners.{goal_at}
use Rattle.dsr_meaning.specs.Instances.{Includes}
use Rattle.dsr_meaning.specs.Models.{IsDerived, IsFact}
use Rattle.dsr_meaning.specs.Truth.{AtomHolds, element_of}
use Rattle.dsr_update_theory.specs.Changes.{Change}
use Rattle.dsr_update_theory.specs.Givers.{is_single}
use Rattle.dsr_update_theory.specs.Templates.{counted_symbol, starts_at}
use Rattle.dsr_update_theory.specs.Touching.{MakesFire}
use Rattle.dsr_template_laws.specs.Judging.{Application, change_in, owner_of}
use Rattle.dsr_template_laws.specs.Tried.{IsTriedAt}
use Rattle.dsr_template_laws.proofs.CountedFacts.{counted_some}
use Rattle.dsr_template_laws.proofs.TriedApplications.{tried_step}
use Rattle.dsr_meaning.proofs.Options.{and_some}

-- an update that takes a fact away makes nothing fire
takes_quiet : (goal : Goal) (n : ℕ) → TakesAway goal n → MakesFire (goal_at goal n) → ⊥
takes_quiet goals.RemoveSet n takes fires = fires
takes_quiet goals.RemoveTuple n takes fires = fires
takes_quiet goals.Trim n takes fires = fires
takes_quiet goals.ExactlyOne zero takes fires = takes
takes_quiet goals.ExactlyOne (suc n) takes fires = fires
takes_quiet goals.AddSet n takes fires = takes
takes_quiet goals.AddTuple n takes fires = takes
takes_quiet goals.SetValue n takes fires = takes
takes_quiet goals.Supply n takes fires = takes

module _ (a : Application) (t : IsTriedAt (owner_of a) a.applied.literal a.template a.step.update a.update) where
  abbrev J : Change
  J = change_in a

  abbrev is_fact : Fact → Type 0
  is_fact = IsFact a.spec a.layout a.old

  abbrev atom : Atom
  atom = a.applied.literal.atom

  abbrev u : Update
  u = t.own

  module _ (symbol : Symbol) (v : Var) (rule : Rule) (adding : IsAdding a.spec t.known symbol v rule u) where
    named : element_of a.step.binding v ≡ Some a.step.elem
    named = place_named v a.step.binding a.applied.chosen.stopped a.step.elem (subst (λ p. IsPlace a.step.binding a.applied.chosen.stopped p a.step.elem) adding.place_is (own_place a.spec a.layout a.old a.step a.update (tried_step a t)))

    -- where nothing that the rule includes at the record is derived
    silent_rule : (target_of rule.inc ≡ None) ⊎ (J.goal ≡ goals.Supply) → ((i : Instance) (fact : Fact) → i.elem ≡ a.step.elem → Includes a.spec a.layout a.old i rule.inc fact → IsDerived a.spec a.layout a.old fact → ⊥) → IsSilent J a.layout a.step a.old
    silent_rule plain nothing =
        let own_is : slice_get a.spec.rules a.update.rule ≡ Some rule = ap (slice_get a.spec.rules) t.grown.rule_same ∙ adding.giver.rule_is in
        record {
          own = rule;
          own_is = own_is;
          single = single_span rule.span (and_parts (is_single rule.span) (starts_at t.known v rule) adding.serves_it).0;
          plain = plain;
          gives_nothing = λ i fact number elem by.
              let gives = given_by a.spec a.layout a.old i fact rule (ap (slice_get a.spec.rules) number ∙ own_is) by in
              nothing i fact elem gives.included (i ∷ by.0, by.1);
        }

  -- the record that is to become a member isn't one
  join_silent : (goal : Goal) (j : IsJoining a.spec t.known goal atom u) → (AtomHolds is_fact a.step.binding (atoms.Member j.v j.set) → ⊥) → IsSilent J a.layout a.step a.old
  join_silent goal j none =
      silent_rule _ j.v j.rule j.adding_is (inl (ap target_of j.inc_is)) (λ i fact elem included d.
      let is : fact ≡ Member j.set i.elem = subst (λ inc. Includes a.spec a.layout a.old i inc fact) j.inc_is included in
      let at : fact ≡ Member j.set a.step.elem = is ∙ ap (Member j.set) elem in
      let plain = given_plain a.spec a.applied.image.typed j.set u.rule j.rule j.adding_is.giver in
      none (and_some (element_of a.step.binding j.v) (λ x. is_fact (Member j.set x)) a.step.elem (named _ j.v j.rule j.adding_is)
      (as_fact a.spec a.layout a.old j.set a.step.elem plain (subst (IsDerived a.spec a.layout a.old) at d))))

  -- nothing is counted where one more is to be
  supply_silent : J.goal ≡ goals.Supply → (measure : Measure) (op : Op) (k : ℕ) → IsSupplying a.spec t.known measure u → CountsNothing is_fact a.step.binding (atoms.Count measure op k) → IsSilent J a.layout a.step a.old
  supply_silent supply measure op k y none = silent_rule _ y.v y.rule y.adding_is (inr supply) (λ i fact elem included d. counted measure y.counted none y.adding_is i fact elem included d) where
    counted : (m : Measure) → GivesCounted m y.v y.path y.rule.inc → CountsNothing is_fact a.step.binding (atoms.Count m op k) → IsAdding a.spec t.known (counted_symbol m) y.v y.rule u
        → (i : Instance) (fact : Fact) → i.elem ≡ a.step.elem → Includes a.spec a.layout a.old i y.rule.inc fact → IsDerived a.spec a.layout a.old fact → ⊥
    counted (Whole set) inc_is none adding i fact elem included d =
        let h = subst (λ inc. Includes a.spec a.layout a.old i inc fact) inc_is included in
        let plain = given_plain a.spec a.applied.image.typed set u.rule y.rule adding.giver in
        none (Member set h.0) refl (as_fact a.spec a.layout a.old set h.0 plain (subst (IsDerived a.spec a.layout a.old) h.2 d))
    counted (Out w rel) own adding_none adding i fact elem included d =
        let h = subst (λ inc. Includes a.spec a.layout a.old i inc fact) own.0 included in
        let at : element_of a.step.binding w ≡ Some i.elem = ap (element_of a.step.binding) (sym own.1) ∙ (named _ y.v y.rule adding ∙ ap Some (sym elem)) in
        adding_none (Pair rel i.elem h.0) (refl, at) (subst (IsDerived a.spec a.layout a.old) h.2 d)
    counted (Into rel w) never none adding i fact elem included d = never

  -- the literal isn't negated, and false
  atom_false : a.applied.literal.negated ≡ false → AtomHolds is_fact a.step.binding atom → ⊥
  atom_false plain holds = a.applied.is_false (subst (λ b. MatchBool b (AtomHolds is_fact a.step.binding atom → ⊥) (AtomHolds is_fact a.step.binding atom)) (sym plain) holds)

  first_silent : (f : IsFirstChosen a.spec t.known is_fact a.step.binding a.template.goal atom a.applied.literal.negated a.step.update u) → IsAdder a.spec t.known a.template.goal atom u → MakesFire J.goal → IsSilent J a.layout a.step a.old
  first_silent f (IsAdder.joins j) fires = join_silent a.template.goal j (λ holds. atom_false f.plain (subst (AtomHolds is_fact a.step.binding) (sym j.atom_is) holds))
  first_silent f (IsAdder.relates r) fires = absurd (subst (λ g. MakesFire (goal_at g a.step.update)) r.goal_is fires)
  first_silent f (IsAdder.supplies_some measure goal_is atom_is y) fires =
      supply_silent (ap (λ g. goal_at g a.step.update) goal_is) measure Ge 1 y
      (λ fact counts is. atom_false f.plain (subst (AtomHolds is_fact a.step.binding) (sym atom_is) (counted_some a.spec a.layout a.old a.step.binding measure fact counts is)))
  first_silent f (IsAdder.supplies_one measure goal_is atom_is y) fires =
      let nothing : CountsNothing is_fact a.step.binding atom = subst (λ g. Adds is_fact a.step.binding atom g) goal_is f.adds in
      supply_silent (ap (λ g. goal_at g a.step.update) goal_is ∙ ap (goal_at goals.ExactlyOne) f.first) measure Eq 1 y (subst (CountsNothing is_fact a.step.binding) atom_is nothing)
  first_silent f (IsAdder.sets y) fires = absurd (subst (λ g. MakesFire (goal_at g a.step.update)) y.goal_is fires)

  pub silent : MakesFire J.goal → IsSilent J a.layout a.step a.old
  silent fires = elim (chosen_kind a.spec a.layout a.old a.step a.update (tried_step a t)) as (λ _. IsSilent J a.layout a.step a.old) [
    | inl first ↦ first_silent first first.adder fires
    | inr stop ↦ absurd (takes_quiet a.template.goal a.step.update stop.removing.takes fires)
  ]
