-- An update that is tried, and serves what it is for, helps its literal.
use Rattle.std.proofs.Common.{◌≡◌, ◌∙◌, ℕ, zero, suc, Some, MatchBool, inl, inr, refl, sym, subst}
use Rattle.std.proofs.lemmas.Option.{same_Some}
use Rattle.dsr_repair_theory.specs.Choices.{Adds, CountsNothing, TakesAway}
use Rattle.dsr_effect_laws.specs.Allowed.{Allows}
use Rattle.dsr_effect_laws.proofs.FactChanges.{new_facts_lie}
use Rattle.dsr_repair_laws.proofs.RawUpdates.{IsFirstChosen}
use Rattle.dsr_repair_laws.proofs.TriedSteps.{chosen_kind}
use Rattle.dsr_repair_laws.proofs.TriedUpdates.{IsAdder}
use Rattle.dsr_ir.specs.declared.constraints.Atom.{Atom}
use Rattle.dsr_ir.specs.declared.constraints.Atom.TheVariants as atoms
use Rattle.dsr_ir.specs.declared.constraints.Measure.{Measure}
use Rattle.dsr_ir.specs.declared.constraints.Measure.TheVariants.{Whole, Out, Into}
use Rattle.dsr_ir.specs.declared.rules.Op.TheVariants.{Eq, Ge}
use Rattle.dsr_ir.specs.declared.tuples.Element.{Element}
use Rattle.dsr_ir.specs.declared.tuples.Fact.{Fact}
use Rattle.dsr_ir.specs.declared.tuples.Fact.TheVariants.{Member}
use Rattle.dsr_ir.specs.declared.tuples.Target.TheVariants.{Elem}
use Rattle.dsr_ir.specs.declared.updates.Goal.{Goal}
use Rattle.dsr_ir.specs.declared.updates.Goal.TheVariants as goals
use Rattle.dsr_graph_theory.specs.Owners.{Keeps, KeepsPremise}
use Rattle.dsr_graph_theory.specs.Sides.{KeepsBound, MayServe, SuppliesOne, atom_symbol}
use Rattle.dsr_meaning.specs.Models.{IsFact}
use Rattle.dsr_meaning.specs.Truth.{AtomHolds, LiteralHolds}
use Rattle.dsr_update_theory.specs.Changes.{Change}
use Rattle.dsr_update_theory.specs.declared.effects.Direction.TheVariants.{Gain, Loss}
use Rattle.dsr_template_laws.specs.Helping.{IsHelped}
use Rattle.dsr_template_laws.specs.Judging.{Application, IsListed, change_in}
use Rattle.dsr_template_laws.specs.Tried.{IsTried}
use Rattle.dsr_template_laws.proofs.AddedFacts.{IsCountedFact, joined_holds, related_holds, supplied}
use Rattle.dsr_template_laws.proofs.CountedFacts.{one_member, one_pair, some_member, some_target}
use Rattle.dsr_template_laws.proofs.FewerActive.{fewer}
use Rattle.dsr_template_laws.proofs.ListedTemplates.{listed_serves, listed_tried}
use Rattle.dsr_template_laws.proofs.MadeAsJudged.{made}
use Rattle.dsr_template_laws.proofs.SetValues.{set_holds}
use Rattle.dsr_template_laws.proofs.TriedApplications.{legal, tried_step}

-- where facts are taken away the literal's symbol gains nothing
taking_keeps : (c : Change) (goal : Goal) (atom : Atom) (n : ℕ) → TakesAway goal n → MayServe goal atom n c → Keeps c Gain (atom_symbol atom)
taking_keeps c goals.RemoveSet atom n takes serves = serves
taking_keeps c goals.RemoveTuple atom n takes serves = serves
taking_keeps c goals.Trim atom n takes serves = serves
taking_keeps c goals.ExactlyOne atom zero takes serves = absurd takes
taking_keeps c goals.ExactlyOne atom (suc n) takes serves = serves
taking_keeps c goals.AddSet atom n takes serves = absurd takes
taking_keeps c goals.AddTuple atom n takes serves = absurd takes
taking_keeps c goals.SetValue atom n takes serves = absurd takes
taking_keeps c goals.Supply atom n takes serves = absurd takes

module _ (a : Application) (t : IsTried a) where
  abbrev was_fact : Fact → Type 0
  was_fact = IsFact a.spec a.layout a.old

  abbrev is_fact : Fact → Type 0
  is_fact = IsFact a.spec a.layout a.new

  abbrev J : Change
  J = change_in a

  abbrev atom : Atom
  atom = a.applied.literal.atom

  abbrev Holds : Atom → Type 0
  Holds = AtomHolds is_fact a.step.binding

  -- ---- sizes

  some_holds : (measure : Measure) (e : Element) → IsCountedFact a t measure e → Holds (atoms.Count measure Ge 1)
  some_holds (Whole set) e is = some_member a.spec a.layout a.new a.step.binding set e is
  some_holds (Out v rel) e is = some_target a.spec a.layout a.new a.step.binding v rel a.step.elem (Elem e) is.0 is.1
  some_holds (Into rel v) e is = absurd is

  -- where nothing was there, the fresh record alone is
  one_holds : (measure : Measure) (e : Element) → a.step.fresh ≡ Some e → IsCountedFact a t measure e → CountsNothing was_fact a.step.binding (atoms.Count measure Eq 1) → SuppliesOne J (atoms.Count measure Eq 1) → Holds (atoms.Count measure Eq 1)
  one_holds (Whole set) e fresh is nothing one =
      one_member a.spec a.layout a.new a.step.binding set e is (λ x its.
      let lies = new_facts_lie J a.layout a.step a.old a.new (made a t) (Member set x) its (nothing (Member set x) refl) in
      let at : a.step.fresh ≡ Some x = subst (λ tag. Allows a.step tag x) (one lies.tag lies.listed) lies.allowed in
      same_Some x e (sym at ∙ fresh))
  one_holds (Out v rel) e fresh is nothing one = one_pair a.spec a.layout a.new a.step.binding v rel a.step.elem (Elem e) (legal a) one is.0 is.1
  one_holds (Into rel v) e fresh is nothing one = absurd is

  -- ---- an update that adds or sets makes the atom true

  adder_holds : (goal : Goal) → IsAdder a.spec t.tried.known goal atom t.tried.own → Adds was_fact a.step.binding atom goal → MayServe goal atom 0 J → Holds atom
  adder_holds goal (IsAdder.joins j) adds serves = subst Holds (sym j.atom_is) (joined_holds a t goal atom j (subst (λ g. MayServe g atom 0 J) j.goal_is serves))
  adder_holds goal (IsAdder.relates r) adds serves = subst Holds (sym r.atom_is) (related_holds a t goal atom r (subst (λ g. MayServe g atom 0 J) r.goal_is serves))
  adder_holds goal (IsAdder.supplies_some measure goal_is atom_is y) adds serves =
      let e = supplied a t measure y (subst (λ g. MayServe g atom 0 J) goal_is serves) in
      subst Holds (sym atom_is) (some_holds measure e.0 e.2)
  adder_holds goal (IsAdder.supplies_one measure goal_is atom_is y) adds serves =
      let keeps : KeepsPremise J Loss × SuppliesOne J atom = subst (λ g. MayServe g atom 0 J) goal_is serves in
      let nothing : CountsNothing was_fact a.step.binding atom = subst (Adds was_fact a.step.binding atom) goal_is adds in
      let e = supplied a t measure y keeps.0 in
      subst Holds (sym atom_is) (one_holds measure e.0 e.1 e.2 (subst (CountsNothing was_fact a.step.binding) atom_is nothing) (subst (SuppliesOne J) atom_is keeps.1))
  adder_holds goal (IsAdder.sets y) adds serves =
      let keeps : KeepsBound J atom = (subst (λ g. MayServe g atom 0 J) y.goal_is serves).1 in
      subst Holds (sym y.atom_is) (set_holds a t goal atom y (subst (KeepsBound J) y.atom_is keeps))

  first_holds : MayServe a.template.goal atom a.step.update J → IsFirstChosen a.spec t.tried.known was_fact a.step.binding a.template.goal atom a.applied.literal.negated a.step.update t.tried.own → LiteralHolds is_fact a.step.binding a.applied.literal
  first_holds serves first =
      subst (λ n. MatchBool n (Holds atom → ⊥) (Holds atom)) (sym first.plain)
      (adder_holds a.template.goal first.adder first.adds (subst (λ n. MayServe a.template.goal atom n J) first.first serves))

  pub helped : MayServe a.template.goal atom a.step.update J → IsHelped a
  helped serves = elim (chosen_kind a.spec a.layout a.old a.step a.update (tried_step a t.tried)) as (λ _. IsHelped a) [
    | inl first ↦ inl (first_holds serves first)
    | inr stop ↦ inr (stop.removing.takes, fewer a t (taking_keeps J a.template.goal atom a.step.update stop.removing.takes serves) stop)
  ]

pub listed_helped : (a : Application) (number : ℕ) → IsListed a number → IsHelped a
listed_helped a number listed = helped a (listed_tried a number listed) (listed_serves a number listed)
