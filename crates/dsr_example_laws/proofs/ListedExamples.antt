-- Templates of the examples that are listed: each is the only one that is tried, and nothing compensates it.
use Rattle.std.proofs.Common.{◌≡◌, ◌∙◌, zero, suc, List, [], ◌∷◌, refl, sym, ap, subst, arith}
use Rattle.std.specs.Prelude.{MatchOption}
use Rattle.std.proofs.lemmas.Bool.{false≢true}
use Rattle.std.proofs.lemmas.Option.{same_Some, none-some}
use Rattle.dsr_step_laws.proofs.Given.{from_head, marked, of_node}
use Rattle.dsr_step_laws.proofs.Shown.{example_0, example_1, example_2, example_3, example_5, example_8}
use Rattle.dsr_step_laws.proofs.Tried.{assign, cut, join, mark, supply, template_of, unmark}
use Rattle.dsr_step_laws.specs.Examples.{Example}
use Rattle.dsr_ir.specs.declared.constraints.Atom.{Atom}
use Rattle.dsr_ir.specs.declared.updates.Goal.{Goal}
use Rattle.dsr_ir.specs.declared.updates.Goal.TheVariants.{AddSet, AddTuple, RemoveSet, RemoveTuple, SetValue, Supply}
use Rattle.dsr_ir.specs.declared.updates.Template.{Template}
use Rattle.dsr_ir.specs.declared.updates.Update.{Update}
use Rattle.dsr_graph_theory.specs.Candidates.{AreCompensations, ArePreventing}
use Rattle.dsr_graph_theory.specs.Lists.{AreCompensable, AreListed, AreTaken}
use Rattle.dsr_graph_theory.specs.Owners.{Owner, change_of, goal_at}
use Rattle.dsr_graph_theory.specs.Sides.{IsKept, MayBeMade, MayServe}
use Rattle.dsr_template_laws.specs.Judging.{IsListed, owner_of}
use Rattle.dsr_update_theory.specs.Templates.{AreRawOf}
use Rattle.dsr_example_laws.specs.Examples.{HasListedExample, application_of}
use Rattle.dsr_example_laws.proofs.TriedExamples.{may_0, may_1, may_2, may_3, may_5, may_8, serves_0, serves_1, serves_2, serves_3, serves_5, serves_8}

-- a template of one update is kept, where that serves
kept_alone : (owner : Owner) (atom : Atom) (goal : Goal) (update : Update) → MayBeMade (change_of owner (goal_at goal 0) update) × MayServe goal atom 0 (change_of owner (goal_at goal 0) update) → IsKept owner atom (template_of goal (update ∷ []))
kept_alone owner atom goal update its zero c j =
    let same : update ≡ j.update = same_Some update j.update j.update_is in
    let is : change_of owner (goal_at goal 0) update ≡ c = ap (change_of owner (goal_at goal 0)) same ∙ sym j.change_is in
    subst (λ x. MayBeMade x × MayServe goal atom 0 x) is its
kept_alone owner atom goal update its (suc n) c j = absurd (none-some j.update j.update_is)

abbrev owner_in : {goal : Goal} → Example goal → Owner
owner_in e = owner_of (application_of e)

-- a template that alone is tried, and that nothing compensates, is listed as the first one
module _ (goal : Goal) (e : Example goal) (alone : e.templates ≡ e.template ∷ []) (none : AreCompensations (owner_in e) e.template []) (kept : IsKept (owner_in e) e.applied.literal.atom e.template) where
  abbrev templates : List Template
  templates = e.template ∷ []

  are_listed : AreListed (owner_in e) e.step.conj e.step.literal e.applied.literal.atom templates
  are_listed = record {
    tried = templates;
    are_tried = subst (AreRawOf e.spec e.applied.violated.constraint e.step.conj e.step.literal) alone e.tried;
    compensable = (e.template, []) ∷ [];
    are_compensable = AreCompensable.more e.template [] none AreCompensable.done;
    are_taken = AreTaken.taken e.template (λ seen. seen) kept AreTaken.no_more;
  }

  listed : IsListed (application_of e) 1
  listed = record {
    templates = templates;
    listed = subst (λ o. MatchOption o (templates ≡ []) (λ l. AreListed (owner_in e) e.step.conj e.step.literal l.atom templates)) (sym e.applied.literal_is) are_listed;
    from_one = omega arith;
    template_is = refl;
  }

  listed_alone : HasListedExample goal
  listed_alone = record { example = e; number = 1; listed = listed }

-- ---- nothing compensates what adds: no other rule has a guard that may become true, but on the written field

pub added_member : HasListedExample AddSet
added_member = listed_alone AddSet example_0 refl none (kept_alone (owner_in example_0) example_0.applied.literal.atom AddSet mark (may_0, serves_0)) where
  none : AreCompensations (owner_in example_0) example_0.template []
  none =
      AreCompensations.some mark [] refl
      (ArePreventing.quiet (from_head 0) (λ may. refl)
      (ArePreventing.quiet (from_head 1) (λ may. refl)
      (ArePreventing.quiet marked (λ may. refl)
      (ArePreventing.quiet (of_node 0 0) (λ may. refl)
      (ArePreventing.quiet (of_node 1 1) (λ may. refl) ArePreventing.done)))))

pub added_pair : HasListedExample AddTuple
added_pair = listed_alone AddTuple example_1 refl none (kept_alone (owner_in example_1) example_1.applied.literal.atom AddTuple join (may_1, serves_1)) where
  none : AreCompensations (owner_in example_1) example_1.template []
  none =
      AreCompensations.some join [] refl
      (ArePreventing.quiet (from_head 0) (λ may. refl)
      (ArePreventing.quiet (from_head 1) (λ may. refl)
      (ArePreventing.quiet marked (λ may. absurd (false≢true may.touched.reads))
      (ArePreventing.quiet (of_node 0 0) (λ may. refl)
      (ArePreventing.quiet (of_node 1 1) (λ may. refl) ArePreventing.done)))))

pub supplied_pair : HasListedExample Supply
supplied_pair = listed_alone Supply example_5 refl none (kept_alone (owner_in example_5) example_5.applied.literal.atom Supply supply (may_5, serves_5)) where
  none : AreCompensations (owner_in example_5) example_5.template []
  none =
      AreCompensations.some supply [] refl
      (ArePreventing.quiet (from_head 0) (λ may. refl)
      (ArePreventing.quiet (from_head 1) (λ may. refl)
      (ArePreventing.quiet marked (λ may. absurd (false≢true may.touched.reads))
      (ArePreventing.quiet (of_node 0 0) (λ may. refl)
      (ArePreventing.quiet (of_node 1 1) (λ may. refl) ArePreventing.done)))))

pub value_set : HasListedExample SetValue
value_set = listed_alone SetValue example_3 refl none (kept_alone (owner_in example_3) example_3.applied.literal.atom SetValue assign (may_3, serves_3)) where
  none : AreCompensations (owner_in example_3) example_3.template []
  none =
      AreCompensations.some assign [] refl
      (ArePreventing.quiet (from_head 0) (λ may. refl)
      (ArePreventing.quiet (from_head 1) (λ may. refl)
      (ArePreventing.quiet marked (λ may. refl)
      (ArePreventing.quiet (of_node 0 0) (λ may. refl)
      (ArePreventing.quiet (of_node 1 1) (λ may. refl) ArePreventing.done)))))

-- ---- nor what takes away

pub removed_member : HasListedExample RemoveSet
removed_member = listed_alone RemoveSet example_8 refl (AreCompensations.none refl) (kept_alone (owner_in example_8) example_8.applied.literal.atom RemoveSet unmark (may_8, serves_8))

pub removed_pair : HasListedExample RemoveTuple
removed_pair = listed_alone RemoveTuple example_2 refl (AreCompensations.none refl) (kept_alone (owner_in example_2) example_2.applied.literal.atom RemoveTuple cut (may_2, serves_2))
