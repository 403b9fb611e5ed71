-- The examples of applications have all that the laws on updates that are tried ask for.
use Rattle.std.proofs.Common.{inl, inr, refl}
use Rattle.dsr_step_laws.proofs.Given.{example}
use Rattle.dsr_step_laws.proofs.Shown.{example_0, example_1, example_2, example_3, example_4, example_5, example_6, example_8}
use Rattle.dsr_step_laws.specs.Examples.{Example}
use Rattle.dsr_effect_laws.specs.Allowed.{Lies}
use Rattle.dsr_ir.specs.declared.updates.Goal.{Goal}
use Rattle.dsr_ir.specs.declared.updates.Goal.TheVariants.{AddSet, RemoveSet, AddTuple, RemoveTuple, SetValue, Trim, Supply, ExactlyOne}
use Rattle.dsr_graph_theory.specs.Sides.{MayBeMade, MayServe}
use Rattle.dsr_template_laws.proofs.Helped.{helped}
use Rattle.dsr_template_laws.proofs.ListedTemplates.{tried_at}
use Rattle.dsr_template_laws.proofs.MadeAsJudged.{gains, losses}
use Rattle.dsr_template_laws.proofs.TriedApplications.{update_there}
use Rattle.dsr_template_laws.specs.Judging.{Application, change_in, owner_of}
use Rattle.dsr_template_laws.specs.Tried.{IsTried}
use Rattle.dsr_update_theory.specs.Avoided.{IsAvoided}
use Rattle.dsr_update_theory.specs.Facts.{exclusive}
use Rattle.dsr_update_theory.specs.KnownSets.{IsKnown}
use Rattle.dsr_update_theory.specs.declared.effects.Direction.{Direction}
use Rattle.dsr_update_theory.specs.declared.effects.Direction.TheVariants.{Gain, Loss}
use Rattle.dsr_example_laws.specs.Examples.{HasTriedExample, application_of}
use Rattle.dsr_example_laws.proofs.KeptSymbols.{a_stays, clear_keeps, cut_keeps, unmark_keeps}
use Rattle.dsr_step_laws.proofs.Beside.{one_together}

-- ---- each can be made as it is judged

abbrev pub CanBeMade : {goal : Goal} → Example goal → Type 0
CanBeMade e = MayBeMade (change_in (application_of e))

pub may_0 : CanBeMade example_0
may_0 = record { writes = one_together _ _; fresh = tt }

pub may_1 : CanBeMade example_1
may_1 = record { writes = one_together _ _; fresh = tt }

pub may_2 : CanBeMade example_2
may_2 = record { writes = one_together _ _; fresh = tt }

pub may_3 : CanBeMade example_3
may_3 = record { writes = one_together _ _; fresh = tt }

may_4 : CanBeMade example_4
may_4 = record { writes = one_together _ _; fresh = tt }

pub may_5 : CanBeMade example_5
may_5 = record { writes = one_together _ _; fresh = record { supply = refl; other = inr (0, IsKnown.quantified 0 refl, IsAvoided.named 0 (inl refl)) } }

may_6 : CanBeMade example_6
may_6 = record { writes = one_together _ _; fresh = record { supply = refl; other = inr (0, IsKnown.quantified 0 refl, IsAvoided.named 0 (inl refl)) } }

pub may_8 : CanBeMade example_8
may_8 = record { writes = one_together _ _; fresh = tt }

-- ---- and serves its goal

abbrev pub Serves : {goal : Goal} → Example goal → Type 0
Serves e = MayServe e.template.goal e.applied.literal.atom e.step.update (change_in (application_of e))

pub serves_0 : Serves example_0
serves_0 = a_stays (change_in (application_of example_0)) refl refl Loss

pub serves_1 : Serves example_1
serves_1 = a_stays (change_in (application_of example_1)) refl refl Loss

pub serves_2 : Serves example_2
serves_2 = cut_keeps (exclusive example 2)

pub serves_3 : Serves example_3
serves_3 = (a_stays (change_in (application_of example_3)) refl refl Gain, tt)

pub serves_5 : Serves example_5
serves_5 = a_stays (change_in (application_of example_5)) refl refl Loss

pub serves_8 : Serves example_8
serves_8 = unmark_keeps (exclusive example 8)

-- ---- so the laws apply

module _ (goal : Goal) (e : Example goal) (may : CanBeMade e) (serves : Serves e) where
  abbrev a : Application
  a = application_of e

  tried : IsTried a
  tried = record { tried = tried_at (owner_of a) a.step.conj a.step.literal a.step.update a.applied.literal a.template e.templates a.update a.applied.literal_is e.tried e.listed (update_there a); may = may }

  changes : (direction : Direction) × Lies (change_in a) a.step direction e.changed.0
  changes = elim e.changed.1 as (λ _. (direction : Direction) × Lies (change_in a) a.step direction e.changed.0) [
    | inl gained ↦ (Gain, gains a tried e.changed.0 gained)
    | inr lost ↦ (Loss, losses a tried e.changed.0 lost)
  ]

  tried_one : HasTriedExample goal
  tried_one = record {
    example = e;
    is_tried = record { tried = tried; serves = serves; fact = e.changed.0; direction = changes.0; lies = changes.1; helped = helped a tried serves };
  }

pub each_goal : (goal : Goal) → HasTriedExample goal
each_goal AddSet = tried_one AddSet example_0 may_0 serves_0
each_goal AddTuple = tried_one AddTuple example_1 may_1 serves_1
each_goal RemoveTuple = tried_one RemoveTuple example_2 may_2 serves_2
each_goal SetValue = tried_one SetValue example_3 may_3 serves_3
each_goal Trim = tried_one Trim example_4 may_4 (clear_keeps (exclusive example 4))
each_goal Supply = tried_one Supply example_5 may_5 serves_5
each_goal ExactlyOne = tried_one ExactlyOne example_6 may_6 (a_stays (change_in (application_of example_6)) refl refl Loss, refl)
each_goal RemoveSet = tried_one RemoveSet example_8 may_8 serves_8
