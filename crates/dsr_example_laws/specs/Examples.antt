-- Applications to which the laws on templates apply.
use Rattle.std.specs.Prelude.{ℕ}
use Rattle.dsr_step_laws.specs.Examples.{Example}
use Rattle.dsr_effect_laws.specs.Allowed.{Lies}
use Rattle.dsr_ir.specs.declared.tuples.Fact.{Fact}
use Rattle.dsr_ir.specs.declared.updates.Goal.{Goal}
use Rattle.dsr_graph_theory.specs.Sides.{MayServe}
use Rattle.dsr_template_laws.specs.Helping.{IsHelped}
use Rattle.dsr_template_laws.specs.Judging.{Application, IsListed, change_in}
use Rattle.dsr_template_laws.specs.Tried.{IsTried}
use Rattle.dsr_update_theory.specs.declared.effects.Direction.{Direction}

abbrev pub application_of : {goal : Goal} → Example goal → Application
application_of e = record {
  spec = e.spec;
  template = e.template;
  update = e.update;
  layout = e.layout;
  step = e.step;
  old = e.old;
  new = e.new;
  applied = e.applied;
}

-- The application has all that the laws on updates that are tried ask for. Some fact that it
-- changes lies in its table, and it helps its literal.
pub record IsTriedExample (a : Application) : Type 0 where
  pub tried : IsTried a
  pub serves : MayServe a.template.goal a.applied.literal.atom a.step.update (change_in a)
  pub fact : Fact
  pub direction : Direction
  pub lies : Lies (change_in a) a.step direction fact
  pub helped : IsHelped a

-- there is such a one towards the goal
pub record HasTriedExample (goal : Goal) : Type 0 where
  pub example : Example goal
  pub is_tried : IsTriedExample (application_of example)

-- there is one of an update towards the goal whose template is listed
pub record HasListedExample (goal : Goal) : Type 0 where
  pub example : Example goal
  pub number : ℕ
  pub listed : IsListed (application_of example) number
