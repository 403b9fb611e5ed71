-- A constraint with what its updates are judged by, as the code keeps it.
use Rattle.std.specs.Prelude.{◌≡◌, Some, slice_get}
use Rattle.dsr_effect.specs.Contexts as contexts
use Rattle.dsr_effect.specs.Contexts.{IsContextOf}
use Rattle.dsr_goal.specs.Knowing.{known_by}
use Rattle.dsr_graph_theory.specs.Owners as owners
use Rattle.dsr_meaning.specs.Typed.{IsTyped}
use Rattle.dsr_update_theory.specs.Facts.{exclusive}
use Rattle.dsr_update_theory.specs.Templates.{TellsKnown}
use Rattle.dsr_compensate.specs.declared.owner.Owner.{Owner}

-- the constraint, by its number in the specification
abbrev pub owner_of : Owner → owners.Owner
owner_of o = record { spec = o.spec.now; number = o.number; constraint = o.constraint.now }

-- what is kept of it is right
pub record IsSound (o : Owner) : Type 0 where
  pub typed : IsTyped o.spec.now
  pub constraint_is : slice_get o.spec.now.constraints o.number ≡ Some o.constraint.now
  pub context_is :
      IsContextOf o.spec.now (exclusive o.spec.now o.number) o.constraint.now.quant o.context
  pub context : contexts.IsSound o.context
  pub known : TellsKnown o.spec.now o.constraint.now.quant (known_by o.known)
