-- What is asked for each template of a constraint.
use Rattle.std.specs.Prelude.{◌≡◌, ℕ, All, List, [], false}
use Rattle.dsr_graph_theory.specs.Causes.{constraint_causes, literal_causes}
use Rattle.dsr_graph_theory.specs.declared.causes.Cause.{Cause}
use Rattle.dsr_graph.specs.Told.{IsOfDeclared, TellsExcuses}
use Rattle.dsr_graph.specs.declared.excuses.Excuses.{Excuses}
use Rattle.dsr_ir.specs.declared.constraints.Constraint.{Constraint}
use Rattle.dsr_ir.specs.declared.declarations.Spec.{Spec}
use Rattle.dsr_ir.specs.declared.declarations.Structures.{Structures}
use Rattle.dsr_graph_theory.specs.Owners.{Owner}
use Rattle.dsr_compensate.specs.declared.owner.Owner.{Owner as Kept}
use Rattle.dsr_facts.specs.declared.gathering.Facts.{Facts}
use Rattle.dsr_update_theory.specs.Facts as said
use Rattle.dsr_compensate.specs.Owned.{IsSound, owner_of}
use Rattle.dsr_update_theory.specs.Templates.{AreOnce}
use Rattle.dsr_graph.specs.Graphs.{owner_at}
use Rattle.dsr_graph.specs.Paired.{ArePaired}
use Rattle.dsr_graph.specs.declared.kinds.First.{First}
use Rattle.dsr_graph.specs.declared.listings.Asked.{Asked}

-- what may break the constraint, each cause once
pub record AreCausesOf (spec : Spec) (constraint : Constraint) (causes : List Cause) : Type 0 where
  pub once : AreOnce [] (constraint_causes false constraint) causes
  pub declared : All (IsOfDeclared spec.base) causes

-- for each constraint
abbrev pub AllCauses : Spec → List (List Cause) → Type 0
AllCauses spec causes =
    ArePaired (λ n constraint its. AreCausesOf spec constraint its) spec.constraints causes

-- the facts that each constraint uses
pub record AreFactsAt (spec : Spec) (n : ℕ) (facts : Facts) : Type 0 where
  pub injective : facts.injective ≡ said.injective spec n
  pub exclusive : facts.exclusive ≡ said.exclusive spec n
  pub apart : facts.apart ≡ said.apart spec n
  pub from_is : facts.from ≡ said.from spec n

abbrev pub AllFacts : Spec → List Facts → Type 0
AllFacts spec facts = ArePaired (λ n constraint its. AreFactsAt spec n its) spec.constraints facts

-- each constraint with what its updates are judged by
pub record IsOwnerAt (spec : Spec) (n : ℕ) (constraint : Constraint) (owner : Kept) : Type 0 where
  pub owner_is : owner_of owner ≡ owner_at spec n constraint
  pub sound : IsSound owner

abbrev pub AllOwners : Spec → List Kept → Type 0
AllOwners spec owners = ArePaired (IsOwnerAt spec) spec.constraints owners

-- what excuses changes by the constraint's updates that may break others
abbrev pub AllExcuses : Owner → List Excuses → Type 0
AllExcuses owner excuses =
    ArePaired (λ n other its. TellsExcuses owner (owner_at owner.spec n other) its) owner.spec.constraints excuses

-- what may turn a literal of a kind false
pub record AreOwnCausesOf (base : Structures) (first : First) (causes : List Cause) : Type 0 where
  pub are : causes ≡ literal_causes first.literal
  pub declared : All (IsOfDeclared base) causes

-- for each kind
abbrev pub AreOwnCauses : Structures → List First → List (List Cause) → Type 0
AreOwnCauses base firsts own = ArePaired (λ n first causes. AreOwnCausesOf base first causes) firsts own

pub record IsAskedOf (a : Asked) : Type 0 where
  pub sound : IsSound a.owner.now
  pub own : AreOwnCauses (owner_of a.owner.now).spec.base a.firsts.now a.own.now
  pub excuses : AllExcuses (owner_of a.owner.now) a.excuses.now
  pub causes : AllCauses (owner_of a.owner.now).spec a.causes.now
