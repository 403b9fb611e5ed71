-- Templates that are taken one after the other, with what their updates may change.
use Rattle.std.specs.Prelude.{◌≡◌, ◌≤◌, ◌++◌, ◌-◌, ℕ, All, List, Some, length, [], ◌∷◌, map, slice_get}
use Rattle.dsr_compensate.specs.declared.judging.Judged.{Judged}
use Rattle.dsr_compensate.specs.declared.passes.Compensable.{Compensable}
use Rattle.dsr_ir.specs.declared.constraints.Atom.{Atom}
use Rattle.dsr_ir.specs.declared.updates.Goal.{Goal}
use Rattle.dsr_ir.specs.declared.updates.Template.{Template}
use Rattle.dsr_ir.specs.declared.updates.Update.{Update}
use Rattle.dsr_ir.specs.declared.updates.Write.{Write}
use Rattle.dsr_graph_theory.specs.Lists.{AreTaken, compensated_by, with_one, with_two}
use Rattle.dsr_graph_theory.specs.Owners.{Owner, change_of, goal_at}
use Rattle.dsr_graph_theory.specs.Sides.{MayBeMade, MayServe}
use Rattle.dsr_compensate.specs.Judged.{IsEffectOf}
use Rattle.dsr_update_theory.specs.declared.effects.Effect.{Effect}

-- each effect is exactly what the update with its place in a template for the goal may change
pub record AreEffectsOf (owner : Owner) (goal : Goal) (updates : List Update) (effects : List Effect) : Type 0 where
  pub as_many : length effects ≡ length updates
  pub are :
      (n : ℕ) (update : Update) (effect : Effect) → slice_get updates n ≡ Some update
      → slice_get effects n ≡ Some effect → IsEffectOf (change_of owner (goal_at goal n) update) effect

-- each of the updates can be made as it is judged
abbrev pub MayAllBeMade : Owner → Goal → List Update → Type 0
MayAllBeMade owner goal updates =
    (n : ℕ) (update : Update) → slice_get updates n ≡ Some update
    → MayBeMade (change_of owner (goal_at goal n) update)

-- each of the updates serves the goal
abbrev pub MayAllServe : Owner → Goal → Atom → List Update → Type 0
MayAllServe owner goal atom updates =
    (n : ℕ) (update : Update) → slice_get updates n ≡ Some update
    → MayServe goal atom n (change_of owner (goal_at goal n) update)

-- what is told of the template's updates is right
abbrev pub IsJudged : Owner → Judged → Type 0
IsJudged owner judged = AreEffectsOf owner judged.template.goal judged.template.updates judged.effects

abbrev pub templates_of : List Judged → List Template
templates_of judged = map (λ j. j.template) judged

-- no more than are listed, each with what its updates may change
pub record AreWell (owner : Owner) (listed : List Judged) : Type 0 where
  pub few : length listed ≤ 64
  pub judged : All (IsJudged owner) listed

-- these are taken of those so far, whatever comes behind
abbrev pub AreTakenOf : Owner → Atom → List Template → List Template → Type 0
AreTakenOf owner atom all listed =
    (rest more : List Template) → AreTaken owner atom (64 - length listed) listed rest more
    → AreTaken owner atom 64 [] (all ++ rest) (listed ++ more)

-- the template with the write and each one of those behind it
abbrev pub with_two_of : Template → Write → List Write → List Template
with_two_of template write rest = map (λ later. compensated_by template (write ∷ later ∷ [])) rest

-- the templates with the writes that may compensate them
abbrev pub pairs_of : List Compensable → List (Template × List Write)
pairs_of tried = map (λ c. (c.template, c.writes)) tried

abbrev pub ones_of : Compensable → List Template
ones_of c = with_one (c.template, c.writes)

abbrev pub twos_of : Compensable → List Template
twos_of c = with_two (c.template, c.writes)
