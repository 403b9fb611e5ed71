-- A step that is made as its update is judged.
use Rattle.std.specs.Prelude.{◌≡◌, ◌≢◌, ◌⊎◌, ℕ, List, None, Some, slice_get}
use Rattle.dsr_ir.specs.Rules.{target_of}
use Rattle.dsr_ir.specs.declared.layouts.Layout.{Layout}
use Rattle.dsr_ir.specs.declared.rules.Rule.{Rule}
use Rattle.dsr_ir.specs.declared.rules.Span.TheVariants.{Single}
use Rattle.dsr_ir.specs.declared.tuples.Element.{Element}
use Rattle.dsr_ir.specs.declared.tuples.Fact.{Fact}
use Rattle.dsr_ir.specs.declared.tuples.Fact.TheVariants.{Member}
use Rattle.dsr_ir.specs.declared.tuples.Instance.{Instance}
use Rattle.dsr_ir.specs.declared.updates.Goal.TheVariants.{Supply}
use Rattle.dsr_meaning.specs.Counting.{IsIn}
use Rattle.dsr_meaning.specs.Legal.{IsLegalLayout}
use Rattle.dsr_meaning.specs.Models.{IsDerived, IsDerivedBy}
use Rattle.dsr_meaning.specs.Typed.{IsTyped}
use Rattle.dsr_step_theory.specs.declared.steps.Step.{Step}
use Rattle.dsr_update_theory.specs.Changes.{Change, fresh_pool, written_pool}
use Rattle.dsr_update_theory.specs.Touching.{IsKeptApartBy, MakesFire, named_by}
use Rattle.dsr_effect_laws.specs.Leaving.{IsLeftAs}

-- the update's own rule has no index, and gives nothing at the written record
pub record IsSilent (c : Change) (layout : Layout) (step : Step) (old : List ℕ) : Type 0 where
  pub own : Rule
  pub own_is : slice_get c.spec.rules c.update.rule ≡ Some own
  pub single : own.span ≡ Single
  pub plain : (target_of own.inc ≡ None) ⊎ (c.goal ≡ Supply)
  pub gives_nothing :
      (i : Instance) (fact : Fact) → i.rule ≡ c.update.rule → i.elem ≡ step.elem
      → IsDerivedBy c.spec layout old i fact → ⊥

-- the fresh record is one of the update's pool, and a member of no set that its supply names
pub record IsFreshFor (c : Change) (layout : Layout) (old : List ℕ) (e : Element) : Type 0 where
  pub some : e.pool ≢ 0
  pub pool_is : c.update.fresh ≡ Some e.pool
  pub outside :
      (set : ℕ) → IsIn set (named_by (fresh_pool c)) → IsDerived c.spec layout old (Member set e)
      → ⊥

-- what must be so of a step and of the bytes before it, for the update to change no more than it is
-- judged to
pub record IsMadeAsJudged (c : Change) (layout : Layout) (step : Step)
    (old new : List ℕ) : Type 0 where
  pub typed : IsTyped c.spec
  pub legal : IsLegalLayout layout
  pub left : IsLeftAs c layout step old new
  pub pool_is : written_pool c ≡ Some step.elem.pool
  pub apart :
      (premise : ℕ) → IsKeptApartBy c c.update.place (Some premise)
      → IsDerived c.spec layout old (Member premise step.elem) → ⊥
  pub silent : MakesFire c.goal → IsSilent c layout step old
  pub fresh : (e : Element) → step.fresh ≡ Some e → IsFreshFor c layout old e
