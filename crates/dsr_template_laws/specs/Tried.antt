-- Updates of templates that are tried for a literal, perhaps with writes that compensate them.
use Rattle.std.specs.Prelude.{◌≡◌, ℕ, List, Some, slice_get}
use Rattle.dsr_ir.specs.declared.constraints.Literal.{Literal}
use Rattle.dsr_ir.specs.declared.updates.Template.{Template}
use Rattle.dsr_ir.specs.declared.updates.Update.{Update}
use Rattle.dsr_repair_laws.specs.Grown.{IsGrownFrom}
use Rattle.dsr_graph_theory.specs.Owners.{Owner}
use Rattle.dsr_meaning.specs.Counting.{IsIn}
use Rattle.dsr_update_theory.specs.Templates.{AreRaw, KnownSets, TellsKnown}
use Rattle.dsr_graph_theory.specs.Sides.{MayBeMade}
use Rattle.dsr_template_laws.specs.Judging.{Application, change_in, owner_of}

-- the update, by its place in the template, is one of a template that is tried for the literal,
-- perhaps compensated
pub record IsTriedAt (owner : Owner) (its : Literal) (template : Template) (n : ℕ)
    (update : Update) : Type 0 where
  pub known : KnownSets
  pub tells : TellsKnown owner.spec owner.constraint.quant known
  pub tried : List Template
  pub are_tried : AreRaw owner.spec known owner.constraint.quant its tried
  pub raw : Template
  pub is_tried : IsIn raw tried
  pub goal_same : template.goal ≡ raw.goal
  pub own : Update
  pub own_at : slice_get raw.updates n ≡ Some own
  pub grown : IsGrownFrom owner raw own update

-- the update that is applied is one of a template that is tried for the literal, and can be made as
-- it is judged
pub record IsTried (a : Application) : Type 0 where
  pub tried : IsTriedAt (owner_of a) a.applied.literal a.template a.step.update a.update
  pub may : MayBeMade (change_in a)
