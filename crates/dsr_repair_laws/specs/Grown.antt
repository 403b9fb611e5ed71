-- An update of a template, perhaps with writes behind its own that compensate it.
use Rattle.std.specs.Prelude.{◌≡◌, ◌++◌, List}
use Rattle.dsr_ir.specs.declared.updates.Template.{Template}
use Rattle.dsr_ir.specs.declared.updates.Update.{Update}
use Rattle.dsr_ir.specs.declared.updates.Write.{Write}
use Rattle.dsr_graph_theory.specs.Candidates.{AreCompensations}
use Rattle.dsr_graph_theory.specs.Owners.{Owner}
use Rattle.dsr_meaning.specs.Counting.{IsIn}

-- the write is one of those that compensate the template
abbrev pub Compensates : Owner → Template → Write → Type 0
Compensates owner raw write =
    (writes : List Write) × AreCompensations owner raw writes × IsIn write writes

-- the update is this one of the template, perhaps with writes behind its own that compensate it
pub record IsGrownFrom (owner : Owner) (raw : Template) (u update : Update) : Type 0 where
  pub rule_same : update.rule ≡ u.rule
  pub place_same : update.place ≡ u.place
  pub at_same : update.at ≡ u.at
  pub fresh_same : update.fresh ≡ u.fresh
  pub more : List Write
  pub writes_are : update.writes ≡ u.writes ++ more
  pub among : (write : Write) → IsIn write more → Compensates owner raw write
