use Rattle.std.proofs.Common.{◌∙◌, ap, sym}
use Rattle.std.proofs.lemmas.Bool.{false≢true}
use Rattle.dsr_effect.proofs.Tagged.{tagged, untagged}
use Rattle.dsr_effect.specs.Rows.{only}
use Rattle.dsr_effect.proofs.changes.Change.tags_at_w.Goals as goal

pub returns-then-changes_at_w : goal.returns-then-changes_at_w
returns-then-changes_at_w c =
    tagged _ c.only.result (c.only.ensures ∙ ap only c.tag_at_w.ensures) (c.changes_at_w.ensures.0 c.if-changes_at_w.true)

pub returns-else-changes_at_w : goal.returns-else-changes_at_w
returns-else-changes_at_w c =
    untagged _ (λ changes. false≢true (sym c.if-changes_at_w.false ∙ c.changes_at_w.ensures.1 changes))
