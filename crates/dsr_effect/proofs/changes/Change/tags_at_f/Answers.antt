use Rattle.std.proofs.Common.{◌∙◌, ap, sym}
use Rattle.std.proofs.lemmas.Bool.{false≢true}
use Rattle.dsr_effect.proofs.Tagged.{tagged, untagged}
use Rattle.dsr_effect.specs.Rows.{only}
use Rattle.dsr_effect.proofs.changes.Change.tags_at_f.Goals as goal

pub returns-then-changes_at_f : goal.returns-then-changes_at_f
returns-then-changes_at_f c =
    tagged _ c.only.result (c.only.ensures ∙ ap only c.tag_at_f.ensures) (c.changes_at_f.ensures.0 c.if-changes_at_f.true)

pub returns-else-changes_at_f : goal.returns-else-changes_at_f
returns-else-changes_at_f c =
    untagged _ (λ changes. false≢true (sym c.if-changes_at_f.false ∙ c.changes_at_f.ensures.1 changes))
