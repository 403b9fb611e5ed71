use Rattle.std.proofs.Common.{◌∙◌, length, sym, ap}
use Rattle.dsr_log.proofs.Shared.{entries_counted}
use Rattle.dsr_log.specs.Logs.{Logged}
use Rattle.dsr_log.proofs.logs.Log.len.Goals as goal

pub returns : goal.returns
returns c =
    let rows = c.self.inside.rows in
    c.len.ensures
    ∙ (rows.ok.0 ∙ (sym (entries_counted rows.items c.self.inside.sets.items c.self.inside.bytes.items)
    ∙ ap (λ (l : Logged). length l.entries) c.self.view_is))
