use Rattle.std.proofs.Common.{◌++◌, ◌∙◌, [], ap}
use Rattle.std.proofs.lemmas.Result.{on_ok_weaker}
use Rattle.std.specs.Option.{option_map_or}
use Rattle.dsr_log.specs.Entries.{entry_of}
use Rattle.dsr_log.specs.declared.entries.EntryHead.{EntryHead}
use Rattle.dsr_report.proofs.Noted.{entry_put}
use Rattle.dsr_report.specs.Reports.{reset_line, update_line}
use Rattle.dsr_report.proofs.texts.push_entry.Goals as goal

pub returns : goal.returns
returns c =
    let spec = c.args.spec.now in
    let first = c.args.text.now.items in
    let begun = c.push_update.new.text.items in
    on_ok_weaker c.push_changes.result
    (entry_put spec c.args.number c.args.entry.now first begun
    c.push_reset.new.text.items c.push_sets.new.text.items c.push_changes.new.text.items
    (c.in_ok-push_update.ensures ∙ ap (λ h. first ++ update_line spec c.args.number (entry_of h [] [])) c.head-head.ensures)
    (c.in_ok-push_reset.ensures ∙ ap (λ (h : EntryHead). begun ++ option_map_or (reset_line spec) h.reset []) c.head-head.ensures)
    c.sets.result.now c.sets.ensures c.in_ok-push_sets.ensures c.bytes.result.now c.bytes.ensures)
    c.push_changes.ensures
