use Rattle.dsr_edit_text.proofs.Put.{set_put}
use Rattle.dsr_edit_text.specs.Shown.{shown}
use Rattle.dsr_edit_text.proofs.lines.push_set.Goals as goal

pub returns : goal.returns
returns c =
    set_put c.push-6.result (shown c.args.set.now) c.args.text.now.items
    c.push.new.text.items c.push-2.new.text.items c.push_index.new.text.items c.push-3.new.text.items c.push-4.new.text.items
    c.push_index-2.new.text.items c.push-5.new.text.items c.push_number.new.text.items c.push-6.new.text.items
    c.in_ok-push.ensures c.in_ok-push-2.ensures c.in_ok-push_index.ensures c.in_ok-push-3.ensures c.in_ok-push-4.ensures
    c.in_ok-push_index-2.ensures c.in_ok-push-5.ensures c.in_ok-push_number.ensures c.push-6.ensures
