use Rattle.std.specs.Prelude.{codes}
use Rattle.std.proofs.lemmas.Result.{on_ok_weaker}
use Rattle.dsr_answers.specs.Texts.{constraint_name}
use Rattle.dsr_cert.proofs.Appended.{put_thrice}
use Rattle.dsr_cert.proofs.writing.push_name.Goals as goal

pub returns : goal.returns
returns c =
    on_ok_weaker c.push-3.result
    (put_thrice c.args.text.now.items c.push.new.text.items c.push-2.new.text.items c.push-3.new.text.items (codes "constraint ") c.name_at.result.now (constraint_name c.args.spec.now c.args.number) (codes " ") c.in_ok-push.ensures c.in_ok-push-2.ensures c.name_at.ensures)
    c.push-3.ensures
