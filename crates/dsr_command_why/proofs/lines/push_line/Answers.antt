use Rattle.std.specs.Prelude.{codes}
use Rattle.dsr_command_why.proofs.Chained.{line_put}
use Rattle.dsr_command_why.specs.Facts.{fact_text}
use Rattle.dsr_command_why.specs.Whys.{place_text}
use Rattle.dsr_command_why.proofs.lines.push_line.Goals as goal

pub returns : goal.returns
returns c =
    line_put c.push-2.result c.args.text.now.items c.push_place.new.text.items c.push.new.text.items c.push_fact.new.text.items c.push-2.new.text.items
    (place_text c.args.spec.now c.args.number c.args.instance.now c.args.span) (codes " gives ") (fact_text c.args.spec.now c.args.fact.now) (codes "\n")
    c.in_ok-push_place.ensures c.in_ok-push.ensures c.in_ok-push_fact.ensures c.push-2.ensures
