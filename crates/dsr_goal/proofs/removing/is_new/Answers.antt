use Rattle.dsr_ir.specs.contracts.updates.TemplatePartialEq.TheImpl as template
use Rattle.dsr_goal.proofs.Decided.{template_decides}
use Rattle.dsr_goal.proofs.Once.{tells_new}
use Rattle.dsr_goal.proofs.removing.is_new.Goals as goal

pub returns : goal.returns
returns c = tells_new template.ghosts.eq template_decides c.args.templates.now c.args.template.now c.contains.result c.contains.ensures.value
