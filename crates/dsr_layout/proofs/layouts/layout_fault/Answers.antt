use Rattle.std.proofs.Common.{◌∙◌}
use Rattle.dsr_layout.specs.Tables.{size_in}
use Rattle.dsr_layout.proofs.Composed.{first_part, second_part, steps_of_none}
use Rattle.dsr_layout.proofs.Looking.{is_none}
use Rattle.dsr_layout.proofs.layouts.layout_fault.Goals as goal

pub returns-then-is_some : goal.returns-then-is_some
returns-then-is_some c = first_part (size_in c.args.ends.now) c.args.spec.now c.args.spec.now.base c.args.layout.now c.if-is_some.ensures c.in_ok-fault.ensures

pub code_fault-requires-clause-steps : goal.code_fault-requires-clause-steps
code_fault-requires-clause-steps c = steps_of_none (size_in c.args.ends.now) c.args.spec.now c.args.spec.now.base c.args.layout.now (is_none c.if-is_some.ensures ∙ c.in_ok-fault.ensures)

pub returns : goal.returns
returns c = c.code_fault.ensures ∙ second_part (size_in c.args.ends.now) c.args.spec.now c.args.spec.now.base c.args.layout.now (is_none c.if-is_some.ensures ∙ c.in_ok-fault.ensures)
