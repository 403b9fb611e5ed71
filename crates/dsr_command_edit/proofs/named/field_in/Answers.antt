use Rattle.std.proofs.Common.{refl}
use Rattle.dsr_command_edit.proofs.Sought.{found_in, not_in}
use Rattle.dsr_report_read.proofs.Ahead.{refused}
use Rattle.dsr_command_edit.proofs.named.field_in.Goals as goal

pub field_under-requires : goal.field_under-requires
field_under-requires c = record { few = (c.requires.typed.structures c.args.number c.args.structure.now c.requires.declared).few_fields }

pub returns-then-not-is_of_pool : goal.returns-then-not-is_of_pool
returns-then-not-is_of_pool c = not_in c.args.base.now c.args.pool c.args.name.now c.args.indexed c.args.number (refused c.if-not-is_of_pool.ensures)

pub returns : goal.returns
returns c =
    found_in c.args.base.now c.args.pool c.args.name.now c.args.indexed c.args.number c.args.structure.now c.requires.declared (c.if-not-is_of_pool.ensures.0 refl) c.field_under.result c.field_under.ensures
