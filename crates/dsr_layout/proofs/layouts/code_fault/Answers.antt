use Rattle.dsr_layout.proofs.Composed.{few_fields}
use Rattle.dsr_layout.proofs.layouts.code_fault.Goals as goal

pub code_too_wide-fault-requires-clause-few_fields : goal.code_too_wide-fault-requires-clause-few_fields
code_too_wide-fault-requires-clause-few_fields c = rw c.items.ensures (few_fields c.args.spec.now.base.structures c.requires.placeable.base.structures)
