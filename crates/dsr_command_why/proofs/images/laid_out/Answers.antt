use Rattle.dsr_meaning.proofs.Placing.{spec_placeable}
use Rattle.dsr_command_why.proofs.images.laid_out.Goals as goal

pub layout-requires-clause-placeable : goal.layout-requires-clause-placeable
layout-requires-clause-placeable c = spec_placeable c.args.spec.now c.requires.typed
