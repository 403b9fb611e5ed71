use Rattle.dsr_meaning.proofs.Placing.{spec_placeable}
use Rattle.dsr_show.proofs.images.image_model.Goals as goal

pub layout-requires-clause-placeable : goal.layout-requires-clause-placeable
layout-requires-clause-placeable c = spec_placeable c.args.spec.now c.requires.typed

pub with_layout-requires-clause-few : goal.with_layout-requires-clause-few
with_layout-requires-clause-few c = (spec_placeable c.args.spec.now c.requires.typed).few_constraints
