use Rattle.dsr_model.proofs.Few.{few_places}
use Rattle.dsr_image_tests.proofs.calls.collected.Goals as goal

pub new-requires : goal.new-requires
new-requires c = record { few = few_places c.args.spec.now c.args.layout.now c.requires.layout }
