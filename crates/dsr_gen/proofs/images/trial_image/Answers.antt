use Rattle.std.proofs.Common.{arith}
use Rattle.std.proofs.lemmas.Grind.{common_steps}
use Rattle.dsr_gen.proofs.Links.{trial_count}
use Rattle.dsr_gen.proofs.images.trial_image.Goals as goal

pub push_nodes-requires : goal.push_nodes-requires
push_nodes-requires c =
    let count = trial_count c.args.number in
    record { few = grind (arith, common_steps, count) }
