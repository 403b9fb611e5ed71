use Rattle.std.proofs.Common.{arith, rules}
use Rattle.std.proofs.lemmas.Grind.{common_steps}
use Rattle.dsr_gen.proofs.Links.{straight_more}
use Rattle.dsr_gen.proofs.images.straight.Goals as goal

pub loop-slot-preserved : goal.loop-slot-preserved
loop-slot-preserved c =
    let more = straight_more c.loop-slot.slot (search rules) in
    record {
      links = grind (arith, common_steps, more);
      begun = λ none. omega arith;
    }
