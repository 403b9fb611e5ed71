use Rattle.std.proofs.Common.{◌∙◌, refl}
use Rattle.std.proofs.lemmas.List.{length-set}
use Rattle.dsr_gen.proofs.Links.{straight_count, seed_next, link_led}
use Rattle.dsr_gen.specs.Images.{seed_at, links_after}
use Rattle.dsr_gen.proofs.images.lead_astray.Goals as goal

pub loop-init : goal.loop-init
unfolding seed_at links_after
loop-init c =
    let same = c.requires.straight in
    record {
      seed = refl;
      links = same;
      nodes = rw same (straight_count c.args.number);
    }

pub loop-preserved : goal.loop-preserved
loop-preserved c =
    let was = c.loop.invariant in
    let seed = seed_next c.args.number c.loop.counter _ _ was.seed c.next_seed-seed.ensures in
    record {
      seed = seed;
      links = link_led c.args.number c.loop.counter _ _ _ _ _ was.links seed c.from-in-loop-2.ensures c.from.ensures c.from-in-loop.ensures;
      nodes = length-set _ _ _ ∙ was.nodes;
    }
