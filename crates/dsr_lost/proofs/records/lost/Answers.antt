use Rattle.std.proofs.Common.{◌+◌, length, ap, arith}
use Rattle.dsr_lost.proofs.Listing.{are_lost, no_lost}
use Rattle.dsr_lost.proofs.records.lost.Goals as goal

pub push_lost-requires-clause-declared : goal.push_lost-requires-clause-declared
push_lost-requires-clause-declared g c = omega (arith, c.loop-pool-test.true, ap length c.items-pool-end.ensures)

pub loop-pool-init : goal.loop-pool-init
loop-pool-init g c = no_lost c.args.spec.now c.args.layout.now c.args.model.now c.new-lost.result.items c.new-lost.ensures.items

pub returns : goal.returns
returns g c =
    are_lost c.args.spec.now c.args.layout.now c.args.model.now (g.I.ImageBytes.bytes c.args._image.now) c.requires.model c.requires.prepared c.loop-pool.lost.items (c.loop-pool.pool + 1)
    (omega (arith, c.loop-pool-test.false, ap length c.items-pool-end.ensures)) c.loop-pool.invariant
