use Rattle.std.proofs.Common.{refl}
use Rattle.std.proofs.lemmas.Option.{slice_get-get_or}
use Rattle.dsr_graph.proofs.Paired.{paired_all, paired_step}
use Rattle.dsr_graph.specs.Graphs.{IsListingOf}
use Rattle.dsr_compensate.specs.Owned.{owner_of}
use Rattle.dsr_graph.proofs.listings.Asked.listings.Goals as goal

pub loop-first-preserved : goal.loop-first-preserved
loop-first-preserved c =
    paired_step (λ n first listing. IsListingOf (owner_of c.args.self.now.owner.now) c.args.self.now.firsts.now first.literal listing) c.args.self.now.firsts.now c.loop-first.listings.items c.push.new.self.items c.loop-first.first-index _ c.in_ok-listing.listing
    (slice_get-get_or c.args.self.now.firsts.now c.loop-first.first-index _ c.loop-first-test.true) c.in_ok-push.ensures.items c.in_ok-listing.ensures c.loop-first.invariant

pub returns : goal.returns
returns c =
    paired_all (λ n first listing. IsListingOf (owner_of c.args.self.now.owner.now) c.args.self.now.firsts.now first.literal listing) c.args.self.now.firsts.now c.args.self.now.firsts.now refl c.loop-first.listings.items c.loop-first.first-index c.loop-first-test.false c.loop-first.invariant
