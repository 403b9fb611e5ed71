use Rattle.dsr_compensate.proofs.Pairs.{pairs_begin, pairs_end, pairs_next}
use Rattle.dsr_compensate.specs.Taking.{AreTakenOf, templates_of}
use Rattle.dsr_compensate.specs.Owned.{owner_of}
use Rattle.dsr_compensate.proofs.listing.take_twos.Goals as goal

pub loop-place-init : goal.loop-place-init
loop-place-init c = (
  c.requires.well,
  pairs_begin c.args.template.now c.args.writes.now (λ all. AreTakenOf (owner_of c.args.owner.now) c.args.atom.now all (templates_of c.args.listed.now.items)) (λ all. AreTakenOf (owner_of c.args.owner.now) c.args.atom.now all (templates_of c.args.listed.now.items)) (λ all before. before),
)

pub loop-place-preserved : goal.loop-place-preserved
loop-place-preserved c = (
  c.in_ok-take_twos_of.ensures.well,
  pairs_next c.args.template.now c.args.writes.now
      (λ all. AreTakenOf (owner_of c.args.owner.now) c.args.atom.now all (templates_of c.args.listed.now.items))
      (λ all. AreTakenOf (owner_of c.args.owner.now) c.args.atom.now all (templates_of c.loop-place.listed.items))
      (λ all. AreTakenOf (owner_of c.args.owner.now) c.args.atom.now all (templates_of c.take_twos_of.new.listed.items))
      c.loop-place.place _ c.loop-place-test.true c.loop-place.invariant.1
      (λ all before. c.in_ok-take_twos_of.ensures.taken all before),
)

pub returns-clause-taken : goal.returns-clause-taken
returns-clause-taken c =
    pairs_end c.args.template.now c.args.writes.now
    (λ all. AreTakenOf (owner_of c.args.owner.now) c.args.atom.now all (templates_of c.args.listed.now.items))
    (λ all. AreTakenOf (owner_of c.args.owner.now) c.args.atom.now all (templates_of c.loop-place.listed.items))
    c.loop-place.place c.loop-place-test.false c.loop-place.invariant.1
