use Rattle.std.proofs.Common.{◌++◌, [], ◌∷◌, map, subst}
use Rattle.std.proofs.lemmas.List.{take_more}
use Rattle.dsr_compensate.proofs.Later.{take_whole}
use Rattle.dsr_compensate.proofs.GoneOver.{pass_on}
use Rattle.dsr_compensate.specs.Taking.{AreTakenOf, templates_of}
use Rattle.dsr_graph_theory.specs.Lists.{compensated_by}
use Rattle.dsr_compensate.specs.Owned.{owner_of}
use Rattle.dsr_compensate.proofs.listing.take_ones.Goals as goal

pub loop-write-preserved : goal.loop-write-preserved
loop-write-preserved c =
    let owner = owner_of c.args.owner.now in
    let next = take_more c.args.writes.now c.loop-write.write-index _ c.loop-write-test.true in (
      c.in_ok-take.ensures.well,
      pass_on (λ write. compensated_by c.args.template.now (write ∷ [])) c.args.writes.now c.loop-write.write-index _
          (λ all. AreTakenOf owner c.args.atom.now all (templates_of c.args.listed.now.items))
          (λ all. AreTakenOf owner c.args.atom.now all (templates_of c.loop-write.listed.items))
          (λ all. AreTakenOf owner c.args.atom.now all (templates_of c.take.new.listed.items))
          next c.loop-write.invariant.1
          (λ all before. subst (λ t. AreTakenOf owner c.args.atom.now (all ++ t ∷ []) (templates_of c.take.new.listed.items)) c.in_ok-next.ensures (c.in_ok-take.ensures.taken all before)),
    )

pub returns-clause-taken : goal.returns-clause-taken
returns-clause-taken c = λ all before.
    subst (λ xs. AreTakenOf (owner_of c.args.owner.now) c.args.atom.now (all ++ map (λ write. compensated_by c.args.template.now (write ∷ [])) xs) (templates_of c.loop-write.listed.items))
    (take_whole c.loop-write.write-index c.args.writes.now c.loop-write-test.false) (c.loop-write.invariant.1 all before)
