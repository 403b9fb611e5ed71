use Rattle.std.proofs.Common.{◌++◌, [], ◌∷◌, map, subst}
use Rattle.std.proofs.lemmas.List.{take_more}
use Rattle.dsr_compensate.proofs.Later.{take_whole}
use Rattle.dsr_compensate.proofs.GoneOver.{pass_on}
use Rattle.dsr_compensate.specs.Taking.{AreTakenOf, templates_of}
use Rattle.dsr_graph_theory.specs.Lists.{compensated_by}
use Rattle.dsr_compensate.specs.Owned.{owner_of}
use Rattle.dsr_compensate.proofs.listing.take_twos_of.Goals as goal

pub loop-later-preserved : goal.loop-later-preserved
loop-later-preserved c =
    let owner = owner_of c.args.owner.now in
    let next = take_more c.args.rest.now c.loop-later.later-index _ c.loop-later-test.true in (
      c.in_ok-take.ensures.well,
      pass_on (λ later. compensated_by c.args.template.now (c.args.write.now ∷ later ∷ [])) c.args.rest.now c.loop-later.later-index _
          (λ all. AreTakenOf owner c.args.atom.now all (templates_of c.args.listed.now.items))
          (λ all. AreTakenOf owner c.args.atom.now all (templates_of c.loop-later.listed.items))
          (λ all. AreTakenOf owner c.args.atom.now all (templates_of c.take.new.listed.items))
          next c.loop-later.invariant.1
          (λ all before. subst (λ t. AreTakenOf owner c.args.atom.now (all ++ t ∷ []) (templates_of c.take.new.listed.items)) c.in_ok-next.ensures (c.in_ok-take.ensures.taken all before)),
    )

pub returns-clause-taken : goal.returns-clause-taken
returns-clause-taken c = λ all before.
    subst (λ xs. AreTakenOf (owner_of c.args.owner.now) c.args.atom.now (all ++ map (λ later. compensated_by c.args.template.now (c.args.write.now ∷ later ∷ [])) xs) (templates_of c.loop-later.listed.items))
    (take_whole c.loop-later.later-index c.args.rest.now c.loop-later-test.false) (c.loop-later.invariant.1 all before)
