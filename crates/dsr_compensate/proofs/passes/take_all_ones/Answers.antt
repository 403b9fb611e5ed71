use Rattle.std.proofs.Common.{◌++◌, [], ◌∷◌, map, refl, subst}
use Rattle.std.specs.List.{flat_map}
use Rattle.dsr_compensate.proofs.Later.{take_next, take_whole}
use Rattle.dsr_compensate.proofs.GoneOver.{pass_flat, pass_on}
use Rattle.dsr_compensate.specs.Taking.{AreTakenOf, ones_of, templates_of, twos_of}
use Rattle.dsr_graph_theory.specs.Lists.{with_one, with_two}
use Rattle.dsr_compensate.specs.Owned.{owner_of}
use Rattle.dsr_compensate.proofs.passes.take_all_ones.Goals as goal

pub loop-compensable-preserved : goal.loop-compensable-preserved
loop-compensable-preserved c =
    let owner = owner_of c.args.owner.now in
    let next = take_next c.args.tried.now c.args.tried.now refl c.loop-compensable.compensable-index c.loop-compensable-test.true c.compensable-item.result c.compensable-item.is in (
      c.in_ok-take_ones.ensures.well,
      pass_flat ones_of c.args.tried.now c.loop-compensable.compensable-index c.compensable-item.result
          (λ all. AreTakenOf owner c.args.atom.now all (templates_of c.args.listed.now.items))
          (λ all. AreTakenOf owner c.args.atom.now all (templates_of c.loop-compensable.listed.items))
          (λ all. AreTakenOf owner c.args.atom.now all (templates_of c.take_ones.new.listed.items))
          next c.loop-compensable.invariant.1
          (λ all before. subst (λ ws. AreTakenOf owner c.args.atom.now (all ++ with_one (c.compensable-item.result.template, ws)) (templates_of c.take_ones.new.listed.items)) c.items-writes.ensures (c.in_ok-take_ones.ensures.taken all before)),
    )

pub returns-clause-taken : goal.returns-clause-taken
returns-clause-taken c = λ all before.
    subst (λ xs. AreTakenOf (owner_of c.args.owner.now) c.args.atom.now (all ++ flat_map ones_of xs) (templates_of c.loop-compensable.listed.items))
    (take_whole c.loop-compensable.compensable-index c.args.tried.now c.loop-compensable-test.false) (c.loop-compensable.invariant.1 all before)
