use Rattle.std.proofs.Common.{All, sym, subst, ◌∙◌, refl, arith}
use Rattle.std.proofs.lemmas.Grind.{elements}
use Rattle.std.proofs.lemmas.Option.{slice_get-get_or}
use Rattle.dsr_graph.specs.Told.{IsOfDeclared}
use Rattle.dsr_graph.proofs.Paired.{paired_all, paired_step}
use Rattle.dsr_graph.specs.Asking.{AreOwnCausesOf}
use Rattle.dsr_graph.proofs.building.own_causes.Goals as goal

pub loop-first-preserved : goal.loop-first-preserved
loop-first-preserved c =
    paired_step (λ n first causes. AreOwnCausesOf c.args.owner.now.spec.now.base first causes) c.args.firsts.now c.loop-first.own.items c.push.new.self.items c.loop-first.first-index _ c.new.result (slice_get-get_or c.args.firsts.now c.loop-first.first-index _ c.loop-first-test.true) c.in_ok-push.ensures.items
    (record {
      are = c.new.ensures ∙ c.in_ok-causes.ensures.causes;
      declared = subst (All (IsOfDeclared c.args.owner.now.spec.now.base)) (sym c.new.ensures) (subst (λ s. All (IsOfDeclared s.base) c.in_ok-causes.causes.items) c.spec.ensures c.in_ok-causes.ensures.declared);
    }) c.loop-first.invariant

pub returns : goal.returns
returns c =
    paired_all (λ n first causes. AreOwnCausesOf c.args.owner.now.spec.now.base first causes) c.args.firsts.now c.args.firsts.now refl c.loop-first.own.items c.loop-first.first-index c.loop-first-test.false c.loop-first.invariant

pub literal_causes-requires : goal.literal_causes-requires
literal_causes-requires c = grind (arith, elements)
