use Rattle.std.proofs.Common.{refl, sym, ◌∙◌, arith}
use Rattle.std.proofs.lemmas.Grind.{elements}
use Rattle.std.proofs.lemmas.Bool.{false≢true}
use Rattle.dsr_compensate.proofs.Each.{each_ends, each_more, item_at}
use Rattle.dsr_graph_theory.specs.Owners.{change_of, goal_at}
use Rattle.dsr_graph_theory.specs.Sides.{MayServe}
use Rattle.dsr_compensate.specs.Owned.{owner_of}
use Rattle.dsr_compensate.proofs.judging.may_all_serve.Goals as goal

pub loop-place-preserved : goal.loop-place-preserved
loop-place-preserved c =
    each_more (λ n update. MayServe c.args.goal c.args.atom.now n (change_of (owner_of c.args.owner.now) (goal_at c.args.goal n) update)) c.args.updates.now c.loop-place.place c.index-updates-place.result
    (item_at c.args.updates.now c.loop-place.place c.index-updates-place.result c.loop-place-test.true c.index-updates-place.is)
    (c.may_serve.ensures.0 c.if-not-may_serve.false) c.loop-place.invariant

pub returns : goal.returns
returns c = (
  λ _. each_ends (λ n update. MayServe c.args.goal c.args.atom.now n (change_of (owner_of c.args.owner.now) (goal_at c.args.goal n) update)) c.args.updates.now c.loop-place.place c.loop-place-test.false c.loop-place.invariant,
  λ _. refl,
)

pub may_serve-requires-clause-effect : goal.may_serve-requires-clause-effect
may_serve-requires-clause-effect c = grind (arith, elements)

pub returns-then-not-may_serve : goal.returns-then-not-may_serve
returns-then-not-may_serve c = grind (arith, elements)
