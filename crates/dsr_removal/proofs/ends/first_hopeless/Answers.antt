use Rattle.std.proofs.Common.{◌≡◌, false, Some, length, replicate, slice_get, refl, sym, ap, subst, ◌∙◌, arith}
use Rattle.std.proofs.lemmas.Bool.{false≢true}
use Rattle.std.proofs.lemmas.Grind.{common_steps}
use Rattle.std.proofs.lemmas.List.{length-replicate}
use Rattle.std.proofs.lemmas.Option.{slice_get_within}
use Rattle.dsr_compensate.proofs.Each.{item_at}
use Rattle.dsr_graph.specs.Graphs.{owner_at}
use Rattle.dsr_placement.proofs.Left.{none_more}
use Rattle.dsr_placement.specs.Placing.{IsLeft}
use Rattle.dsr_plan_theory.specs.StuckSets.{IsHopeless}
use Rattle.dsr_removal.proofs.ends.first_hopeless.Goals as goal

pub returns-then-branch : goal.returns-then-branch
returns-then-branch c =
    let spec = c.args.spec.now in
    let i = c.loop-number.number in
    let constraint = c.constraint-item.result in
    let here : slice_get spec.constraints i ≡ Some constraint = subst (λ xs. slice_get xs i ≡ Some constraint) c.items-constraint-items.ensures (item_at c.items-constraint-items.result.now i constraint c.loop-number-test.true c.constraint-item.is) in
    let marks : c.in_ok-nobody.nobody.items ≡ replicate (length c.args.left.now) false = grind (arith, common_steps) in
    let long = ap length (c.deref.ensures.value ∙ marks) ∙ length-replicate (length c.args.left.now) false in
    let told = c.in_ok-is_hopeless.ensures (owner_at spec i constraint) (record { graph_is = c.requires.graph; number_is = refl; constraint_is = here }) (long ∙ c.requires.as_many) refl in
    record { is = told.0 c.if-branch.true; none_before = c.loop-number.invariant }

pub loop-number-preserved : goal.loop-number-preserved
loop-number-preserved c =
    let spec = c.args.spec.now in
    let i = c.loop-number.number in
    let constraint = c.constraint-item.result in
    let here : slice_get spec.constraints i ≡ Some constraint = subst (λ xs. slice_get xs i ≡ Some constraint) c.items-constraint-items.ensures (item_at c.items-constraint-items.result.now i constraint c.loop-number-test.true c.constraint-item.is) in
    let marks : c.in_ok-nobody.nobody.items ≡ replicate (length c.args.left.now) false = grind (arith, common_steps) in
    let long = ap length (c.deref.ensures.value ∙ marks) ∙ length-replicate (length c.args.left.now) false in
    let told = c.in_ok-is_hopeless.ensures (owner_at spec i constraint) (record { graph_is = c.requires.graph; number_is = refl; constraint_is = here }) (long ∙ c.requires.as_many) refl in
    none_more (IsHopeless spec (IsLeft c.args.left.now)) i (λ hopeless. false≢true (sym c.if-branch.false ∙ told.1 hopeless)) c.loop-number.invariant

pub returns : goal.returns
returns c = λ m its.
    let past = c.loop-number-test.false in
    let long = ap length c.items-constraint-items.ensures in
    let below = slice_get_within c.args.spec.now.constraints m its.constraint its.constraint_is in
    c.loop-number.invariant m (omega (arith, past, long, below)) its

pub is_hopeless-requires-clause-there : goal.is_hopeless-requires-clause-there
is_hopeless-requires-clause-there c =
    let i = c.loop-number.number in
    let constraint = c.constraint-item.result in
    let marks : c.in_ok-nobody.nobody.items ≡ replicate (length c.args.left.now) false = grind (arith, common_steps) in
    let long = ap length (c.deref.ensures.value ∙ marks) ∙ length-replicate (length c.args.left.now) false in
    record {
      spec = c.args.spec.now;
      graph_is = c.requires.graph;
      constraint_is = subst (λ xs. slice_get xs i ≡ Some constraint) c.items-constraint-items.ensures (item_at c.items-constraint-items.result.now i constraint c.loop-number-test.true c.constraint-item.is);
      as_many = sym (long ∙ c.requires.as_many);
    }

pub is_hopeless-requires-clause-nobody : goal.is_hopeless-requires-clause-nobody
is_hopeless-requires-clause-nobody c = grind (arith, common_steps)
