use Rattle.std.proofs.Common.{◌≡◌, ◌∙◌, None, Some, slice_get, slice_index_or, refl, sym, ap, subst, arith}
use Rattle.std.proofs.lemmas.Grind.{common_steps, elements}
use Rattle.dsr_compensate.proofs.Each.{item_at}
use Rattle.dsr_graph.proofs.Paired.{paired_step}
use Rattle.dsr_graph.specs.Graphs.{owner_at}
use Rattle.dsr_removal.proofs.Staying.{index_placed}
use Rattle.dsr_removal.specs.Taking.{IsRowAt}
use Rattle.dsr_removal.proofs.taking.rows.Goals as goal

pub loop-number-preserved : goal.loop-number-preserved
loop-number-preserved c =
    let spec = c.args.spec.now in
    let rounds = c.args.placed.now.rounds.items in
    let i = c.loop-number.number in
    let constraint = c.constraint-item.result in
    let here : slice_get spec.constraints i ≡ Some constraint = subst (λ xs. slice_get xs i ≡ Some constraint) c.items-constraint-items.ensures (item_at c.items-constraint-items.result.now i constraint c.loop-number-test.true c.constraint-item.is) in
    let told : slice_index_or rounds i None ≡ Some c.in-Some.round = sym (ap (λ xs. slice_index_or xs i None) c.deref.ensures.value) ∙ (sym c.round_at.ensures ∙ c.in-Some.is) in
    let its = c.in_ok-row.ensures (owner_at spec i constraint) (record { graph_is = c.requires.graph; number_is = refl; constraint_is = here }) c.requires.settled.rounds_are.as_many refl (index_placed rounds i c.in-Some.round told) in
    paired_step (λ n x row. IsRowAt spec rounds c.args.placed.now.count n x row) spec.constraints c.loop-number.rows.items c.push.new.self.items i constraint c.in_ok-row.field-0 here c.in_ok-push.ensures.items its c.loop-number.invariant

pub row-requires-clause-there : goal.row-requires-clause-there
row-requires-clause-there c =
    let i = c.loop-number.number in
    let constraint = c.constraint-item.result in
    record {
      spec = c.args.spec.now;
      graph_is = c.requires.graph;
      constraint_is = subst (λ xs. slice_get xs i ≡ Some constraint) c.items-constraint-items.ensures (item_at c.items-constraint-items.result.now i constraint c.loop-number-test.true c.constraint-item.is);
      as_many = sym c.requires.settled.rounds_are.as_many;
    }

pub returns-in_default : goal.returns-in_default
returns-in_default c = grind (arith, elements)

pub row-requires-clause-below : goal.row-requires-clause-below
row-requires-clause-below c = grind (arith, elements)

pub returns : goal.returns
returns c = grind (arith, common_steps)
