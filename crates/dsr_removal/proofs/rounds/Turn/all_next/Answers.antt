use Rattle.std.proofs.Common.{◌≡◌, ◌∙◌, None, Some, slice_get, slice_index_or, IsTrue, refl, sym, subst, arith}
use Rattle.std.proofs.lemmas.Grind.{common_steps}
use Rattle.dsr_compensate.proofs.Each.{item_at}
use Rattle.dsr_graph.proofs.Paired.{paired_step}
use Rattle.dsr_graph.specs.Graphs.{owner_at}
use Rattle.dsr_placement.specs.Placing.{IsLeft}
use Rattle.dsr_removal.proofs.Staying.{left_many, left_told, next_same}
use Rattle.dsr_removal.specs.Rounds.{IsLeftAt, IsNext}
use Rattle.dsr_removal.proofs.rounds.Turn.all_next.Goals as goal

pub loop-number-preserved : goal.loop-number-preserved
loop-number-preserved c =
    let spec = c.args.spec.now in
    let rounds = c.args.rounds.now in
    let turn = c.args.self.now in
    let left = turn.left.now in
    let i = c.loop-number.number in
    let constraint = c.constraint-item.result in
    let here : slice_get spec.constraints i ≡ Some constraint = subst (λ xs. slice_get xs i ≡ Some constraint) c.items-constraint-items.ensures (item_at c.items-constraint-items.result.now i constraint c.loop-number-test.true c.constraint-item.is) in
    let told = left_told left rounds turn.number c.requires.left in
    let its = c.in_ok-next.ensures (owner_at spec i constraint) (record { graph_is = c.requires.graph; number_is = refl; constraint_is = here }) (left_many left rounds turn.number c.requires.left ∙ c.requires.as_many) refl in
    paired_step (λ n x after. IsNext spec (IsLeftAt rounds turn.number) turn.number n x (slice_index_or rounds n None) after) spec.constraints c.loop-number.next.items c.push.new.self.items i constraint c.in_ok-next.field-0 here c.in_ok-push.ensures.items
    (subst (λ b. IsNext spec (IsLeftAt rounds turn.number) turn.number i constraint b c.in_ok-next.field-0) c.round_at-before.ensures
    (next_same (IsLeft left) (IsLeftAt rounds turn.number) (λ n. subst IsTrue (told n)) (λ n. subst IsTrue (sym (told n))) spec turn.number i constraint c.round_at-before.result c.in_ok-next.field-0 its))
    c.loop-number.invariant

pub next-requires-clause-there : goal.next-requires-clause-there
next-requires-clause-there c =
    let spec = c.args.spec.now in
    let i = c.loop-number.number in
    let constraint = c.constraint-item.result in
    record {
      spec = spec;
      graph_is = c.requires.graph;
      constraint_is = subst (λ xs. slice_get xs i ≡ Some constraint) c.items-constraint-items.ensures (item_at c.items-constraint-items.result.now i constraint c.loop-number-test.true c.constraint-item.is);
      as_many = sym (left_many c.args.self.now.left.now c.args.rounds.now c.args.self.now.number c.requires.left ∙ c.requires.as_many);
    }

pub next-requires-clause-few : goal.next-requires-clause-few
next-requires-clause-few c = grind (arith, common_steps)

pub returns : goal.returns
returns c = grind (arith, common_steps)
