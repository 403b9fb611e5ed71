use Rattle.std.proofs.Common.{◌≡◌, ◌∙◌, ◌-◌, map, sym, ap, subst, arith}
use Rattle.std.proofs.lemmas.Grind.{common_steps}
use Rattle.dsr_placement.specs.Placing.{IsLeft}
use Rattle.dsr_removal.proofs.FirstWays.{row_by}
use Rattle.dsr_removal.proofs.Staying.{left_many}
use Rattle.dsr_removal.specs.Rounds.{is_late}
use Rattle.dsr_removal.specs.Taking.{AreTakenWays}
use Rattle.dsr_removal.proofs.taking.row.Goals as goal

pub returns : goal.returns
returns c = λ owner in_graph many same placed.
    let rounds = c.args.placed.now.rounds.items in
    let round = c.args.round in
    let marks = c.deref-2.result.now in
    let marks_are : marks ≡ map (is_late round) rounds = c.deref-2.ensures.value ∙ (c.in_ok-left.ensures ∙ ap (map (is_late round)) c.deref.ensures.value) in
    let ways = c.in_ok-ways.ensures owner in_graph (left_many marks rounds round marks_are ∙ many) same in
    let below = c.requires.below in
    row_by owner c.args.number in_graph.number_is rounds c.args.placed.now.count round marks marks_are (record { level = c.args.placed.now.count - 1 - round; ways = c.new.result }) (omega (arith, below)) placed
    (subst (AreTakenWays owner (IsLeft marks)) (sym c.new.ensures) ways)

pub all_ways-requires-clause-there : goal.all_ways-requires-clause-there
all_ways-requires-clause-there c =
    let rounds = c.args.placed.now.rounds.items in
    let round = c.args.round in
    let marks = c.deref-2.result.now in
    let marks_are : marks ≡ map (is_late round) rounds = c.deref-2.ensures.value ∙ (c.in_ok-left.ensures ∙ ap (map (is_late round)) c.deref.ensures.value) in
    let its = c.requires.there in
    record { spec = its.spec; graph_is = its.graph_is; constraint_is = its.constraint_is; as_many = its.as_many ∙ sym (left_many marks rounds round marks_are) }

pub all_ways-requires-clause-few : goal.all_ways-requires-clause-few
all_ways-requires-clause-few c = grind (arith, common_steps)
