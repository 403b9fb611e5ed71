use Rattle.std.proofs.Common.{◌≡◌, sym, subst}
use Rattle.std.specs.Prelude.{Decides, MatchBool, length}
use Rattle.dsr_placement.specs.Atoms.{IsTested}
use Rattle.dsr_graph.specs.Graphs.{IsOwnerIn}
use Rattle.dsr_graph_theory.specs.Owners.{Owner}
use Rattle.dsr_placement.proofs.Marks.{decided, ok_weaker}
use Rattle.dsr_placement.specs.Placing.{AreTests, IsLeft, IsReliedOnByNone}
use Rattle.dsr_plan_theory.specs.Plans.{Covers}
use Rattle.dsr_plan_theory.specs.Stuck.{IsHeld, MayBeFirst, relied}
use Rattle.dsr_placement.proofs.placing.may_be_first.Goals as goal

pub returns-then-is_relied_on : goal.returns-then-is_relied_on
returns-then-is_relied_on c = λ owner in_graph many same. let r = c.if-is_relied_on.ensures owner in_graph many in relied r.0 r.1 r.2

pub returns : goal.returns
returns c =
    let left = IsLeft c.args.left.now in
    let rows = c.deref.result.now in
    ok_weaker c.covers.result (λ b. Decides b (Covers c.args.constraint.now (IsTested rows)))
    (λ b. (owner : Owner) → IsOwnerIn c.args.graph.now c.args.number owner → length c.args.left.now ≡ length owner.spec.constraints → owner.constraint ≡ c.args.constraint.now → MatchBool b (MayBeFirst owner.spec left c.args.number owner.constraint) (IsHeld owner.spec left c.args.number owner.constraint))
    (λ b told owner in_graph many same.
    let tests = subst (AreTests owner left) (sym c.deref.ensures.value) (c.in_ok-tests.ensures owner in_graph many same) in
    let none = subst (IsReliedOnByNone owner.spec left) (sym in_graph.number_is) (c.if-is_relied_on.ensures owner in_graph many) in
    subst (λ k. MatchBool b (MayBeFirst owner.spec left k owner.constraint) (IsHeld owner.spec left k owner.constraint)) in_graph.number_is
    (decided owner left rows tests b none (subst (λ x. Decides b (Covers x (IsTested rows))) (sym same) told)))
    c.covers.ensures
