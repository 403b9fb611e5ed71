use Rattle.std.proofs.Common.{◌≡◌, ◌++◌, [], ◌∷◌, Some, length, drop, slice_get, sym, ap, subst, ◌∙◌, arith}
use Rattle.std.proofs.lemmas.Result.{IfOk-weaker}
use Rattle.std.proofs.lemmas.Option.{slice_get_within}
use Rattle.dsr_compensate.proofs.Each.{length_more}
use Rattle.dsr_meaning.specs.Counting.{IsIn}
use Rattle.dsr_plan_theory.specs.StuckSets.{IsCycle}
use Rattle.dsr_removal.proofs.Walks.{closes, first_number, found_some, found_there, walk_short, walk_starts, walks_on}
use Rattle.dsr_removal.specs.Members.{IsWalk, WaitsAmong}
use Rattle.dsr_removal.proofs.cycles.cycle.Goals as goal

pub loop-place-init : goal.loop-place-init
loop-place-init c =
    let members = c.args.members.now in
    rw c.new-path.ensures.items (walk_starts members _ (first_number members c.index-members-0.result c.requires.some))

pub loop-place-preserved : goal.loop-place-preserved
loop-place-preserved c =
    let members = c.args.members.now in
    let path = c.loop-place.path.items in
    let at = c.loop-place.at in
    let new = subst (λ xs. IsIn at xs → ⊥) c.deref.ensures.value c.in_default.ensures in
    let waits = found_there (WaitsAmong members at) c.next.result c.unwrap-at.result (c.next.ensures c.requires.waits c.loop-place.invariant.here) c.unwrap-at.ensures in
    subst (λ xs. IsWalk members xs c.unwrap-at.result) (sym c.in_ok-push.ensures.items) (walks_on members path at c.unwrap-at.result c.loop-place.invariant new waits)

pub loop-place-smaller : goal.loop-place-smaller
loop-place-smaller c =
    let path = c.loop-place.path.items in
    let at = c.loop-place.at in
    let new = subst (λ xs. IsIn at xs → ⊥) c.deref.ensures.value c.in_default.ensures in
    let short = walk_short c.args.members.now path at c.loop-place.invariant new in
    let longer = ap length c.in_ok-push.ensures.items ∙ length_more path at in
    omega (arith, short, longer)

pub unwrap-at-requires : goal.unwrap-at-requires
unwrap-at-requires c = found_some (WaitsAmong c.args.members.now c.loop-place.at) c.next.result (c.next.ensures c.requires.waits c.loop-place.invariant.here)

pub closed-requires : goal.closed-requires
closed-requires c =
    let there = subst (λ xs. slice_get xs c.in-Some.place ≡ Some c.loop-place.at) c.deref.ensures.value c.in-Some.ensures in
    let below = slice_get_within c.loop-place.path.items c.in-Some.place c.loop-place.at there in
    rw c.deref-in-Some.ensures.value (omega (arith, below))

pub returns-in-Some : goal.returns-in-Some
returns-in-Some c =
    let there = subst (λ xs. slice_get xs c.in-Some.place ≡ Some c.loop-place.at) c.deref.ensures.value c.in-Some.ensures in
    IfOk-weaker c.closed.result (λ numbers. numbers.items ≡ drop c.in-Some.place c.deref-in-Some.result.now ++ c.loop-place.at ∷ []) (λ numbers. IsCycle c.args.members.now numbers.items)
    (λ numbers is. closes c.args.members.now c.loop-place.path.items c.loop-place.at c.in-Some.place numbers.items c.loop-place.invariant there (is ∙ ap (λ xs. drop c.in-Some.place xs ++ c.loop-place.at ∷ []) c.deref-in-Some.ensures.value))
    c.closed.ensures
