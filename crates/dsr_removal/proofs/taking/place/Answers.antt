use Rattle.std.proofs.Common.{◌≡◌, ◌∙◌, ℕ, None, Some, MatchOption, map, slice_get, sym, ap, subst}
use Rattle.dsr_removal.proofs.Largest.{left_is_largest}
use Rattle.dsr_removal.proofs.Ordered.{taken}
use Rattle.dsr_removal.specs.Rounds.{is_late}
use Rattle.dsr_removal.specs.Taking.{AreRowsOf}
use Rattle.dsr_removal.proofs.taking.place.Goals as goal

pub returns-in-Some : goal.returns-in-Some
returns-in-Some c =
    let spec = c.args.spec.now in
    let rounds = c.in_ok-placed.placed.rounds.items in
    let count = c.in_ok-placed.placed.count in
    let are = subst (λ o. MatchOption o ((n : ℕ) × (slice_get rounds n ≡ Some None)) (λ rows. AreRowsOf spec rounds count rows.items)) c.in-Some.is c.in_ok-rows.ensures in
    taken spec rounds count c.in_ok-placed.ensures.rounds_are c.new.result (subst (AreRowsOf spec rounds count) (sym c.new.ensures) are)

pub returns : goal.returns
returns c =
    let spec = c.args.spec.now in
    let rounds = c.in_ok-placed.placed.rounds.items in
    let count = c.in_ok-placed.placed.count in
    let left = subst (λ o. MatchOption o ((n : ℕ) × (slice_get rounds n ≡ Some None)) (λ rows. AreRowsOf spec rounds count rows.items)) c.in-None.is c.in_ok-rows.ensures in
    left_is_largest spec rounds count c.in_ok-placed.ensures c.in_ok-left_at-in-None.field-0.items
    (c.in_ok-left_at-in-None.ensures ∙ ap (map (is_late count)) c.deref.ensures.value) left.0 left.1
