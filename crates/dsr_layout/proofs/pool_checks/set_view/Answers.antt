use Rattle.std.proofs.Common.{◌≡◌, ◌≢◌, ℕ, Bool, true, false, nat_eq, List, [], None, if◌then◌else◌, refl, sym, ◌∙◌, arith}
use Rattle.std.proofs.lemmas.Bool.Decides.{nat_tests}
use Rattle.dsr_meaning.specs.Refusals.{Refusal, refused_when}
use Rattle.dsr_layout.specs.Telling.{told_of}
use Rattle.dsr_layout.proofs.Looking.{goes_on}
use Rattle.dsr_layout.proofs.pool_checks.set_view.Goals as goal
use Rattle.dsr_layout.proofs.pool_checks.set_view.Goals.{else-set-pool-via-then-set-pool+else-is_larger, else-set-pool-via-else-set-pool}

-- nothing is told of a set of another pool
of_other_pool : (a b : ℕ) (rs : List Refusal) → (a ≢ b) → None ≡ told_of (if nat_eq a b then rs else [])
of_other_pool a b rs differ =
    let is : nat_eq a b ≡ false = grind (arith, nat_tests) in
    rw is refl

-- nor of one whose structure isn't larger
of_no_larger : (own larger : Bool) (r : Refusal) → larger ≡ false → None ≡ told_of (if own then refused_when larger r else [])
of_no_larger true larger r e = rw e refl
of_no_larger false larger r e = refl

pub loop-set-preserved : goal.loop-set-preserved
loop-set-preserved c =
    goes_on _ c.args.sets.now c.loop-set.set-index c.set-item.result c.loop-set.set-index _ c.loop-set-test.true c.set-item.is refl (
    elim c.else-set-pool.branch [
      | else-set-pool-via-then-set-pool+else-is_larger w ↦ of_no_larger _ _ _ (sym w.is_larger.ensures ∙ w.if-is_larger.false)
      | else-set-pool-via-else-set-pool w ↦ of_other_pool _ _ _ w.if-set-pool.false
    ])
    ∙ c.loop-set.invariant
