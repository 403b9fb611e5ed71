use Rattle.std.proofs.Common.{◌<◌, ◌≤◌, ◌≡◌, length, get_or, refl, subst, arith}
use Rattle.dsr_report_read.proofs.Ahead.{refused}
use Rattle.dsr_report_read.proofs.Views.{in_got, none_viewed, one_viewed}
use Rattle.dsr_report_read.proofs.fields.is_viewed.Goals as goal
use Rattle.dsr_report_read.proofs.fields.is_viewed.Goals.{else-set-pool-via-then-set-pool+else-descends, else-set-pool-via-else-set-pool}

pub returns-then-descends : goal.returns-then-descends
returns-then-descends c =
    let same = c.items-set-items.ensures in
    let i = c.loop-set.set-index in
    let set = c.set-item.result in (
      λ _. record {
        set = set;
        is_in = in_got c.args.base.now.sets i set (subst (λ xs. i < length xs) same c.loop-set-test.true) (subst (λ xs. set ≡ get_or xs i set) same c.set-item.is);
        of_pool = c.if-set-pool.true;
        descends = c.if-descends.ensures.descends.0 refl;
      },
      λ _. refl,
    )

pub loop-set-preserved : goal.loop-set-preserved
loop-set-preserved c =
    let same = c.items-set-items.ensures in
    let i = c.loop-set.set-index in
    let set = c.set-item.result in
    one_viewed c.args.base.now c.args.pool c.args.structure c.args.base.now.sets i set (subst (λ xs. i < length xs) same c.loop-set-test.true) (subst (λ xs. set ≡ get_or xs i set) same c.set-item.is) c.loop-set.invariant
    (elim c.else-set-pool.branch [
      | else-set-pool-via-then-set-pool+else-descends w ↦ λ of_pool descends. refused w.if-descends.ensures.descends descends
      | else-set-pool-via-else-set-pool w ↦ λ of_pool descends. w.if-set-pool.false of_pool
    ])

pub returns : goal.returns
returns c =
    let same = c.items-set-items.ensures in
    let i = c.loop-set.set-index in (
      λ t. absurd cc,
      λ its. absurd (none_viewed c.args.base.now c.args.pool c.args.structure i (let past = subst (λ xs. length xs ≤ i) same c.loop-set-test.false in λ less. omega (arith, less, past)) c.loop-set.invariant its),
    )
