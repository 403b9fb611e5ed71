use Rattle.std.proofs.Common.{rules, ◌≡◌, ◌+◌, ◌∷◌, ◌++◌, [], All, true, false, not, IsTrue, Option, Some, None, if◌then◌else◌, refl, sym, ap, subst, ◌∙◌, arith}
use Rattle.std.proofs.lemmas.Grind.{common_steps}
use Rattle.std.proofs.lemmas.List.Elements.{All-append}
use Rattle.std.specs.Option.{option_map_or}
use Rattle.dsr_ir.specs.declared.layouts.PoolNumbers.{PoolNumbers}
use Rattle.dsr_meaning.specs.Layouts.{pool_of}
use Rattle.dsr_meaning.specs.Refusals.{is_computable}
use Rattle.dsr_layout.specs.Pools.{IsComputable, computed}
use Rattle.dsr_layout.specs.Tables.{known, size_in}
use Rattle.dsr_layout.proofs.Collecting.{collected_next}
use Rattle.dsr_layout.proofs.Looking.{goes_on, none_where}
use Rattle.dsr_layout.proofs.pools.pools_of.Goals as goal

-- numbers that were computed are those of the pool, and computable
are_numbers : (o : Option PoolNumbers) (n : PoolNumbers) → computed o ≡ Some n → (o ≡ Some n) × IsComputable n
are_numbers None n e = absurd cc
are_numbers (Some m) n e =
    elim (is_computable m) as (λ b. is_computable m ≡ b → (if b then Some m else None) ≡ Some n → (Some m ≡ Some n) × IsTrue (is_computable n)) [
      | true ↦ λ holds same.
          let is : m ≡ n = cc in
          (same, subst (λ k. is_computable k ≡ true) is holds)
      | false ↦ λ holds same. absurd cc
    ] refl e

-- so the pool isn't refused
not_refused : (o : Option PoolNumbers) (n : PoolNumbers) → o ≡ Some n → IsComputable n → false ≡ not (option_map_or is_computable o false)
not_refused o n is holds = rw (is, holds) refl

are_computable : (n : PoolNumbers) → IsComputable n → All IsComputable (n ∷ [])
are_computable n holds = search (rules, holds)

pub loop-pool-init : goal.loop-pool-init
loop-pool-init c = (ap Some (sym c.new-numbers.ensures.items), search rules, refl)

pub loop-pool-preserved : goal.loop-pool-preserved
loop-pool-preserved c =
    let are = are_numbers (pool_of (known c.args.fixed.now) (size_in c.args.ends.now) c.pool-item.result) c.in-Some.computed (sym c.computed.ensures ∙ c.in-Some.is) in
    let now : c.push.new.self.items ≡ c.loop-pool.numbers.items ++ c.in-Some.computed ∷ [] = c.in_ok-push-in-Some.ensures.items in
    let all = All-append IsComputable _ _ c.loop-pool.invariant.1 (are_computable c.in-Some.computed are.1) in (
      collected_next (pool_of (known c.args.fixed.now) (size_in c.args.ends.now)) 1 c.args.pools.now c.loop-pool.pool-index c.pool-item.result c.loop-pool-test.true c.pool-item.is c.loop-pool.invariant.0 are.0 ∙ ap Some (sym now),
      subst (λ ns. All IsComputable ns) (sym now) all,
      goes_on _ c.args.pools.now c.loop-pool.pool-index c.pool-item.result (c.loop-pool.pool-index + 1) _ c.loop-pool-test.true c.pool-item.is refl (none_where _ (not_refused _ _ are.0 are.1)) ∙ c.loop-pool.invariant.2,
    )

pub returns-in-None-clause-refused : goal.returns-in-None-clause-refused
returns-in-None-clause-refused c = grind (arith, common_steps)

pub returns-clause-numbers : goal.returns-clause-numbers
returns-clause-numbers c = grind (arith, common_steps)

pub returns-clause-valued : goal.returns-clause-valued
returns-clause-valued c = grind (arith, common_steps)
