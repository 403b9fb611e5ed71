use Rattle.std.proofs.Common.{subst}
use Rattle.dsr_rows.specs.Functionals.{FindsNextPair}
use Rattle.dsr_rows.proofs.PairsOfRows.{no_next}
use Rattle.dsr_base_tests.proofs.functional.push.Goals as goal

pub push-requires-clause-last : goal.push-requires-clause-last
push-requires-clause-last c =
    let first = c.args.first in
    let found = c.next.result in
    let pairs = c.args.list.now.pairs in
    let all = subst (λ f. FindsNextPair pairs f found) c.from.ensures c.next.ensures.next in
    no_next pairs first found c.if-is_none.ensures all
