use Rattle.std.proofs.Common.{sym, ◌∙◌, arith}
use Rattle.std.proofs.lemmas.Bool.{OnTrue_from}
use Rattle.dsr_store.proofs.Failing.{failures_later, failures_next, failures_quiet}
use Rattle.dsr_store.proofs.memory.tick.Goals as goal

pub returns-then-before-lt18446744073709551615-clause-later : goal.returns-then-before-lt18446744073709551615-clause-later
returns-then-before-lt18446744073709551615-clause-later c = failures_later c.args.fail.now c.args.calls.now c.saturating_add.result (omega arith)

pub returns-then-before-lt18446744073709551615-clause-failed : goal.returns-then-before-lt18446744073709551615-clause-failed
returns-then-before-lt18446744073709551615-clause-failed c =
    OnTrue_from c.contains.result _ (λ yes. failures_next c.args.fail.now c.args.calls.now c.saturating_add.result (omega arith) (sym c.contains.ensures.value ∙ yes))

pub returns-then-before-lt18446744073709551615-clause-quiet : goal.returns-then-before-lt18446744073709551615-clause-quiet
returns-then-before-lt18446744073709551615-clause-quiet c unlisted = failures_quiet c.args.fail.now c.args.calls.now c.saturating_add.result (omega arith) (sym c.contains.ensures.value ∙ unlisted)
