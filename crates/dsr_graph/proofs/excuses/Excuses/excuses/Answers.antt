use Rattle.std.proofs.Common.{◌↔◌, IsTrue, sym, subst}
use Rattle.std.specs.Prelude.{IsSomeAnd}
use Rattle.dsr_graph_theory.specs.Excuses.{IsExcusedAt}
use Rattle.dsr_graph.proofs.excuses.Excuses.excuses.Goals as goal

pub returns-in-Some : goal.returns-in-Some
returns-in-Some c = λ owner other change tells same are.
    subst (λ o. IsTrue c.excuses_at.result ↔ IsSomeAnd o (IsExcusedAt owner other change c.args.cause.now.reason)) (sym c.in-Some.is)
    (c.excuses_at.ensures owner other change c.args.cause.now.reason tells same are)
