use Rattle.std.proofs.Common.{ℕ, List}
use Rattle.dsr_answers.proofs.Refusing.{told_is}
use Rattle.dsr_answers.specs.Refused.{no_token, past_limit, unexpected}
use Rattle.dsr_compile.proofs.Once.{RefusesSyntax}
use Rattle.dsr_compile.proofs.readings.refused_by.Goals as goal

pub returns-in-Token-clause-told : goal.returns-in-Token-clause-told
returns-in-Token-clause-told c =
    told_is (RefusesSyntax c.args.fault) _ _ c.syntax_refused.ensures
    (rw c.in-Token.is (λ text has. no_token c.in-Token.place has))

pub returns-in-Expected-clause-told : goal.returns-in-Expected-clause-told
returns-in-Expected-clause-told c =
    told_is (RefusesSyntax c.args.fault) _ _ c.syntax_refused-in-Expected.ensures
    (rw c.in-Expected.is (λ text has. unexpected c.in-Expected.place has))

pub returns-in-Limit-clause-told : goal.returns-in-Limit-clause-told
returns-in-Limit-clause-told c =
    told_is (RefusesSyntax c.args.fault) _ _ c.syntax_refused-in-Limit.ensures
    (rw c.in-Limit.is (λ text has. past_limit c.in-Limit.place has))
